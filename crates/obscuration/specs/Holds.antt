-- What is proved of the covered share: document 02, wish 4. The proof: ShareLaws, `Share-holds`.
use Rattle.std.specs.Prelude.{◌≡◌, ◌≤◌, ℤ, pos, nat_abs, ◌+ℤ◌, ◌-ℤ◌, ◌*ℤ◌, ◌≤ℤ◌, ◌<ℤ◌}
use Rattle.obscuration.specs.Share.{share, rOf, n_of, m_of, Sizes}

-- "the total phase is sure": "L2 below zero is total", and central is inside: L > g and M < (L-g)², where L is the size
-- of L2 and g the guard
pub record TotalSure (g L2 M : ℤ) : Type 0 where
  pub total : L2 <ℤ pos 0
  pub over : g <ℤ pos (nat_abs L2)
  pub inside : M <ℤ ((pos (nat_abs L2) -ℤ g) *ℤ (pos (nat_abs L2) -ℤ g))

pub record ShareHolds (L1 L2 M : ℤ) : Type 0 where
  -- "It lies from 0 to 1,000,000"
  pub limit : share L1 L2 M ≤ 1000000
  -- "and is 1,000,000 wherever the total phase is sure.": under any guard
  pub total : (g : ℤ) → pos 0 ≤ℤ g → TotalSure g L2 M → share L1 L2 M ≡ 1000000
  -- it is 0 where the discs touch at most, so where M is at least L1², and wherever the penumbra is surely left
  pub apart : (rOf L1 L2 +ℤ n_of L1 L2) ≤ℤ m_of M → share L1 L2 M ≡ 0
  pub beyond : (L1 *ℤ L1) ≤ℤ M → share L1 L2 M ≡ 0
  pub outside : (g : ℤ) → pos 0 ≤ℤ g → ((L1 +ℤ g) *ℤ (L1 +ℤ g)) <ℤ M → share L1 L2 M ≡ 0

-- for all that can arise
abbrev pub AllHold : Type 0
AllHold = (L1 L2 M : ℤ) → Sizes L1 L2 M → ShareHolds L1 L2 M

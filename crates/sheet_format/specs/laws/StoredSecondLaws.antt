-- Laws of seconds as they are stored, from -10,800 on.
use Rattle.std.specs.Prelude.{◌≡◌, refl, ℕ, ◌+◌, ℤ, pos, negsuc, neg_ℤ, ◌+ℤ◌, ◌-ℤ◌, ◌≤ℤ◌}
use Rattle.std.proofs.Common.{ap, arith}
use Rattle.rounding.specs.Parts.{pos_p, neg_p, sum, opposite, same}
use Rattle.rounding.specs.laws.Order.{zs}
use Rattle.sheet_format.specs.StoredSeconds.{stored, second_of}

-- the stored second is the natural number τ + 10,800
pub stored_is : (τ : ℤ) → neg_ℤ (pos 10800) ≤ℤ τ → pos (stored τ) ≡ τ +ℤ pos 10800
unfolding stored
stored_is τ h = natural (τ +ℤ pos 10800) (omega (arith, zs, (sum τ (pos 10800)).is, (opposite (pos 10800)).is))
  where
    natural : (z : ℤ) → pos 0 ≤ℤ z → pos (pos_p z) ≡ z
    natural (pos n) h = refl
    natural (negsuc n) h = absurd h.le

-- and it is read back
pub second-stored : (τ : ℤ) → neg_ℤ (pos 10800) ≤ℤ τ → second_of (stored τ) ≡ τ
second-stored τ h =
    same (pos (stored τ) -ℤ pos 10800) τ
    (omega (
      arith,
      (sum (pos (stored τ)) (neg_ℤ (pos 10800))).is,
      (opposite (pos 10800)).is,
      ap pos_p (stored_is τ h),
      ap neg_p (stored_is τ h),
      (sum τ
          (pos 10800)).is,
    ))

pub stored-later : (τ : ℤ) (k : ℕ) → neg_ℤ (pos 10800) ≤ℤ τ → stored (τ +ℤ pos k) ≡ stored τ + k
stored-later τ k h =
    let l : neg_ℤ (pos 10800) ≤ℤ (τ +ℤ pos k) = omega (arith, zs, (sum τ (pos k)).is) in
    omega (
      arith,
      ap pos_p (stored_is τ h),
      ap neg_p (stored_is τ h),
      ap pos_p (stored_is (τ +ℤ pos k) l),
      ap neg_p (stored_is (τ +ℤ pos k) l),
      (sum τ (pos 10800)).is,
      (sum (τ +ℤ pos k) (pos 10800)).is,
      (sum τ (pos k)).is,
    )

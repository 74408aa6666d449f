-- Table S rises from entry to entry, by one test that is computed over the nearest numbers.
use Rattle.std.specs.Prelude.{◌≡◌, Bool, ℕ, zero, suc, ◌≤◌, ◌<◌, T, ltb}
use Rattle.std.proofs.Common.{subst, sym, ⊎_elim, arith, eq-or-lt_of_le, le_of_suc-le-suc, not-suc-le-zero, ltb→lt}
use Rattle.sine_table.specs.Table.{S}
use Rattle.sine_table.specs.laws.TableLaws.{nearest, S-nearest}
use Rattle.sine_table.specs.laws.Computed.{up_to, at_up_to}

-- entry k is less than the next
unfoldable rise : ℕ → Bool
unfolding nearest
rise k = ltb (nearest k) (nearest (suc k))

all-rise : T (up_to rise 900)
unfolding rise
all-rise = tt

next_rises : (k : ℕ) → k < 900 → S k < S (suc k)
unfolding rise
next_rises k h =
    rw (S-nearest k (omega arith), S-nearest (suc k) (omega arith)) (ltb→lt (nearest k) (nearest (suc k)) (at_up_to rise 900 all-rise k h))

pub S_rises : (j k : ℕ) → j < k → k ≤ 900 → S j < S k
S_rises j zero h l = absurd (not-suc-le-zero h)
S_rises j (suc k) h l =
    ⊎_elim (λ (e : j ≡ k). subst (λ (i : ℕ). S i < S (suc k)) (sym e) (next_rises k (omega arith)))
    (λ (i : j < k). omega (arith, S_rises j k i (omega arith), next_rises k (omega arith)))
    (eq-or-lt_of_le (le_of_suc-le-suc h))

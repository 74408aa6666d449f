-- A distance that some second reaches.
--   reached_far           one that second 0 does
--   seen_nonneg           M of a second that was seen is not negative
use Rattle.std.proofs.Common.{sym, subst, arith}
use Rattle.std.specs.Prelude.{ℕ, ◌<◌, ℤ, pos, ◌*ℤ◌, ◌≤ℤ◌}
use Rattle.std.specs.Int.Signed.{le_z_yes}
use Rattle.rounding.specs.laws.Order.{≤ℤ_trans, le_nat_abs}
use Rattle.shadow_geometry.proofs.laws.Sizes.{M_nonneg}
use Rattle.shadow.specs.declared.Sample.{Sample}
use Rattle.requests.specs.declared.Occultation.{Occultation}
use Rattle.requests.specs.Windows.{nth_second}
use Rattle.seconds.specs.Seconds.{moment_at}
use Rattle.exclusion_test.specs.Samples.{IsAt, square_at}
use Rattle.adaptive_sampling.specs.declared.seeds.Low.{Low}
use Rattle.adaptive_sampling.specs.Reach.{Seen, Reached}

pub square_nonneg : (o : Occultation) (k : ℕ) → pos 0 ≤ℤ square_at o k
unfolding square_at
square_nonneg o k = M_nonneg (moment_at o (nth_second o.window k))

-- the square of second 0 is known to the code
pub reached_far : (o : Occultation) (n : ℕ) → 0 < n → (s : Sample) → IsAt o 0 s → Reached o n 1000000000
unfolding square_at
reached_far o n some s i =
    record {
      few = omega arith;
      second = 0;
      small = some;
      reached = subst (λ (z : ℤ). z ≤ℤ (pos 1000000000 *ℤ pos 1000000000)) i.m.value (≤ℤ_trans (le_nat_abs s.m i.m.size) (le_z_yes tt));
    }

pub seen_nonneg : {o : Occultation} {n : ℕ} {w : Low} → Seen o n w → pos 0 ≤ℤ w.m
seen_nonneg {o} {n} {w} s = subst (λ (z : ℤ). pos 0 ≤ℤ z) (sym s.is) (square_nonneg o w.second)

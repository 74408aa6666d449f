-- How large sine and cosine are, by the entries of table S. Angles are in units of 10^-6 degree.
--   sine_small   up to 25.1 degrees
--   square-sum   the squares make nearly 10^16, up to 90 degrees
use Rattle.std.specs.Prelude.{◌≡◌, refl, ℕ, suc, ◌+◌, ◌*◌, ◌-◌, ◌/◌, ◌≤◌, ◌<◌, ℤ, pos, negsuc, nat_abs}
use Rattle.std.proofs.Common.{◌∙◌, ap, ⊎_elim, arith, mul-le-mul, eq-or-lt_of_le}
use Rattle.rounding.specs.laws.Order.{nat_abs_opposite}
use Rattle.sine_table.specs.Table.{S}
use Rattle.sine_table.specs.laws.TableLaws.{entry-low, entry-squares, entry-squares-less}
use Rattle.sine.specs.FirstQuadrant.{first_quadrant}
use Rattle.sine.specs.laws.FirstQuadrantLaws.{first-least, first-most}
use Rattle.sine.specs.Sine.{sine, cosine}
use Rattle.sine.specs.laws.SineLaws.{sine-first, cosine-first}
use Rattle.sine.specs.laws.OppositeLaws.{sine-opposite, cosine-opposite}

-- the size is that of the angle's size
sine_nat_abs : (z : ℤ) → nat_abs (sine z) ≡ nat_abs (sine (pos (nat_abs z)))
sine_nat_abs (pos m) = refl
sine_nat_abs (negsuc n) = ap nat_abs (sine-opposite (pos (suc n))) ∙ nat_abs_opposite (sine (pos (suc n)))

cosine_nat_abs : (z : ℤ) → cosine z ≡ cosine (pos (nat_abs z))
cosine_nat_abs (pos m) = refl
cosine_nat_abs (negsuc n) = cosine-opposite (pos (suc n))

-- up to 25.1 degrees
pub sine_small : (z : ℤ) → nat_abs z ≤ 25_100_000 → nat_abs (sine z) ≤ 43_000_000
sine_small z h =
    let m = nat_abs z in
    omega (
      arith,
      sine_nat_abs z,
      ap nat_abs (sine-first m (omega arith)),
      first-most m (omega arith),
      entry-low (m / 100_000) (omega arith),
    )

-- the squares make nearly 10^16, up to 90 degrees
pub square-sum : (z : ℤ) → nat_abs z ≤ 90_000_000 → 9_982_500_000_000_000 ≤ nat_abs (sine z) * nat_abs (sine z) + nat_abs (cosine z) * nat_abs (cosine z)
square-sum z h =
    rw (sine_nat_abs z, cosine_nat_abs z, sine-first (nat_abs z) h, cosine-first (nat_abs z) h) (squares (nat_abs z) h)
  where
    squares : (a : ℕ) → a ≤ 90_000_000
        → 9_982_500_000_000_000 ≤ nat_abs (first_quadrant a) * nat_abs (first_quadrant a) + nat_abs (first_quadrant (90_000_000 - a)) * nat_abs
        (first_quadrant (90_000_000 - a))
    squares a h =
        let k = a / 100_000 in
        let j = (90_000_000 - a) / 100_000 in
        let s = first-least a h in
        let c = first-least (90_000_000 - a) (omega arith) in
        let squares : S k * S k ≤ nat_abs (first_quadrant a) * nat_abs (first_quadrant a) = mul-le-mul s s in
        let others : S j * S j ≤ nat_abs (first_quadrant (90_000_000 - a)) * nat_abs (first_quadrant (90_000_000 - a)) = mul-le-mul c c in
        ⊎_elim (λ (e : j ≡ 900 - k). omega (arith, rw (← e) at (entry-squares k (omega arith))))
        (λ (l : j < 900 - k). let e : j ≡ 899 - k = omega arith in omega (arith, rw (← e) at (entry-squares-less k (omega arith))))
        (eq-or-lt_of_le opposite)
      where
        opposite : (90_000_000 - a) / 100_000 ≤ 900 - a / 100_000
        opposite = omega arith

-- The first and second differences of the two series, from one millionth of a degree to the next, from 0 to 90
-- degrees: over `common` at most 174,533·10^-13 and 3,048·10^-19.
--   sine-series-step, cosine-series-step     10^13 |p(m+1) - p(m)| ≤ 174533 common
--   sine-series_bend, cosine-series_bend     10^19 |p(m+2) - 2 p(m+1) + p(m)| ≤ 3048 common
--   last-sine, first-cosine, last-cosine, first-sine   where one series ends at 90 degrees and the other begins: ≤ 3060 common
-- Why: with θ the millionth of a degree in radians, θ² is 3046·10^-19 nearly, and p(m+2) - 2 p(m+1) + p(m) + θ² p(m+1) is a polynomial whose coefficients
-- are small (two tests of one list each); p itself is at most 1 and a little. In the same way p(m+1) - p(m) is θ times
-- the other series, up to a polynomial whose coefficients are small.
use Rattle.std.specs.Prelude.{◌≡◌, List, [], ◌∷◌, ℕ, ◌+◌, ◌*◌, ◌≤◌, ℤ, pos, neg_ℤ, nat_abs, ◌+ℤ◌, ◌-ℤ◌, ◌*ℤ◌}
use Rattle.std.proofs.Common.{sym, ◌∙◌, ap, ap₂, arith, mul-le-mul_left, mul-le-mul_right, leb→le}
use Rattle.rounding.specs.laws.Order.{nat_abs_minus, nat_abs_product}
use Rattle.rounding.specs.laws.Ring.{num, ◌⊕◌, ◌⊖◌, ◌⊗◌, opp, ring, v0, v1, v2, v3}
use Rattle.sine_table.specs.Table.{factorial, numerator}
use Rattle.sine.specs.Sine.{sine, cosine}
use Rattle.sine.specs.laws.SineLaws.{sine-size, cosine-size}
use Rattle.sine_accuracy.specs.Series.{denominator, common, term, sine_series, cosine_series}
use Rattle.sine_accuracy.specs.laws.Lists.{worth, carry, moved, added, size, worth-added, worth-moved, worth-size}
use Rattle.sine_accuracy.specs.laws.Coefficients.{part, sines, cosines}
use Rattle.sine_accuracy.proofs.laws.Coefficients.{sine-worth, cosine-worth}
use Rattle.sine_accuracy.specs.TrueSine.{Within}
use Rattle.sine_accuracy.proofs.laws.EveryAngle.{sine-true, cosine-true}

-- 10^19 (p(x+2) - 2 p(x+1) + p(x)) + 3046 p(x+1) as a polynomial in x
unfoldable pub rest : List ℤ → List ℤ
unfolding added moved
rest ps =
    added (pos 10_000_000_000_000_000_000) (moved (pos 2) ps)
    (added (neg_ℤ (pos 19_999_999_999_999_996_954)) (moved (pos 1) ps) (added (pos 10_000_000_000_000_000_000) ps []))

worth-rest : (x : ℤ) (ps : List ℤ)
    → worth (rest ps) x
    ≡ pos 10_000_000_000_000_000_000 *ℤ (worth ps (pos 2 +ℤ x) -ℤ pos 2 *ℤ worth ps (pos 1 +ℤ x) +ℤ worth ps x) +ℤ pos 3046 *ℤ worth ps (pos 1 +ℤ x)
unfolding rest worth
worth-rest x ps =
    let a = worth ps (pos 2 +ℤ x) in
    let b = worth ps (pos 1 +ℤ x) in
    let c = worth ps x in
    let e = pos 10_000_000_000_000_000_000 in
    let g = neg_ℤ (pos 19_999_999_999_999_996_954) in
    worth-added e x (moved (pos 2) ps) (added g (moved (pos 1) ps) (added e ps []))
    ∙ ap₂ (λ (y z : ℤ). e *ℤ y +ℤ z) (worth-moved (pos 2) x ps) (worth-added g x (moved (pos 1) ps) (added e ps []))
    ∙ ap₂ (λ (y z : ℤ). e *ℤ a +ℤ (g *ℤ y +ℤ z)) (worth-moved (pos 1) x ps) (worth-added e x ps [])
    ∙ ring (a ∷ b ∷ c ∷ [])
    (num 10_000_000_000_000_000_000 ⊗ v0 ⊕ (opp (num 19_999_999_999_999_996_954) ⊗ v1 ⊕ (num 10_000_000_000_000_000_000 ⊗ v2 ⊕ num 0)))
    (num 10_000_000_000_000_000_000 ⊗ (v0 ⊖ num 2 ⊗ v1 ⊕ v2) ⊕ num 3046 ⊗ v1) tt

sine-rest : size 90_000_000 (rest sines) ≤ common
unfolding factorial denominator common part sines carry moved added size rest
sine-rest = leb→le (size 90_000_000 (rest sines)) common tt

cosine-rest : size 90_000_000 (rest cosines) ≤ common
unfolding factorial denominator common part cosines carry moved added size rest
cosine-rest = leb→le (size 90_000_000 (rest cosines)) common tt

-- from the size of p at m + 1
bend_by : (ps : List ℤ) (m : ℕ) → m ≤ 90_000_000 → size 90_000_000 (rest ps) ≤ common
    → 100_000_000 * nat_abs (worth ps (pos (m + 1))) ≤ 100_000_002 * common
    → 10_000_000_000_000_000_000 * nat_abs (worth ps (pos (m + 2)) -ℤ pos 2 *ℤ worth ps (pos (m + 1)) +ℤ worth ps (pos m)) ≤ 3048 * common
bend_by ps m h t s =
    let p2 : pos 2 +ℤ pos m ≡ pos (m + 2) = ap pos (omega arith) in
    let p1 : pos 1 +ℤ pos m ≡ pos (m + 1) = ap pos (omega arith) in
    let a = worth ps (pos (m + 2)) in
    let b = worth ps (pos (m + 1)) in
    let c = worth ps (pos m) in
    let d = a -ℤ pos 2 *ℤ b +ℤ c in
    let q : worth (rest ps) (pos m) ≡ pos 10_000_000_000_000_000_000 *ℤ d +ℤ pos 3046 *ℤ b = rw (p2, p1) at (worth-rest (pos m) ps) in
    omega (
      arith,
      worth-size 90_000_000 (pos m) h (rest ps),
      ap nat_abs (ring (worth (rest ps) (pos m) ∷ d ∷ b ∷ []) (num 10_000_000_000_000_000_000 ⊗ v1) (num 10_000_000_000_000_000_000 ⊗ v1 ⊕ num 3046 ⊗ v2 ⊖ num 3046 ⊗ v2) tt
          ∙ ap (λ (z : ℤ). z -ℤ pos 3046 *ℤ b) (sym q)),
      nat_abs_minus (worth (rest ps) (pos m)) (pos 3046 *ℤ b),
      nat_abs_product (pos 10_000_000_000_000_000_000) d,
      nat_abs_product (pos 3046) b,
      t,
      s,
    )

-- a series is at most 1 and a little
within-size : (x y : ℤ) → nat_abs x ≤ 100_000_000 → Within x y → 100_000_000 * nat_abs y ≤ 100_000_002 * common
within-size x y h w =
    omega (
      arith,
      w.within,
      ap nat_abs (ring (pos common ∷ x ∷ y ∷ []) (num 100_000_000 ⊗ v2) (v0 ⊗ v1 ⊖ (v0 ⊗ v1 ⊖ num 100_000_000 ⊗ v2)) tt),
      nat_abs_minus (pos common *ℤ x) (pos common *ℤ x -ℤ pos 100_000_000 *ℤ y),
      nat_abs_product (pos 100_000_000) y,
      nat_abs_product (pos common) x,
      mul-le-mul_left common h,
    )

pub sine-series_bend : (m : ℕ) → m + 2 ≤ 90_000_000
    → 10_000_000_000_000_000_000 * nat_abs (sine_series (m + 2) -ℤ pos 2 *ℤ sine_series (m + 1) +ℤ sine_series m) ≤ 3048 * common
sine-series_bend m h =
    let s = within-size (sine (pos (m + 1))) (sine_series (m + 1)) (sine-size (pos (m + 1))) (sine-true (m + 1) (omega arith)) in
    rw (sine-worth (m + 2), sine-worth (m + 1), sine-worth m) (omega (arith, bend_by sines m (omega arith) sine-rest (rw (sine-worth (m + 1)) at s)))

pub cosine-series_bend : (m : ℕ) → m + 2 ≤ 90_000_000
    → 10_000_000_000_000_000_000 * nat_abs (cosine_series (m + 2) -ℤ pos 2 *ℤ cosine_series (m + 1) +ℤ cosine_series m) ≤ 3048 * common
cosine-series_bend m h =
    let s = within-size (cosine (pos (m + 1))) (cosine_series (m + 1)) (cosine-size (pos (m + 1))) (cosine-true (m + 1) (omega arith)) in
    rw (cosine-worth (m + 2), cosine-worth (m + 1), cosine-worth m) (omega (arith, bend_by cosines m (omega arith) cosine-rest (rw (cosine-worth (m + 1)) at s)))

-- ---- first differences

-- 10^16 (p(x+1) - p(x)) + g q(x) as a polynomial in x
unfoldable pub rise : ℤ → List ℤ → List ℤ → List ℤ
unfolding added moved
rise g ps qs = added (pos 10_000_000_000_000_000) (moved (pos 1) ps) (added (neg_ℤ (pos 10_000_000_000_000_000)) ps (added g qs []))

worth-rise : (g x : ℤ) (ps qs : List ℤ)
    → worth (rise g ps qs) x ≡ pos 10_000_000_000_000_000 *ℤ (worth ps (pos 1 +ℤ x) -ℤ worth ps x) +ℤ g *ℤ worth qs x
unfolding rise worth
worth-rise g x ps qs =
    let a = worth ps (pos 1 +ℤ x) in
    let b = worth ps x in
    let c = worth qs x in
    let e = pos 10_000_000_000_000_000 in
    worth-added e x (moved (pos 1) ps) (added (neg_ℤ e) ps (added g qs []))
    ∙ ap₂ (λ (y z : ℤ). e *ℤ y +ℤ z) (worth-moved (pos 1) x ps) (worth-added (neg_ℤ e) x ps (added g qs []))
    ∙ ap (λ (z : ℤ). e *ℤ a +ℤ (neg_ℤ e *ℤ b +ℤ z)) (worth-added g x qs [])
    ∙ ring (a ∷ b ∷ c ∷ g ∷ [])
    (num 10_000_000_000_000_000 ⊗ v0 ⊕ (opp (num 10_000_000_000_000_000) ⊗ v1 ⊕ (v3 ⊗ v2 ⊕ num 0)))
    (num 10_000_000_000_000_000 ⊗ (v0 ⊖ v1) ⊕ v3 ⊗ v2) tt

sine-rise : size 90_000_000 (rise (neg_ℤ (pos 174_532_925)) sines cosines) ≤ 5 * common
unfolding factorial denominator common part sines cosines carry moved added size rise
sine-rise = leb→le (size 90_000_000 (rise (neg_ℤ (pos 174_532_925)) sines cosines)) (5 * common) tt

cosine-rise : size 90_000_000 (rise (pos 174_532_925) cosines sines) ≤ 5 * common
unfolding factorial denominator common part sines cosines carry moved added size rise
cosine-rise = leb→le (size 90_000_000 (rise (pos 174_532_925) cosines sines)) (5 * common) tt

-- from the size of the other series at m
step_by : (g : ℤ) (ps qs : List ℤ) (m : ℕ) → m ≤ 90_000_000 → nat_abs g ≤ 174_532_925 → size 90_000_000 (rise g ps qs) ≤ 5 * common
    → 100_000_000 * nat_abs (worth qs (pos m)) ≤ 100_000_002 * common
    → 10_000_000_000_000 * nat_abs (worth ps (pos (m + 1)) -ℤ worth ps (pos m)) ≤ 174_533 * common
step_by g ps qs m h hg t s =
    let p1 : pos 1 +ℤ pos m ≡ pos (m + 1) = ap pos (omega arith) in
    let d = worth ps (pos (m + 1)) -ℤ worth ps (pos m) in
    let c = worth qs (pos m) in
    let q : worth (rise g ps qs) (pos m) ≡ pos 10_000_000_000_000_000 *ℤ d +ℤ g *ℤ c = rw p1 at (worth-rise g (pos m) ps qs) in
    omega (
      arith,
      worth-size 90_000_000 (pos m) h (rise g ps qs),
      ap nat_abs (ring (d ∷ (g *ℤ c) ∷ []) (num 10_000_000_000_000_000 ⊗ v0) (num 10_000_000_000_000_000 ⊗ v0 ⊕ v1 ⊖ v1) tt
          ∙ ap (λ (z : ℤ). z -ℤ g *ℤ c) (sym q)),
      nat_abs_minus (worth (rise g ps qs) (pos m)) (g *ℤ c),
      nat_abs_product (pos 10_000_000_000_000_000) d,
      nat_abs_product g c,
      mul-le-mul_right (nat_abs c) hg,
      t,
      s,
    )

pub sine-series-step : (m : ℕ) → m + 1 ≤ 90_000_000 → 10_000_000_000_000 * nat_abs (sine_series (m + 1) -ℤ sine_series m) ≤ 174_533 * common
sine-series-step m h =
    let s = within-size (cosine (pos m)) (cosine_series m) (cosine-size (pos m)) (cosine-true m (omega arith)) in
    rw (sine-worth (m + 1), sine-worth m)
    (step_by (neg_ℤ (pos 174_532_925)) sines cosines m (omega arith) (omega arith) sine-rise (rw (cosine-worth m) at s))

pub cosine-series-step : (m : ℕ) → m + 1 ≤ 90_000_000 → 10_000_000_000_000 * nat_abs (cosine_series (m + 1) -ℤ cosine_series m) ≤ 174_533 * common
cosine-series-step m h =
    let s = within-size (sine (pos m)) (sine_series m) (sine-size (pos m)) (sine-true m (omega arith)) in
    rw (cosine-worth (m + 1), cosine-worth m)
    (step_by (pos 174_532_925) cosines sines m (omega arith) (omega arith) cosine-rise (rw (sine-worth m) at s))

-- ---- where one series ends and the other begins

pub last-sine : nat_abs (pos 10_000_000_000_000_000_000 *ℤ (cosine_series 0 -ℤ pos 2 *ℤ sine_series 89_999_999 +ℤ sine_series 89_999_998)) ≤ 3060 * common
unfolding factorial denominator common numerator term sine_series cosine_series
last-sine =
    leb→le (nat_abs (pos 10_000_000_000_000_000_000 *ℤ (cosine_series 0 -ℤ pos 2 *ℤ sine_series 89_999_999 +ℤ sine_series 89_999_998))) (3060 * common) tt

pub first-cosine : nat_abs (pos 10_000_000_000_000_000_000 *ℤ (cosine_series 1 -ℤ pos 2 *ℤ cosine_series 0 +ℤ sine_series 89_999_999)) ≤ 3060 * common
unfolding factorial denominator common numerator term sine_series cosine_series
first-cosine =
    leb→le (nat_abs (pos 10_000_000_000_000_000_000 *ℤ (cosine_series 1 -ℤ pos 2 *ℤ cosine_series 0 +ℤ sine_series 89_999_999))) (3060 * common) tt

pub last-cosine : nat_abs (pos 10_000_000_000_000_000_000 *ℤ (neg_ℤ (sine_series 0) -ℤ pos 2 *ℤ cosine_series 89_999_999 +ℤ cosine_series 89_999_998)) ≤ 3060 * common
unfolding factorial denominator common numerator term sine_series cosine_series
last-cosine =
    leb→le (nat_abs (pos 10_000_000_000_000_000_000 *ℤ (neg_ℤ (sine_series 0) -ℤ pos 2 *ℤ cosine_series 89_999_999 +ℤ cosine_series 89_999_998))) (3060 * common) tt

pub first-sine : nat_abs (pos 10_000_000_000_000_000_000 *ℤ (neg_ℤ (sine_series 1) -ℤ pos 2 *ℤ neg_ℤ (sine_series 0) +ℤ cosine_series 89_999_999)) ≤ 3060 * common
unfolding factorial denominator common numerator term sine_series cosine_series
first-sine =
    leb→le (nat_abs (pos 10_000_000_000_000_000_000 *ℤ (neg_ℤ (sine_series 1) -ℤ pos 2 *ℤ neg_ℤ (sine_series 0) +ℤ cosine_series 89_999_999))) (3060 * common) tt

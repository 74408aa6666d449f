-- That `sine_series` is the series of table S, that little is cut off, and that 1.78 is nearly reached.
--   same-series, same-common   at the tenths of a degree it is the fraction of sine's `Table`
--   sine-cut, cosine-cut       the first term that is left out, up to 90 degrees: at most 2·10^-10 and 2·10^-9 of a unit
--   rest-cut                   the same for the rest of an angle (Angles): at most 10^-14 and 10^-22 of a unit
--   rest-row                   the sum of angles turns the right way: 33.092914 degrees and a millionth more are 33.092915
--   worst                      at 33.092914 degrees the rule is more than 1.72 units off
use Rattle.std.specs.Prelude.{◌≡◌, refl, Bool, [], ◌∷◌, ℕ, ◌-◌, ◌*◌, ◌/◌, ◌^◌, ◌≤◌, ◌<◌, T, leb, ltb, ℤ, pos, nat_abs, ◌-ℤ◌, ◌*ℤ◌}
use Rattle.std.proofs.Common.{◌∙◌, ap, ap₂, arith, le_trans, mul-le-mul_right, leb→le, ltb→lt}
use Rattle.std.proofs.Math.Nat.{mul-le-mul_left, pow-le-pow_left}
use Rattle.rounding.specs.laws.Order.{nat_abs_product}
use Rattle.rounding.specs.laws.Ring.{var, ◌⊕◌, ◌⊖◌, ◌⊗◌, ring, v0, v1, v2, v3, v4, v5, v6, v7, v8, v9}
use Rattle.rounding.specs.Near.{near}
use Rattle.sine_table.specs.Table.{factorial, numerator, denominator as tableDenominator, common as tableCommon, term as tableTerm, series, S}
use Rattle.sine.specs.FirstQuadrant.{arc, sag, between, capped, first_quadrant}
use Rattle.sine_table.specs.laws.Computed.{both}
use Rattle.sine.specs.Sine.{reduced, sineIn, sine}
use Rattle.sine_accuracy.specs.Series.{denominator, common, term, sine_series, cosine_series}
use Rattle.sine_accuracy.specs.TrueSine.{sine_quarter, cosine_quarter, true_sine, true_cosine}
use Rattle.sine_accuracy.specs.Angles.{arc_of, rest_common, sine_rest, cosine_rest, angle_common, sine_at, cosine_at}
use Rattle.sine_accuracy.proofs.laws.Coefficients.{power}

-- ---- the series of the table

pub same-common : common ≡ 10 ^ 105 * tableCommon
unfolding common denominator tableCommon tableDenominator factorial
same-common = refl

tenth : (k : ℕ) → numerator (100_000 * k) ≡ 100_000 * numerator k
unfolding numerator
tenth k = omega arith

-- one term, with the powers of 100,000 apart
term_tenth : (k n : ℕ) → 100_000 ^ n * 100_000 ^ (21 - n) ≡ 10 ^ 105 → term (100_000 * k) n ≡ pos (10 ^ 105) *ℤ tableTerm k n
unfolding term tableTerm denominator tableDenominator
term_tenth k n e =
    ap pos (
    ap₂ (λ (x y : ℕ). x * y * (factorial 21 / factorial n)) (ap (λ (x : ℕ). x ^ n) (tenth k) ∙ power 100_000 (numerator k) n)
    (power 100_000 tableDenominator (21 - n))
    ∙ regroup (100_000 ^ n) (numerator k ^ n) (100_000 ^ (21 - n)) (tableDenominator ^ (21 - n)) (factorial 21 / factorial n)
    ∙ ap (λ (x : ℕ). x * (numerator k ^ n * tableDenominator ^ (21 - n) * (factorial 21 / factorial n))) e)
  where
    regroup : (p x q y f : ℕ) → p * x * (q * y) * f ≡ p * q * (x * y * f)
    regroup p x q y f = omega arith

pub same-series : (k : ℕ) → sine_series (100_000 * k) ≡ pos (10 ^ 105) *ℤ series k
unfolding sine_series series
same-series k =
    rw (
      term_tenth k 1 refl,
      term_tenth k 3 refl,
      term_tenth k 5 refl,
      term_tenth k 7 refl,
      term_tenth k 9 refl,
      term_tenth k 11 refl,
      term_tenth k 13 refl,
      term_tenth k 15 refl,
      term_tenth k 17 refl,
      term_tenth k 19 refl,
      term_tenth k 21 refl,
    )
    (ring
    (pos (10 ^ 105) ∷ tableTerm k 1 ∷ tableTerm k 3 ∷ tableTerm k 5 ∷ tableTerm k 7 ∷ tableTerm k 9 ∷ tableTerm k 11
    ∷ tableTerm k 13 ∷ tableTerm k 15 ∷ tableTerm k 17 ∷ tableTerm k 19 ∷ tableTerm k 21 ∷ [])
    (v0 ⊗ v1 ⊖ v0 ⊗ v2 ⊕ v0 ⊗ v3 ⊖ v0 ⊗ v4 ⊕ v0 ⊗ v5 ⊖ v0 ⊗ v6 ⊕ v0 ⊗ v7 ⊖ v0 ⊗ v8 ⊕ v0 ⊗ v9 ⊖ v0 ⊗ var 10 ⊕ v0 ⊗ var 11)
    (v0 ⊗ (v1 ⊖ v2 ⊕ v3 ⊖ v4 ⊕ v5 ⊖ v6 ⊕ v7 ⊖ v8 ⊕ v9 ⊖ var 10 ⊕ var 11)) tt)

-- ---- what is cut off: 10^8·x^n/n! at x = numerator a / denominator

sine_cut_last : 5_000_000_000 * (100_000_000 * numerator 90_000_000 ^ 23) ≤ factorial 23 * denominator ^ 23
unfolding numerator factorial denominator
sine_cut_last = leb→le (5_000_000_000 * (100_000_000 * numerator 90_000_000 ^ 23)) (factorial 23 * denominator ^ 23) tt

cosine_cut_last : 500_000_000 * (100_000_000 * numerator 90_000_000 ^ 22) ≤ factorial 22 * denominator ^ 22
unfolding numerator factorial denominator
cosine_cut_last = leb→le (500_000_000 * (100_000_000 * numerator 90_000_000 ^ 22)) (factorial 22 * denominator ^ 22) tt

module _ (a : ℕ) (h : a ≤ 90_000_000) where
  most : (n : ℕ) → numerator a ^ n ≤ numerator 90_000_000 ^ n
  unfolding numerator
  most n = pow-le-pow_left (mul-le-mul_right 314_159_265_358_979_323_846 h) n

  pub sine-cut : 5_000_000_000 * (100_000_000 * numerator a ^ 23) ≤ factorial 23 * denominator ^ 23
  sine-cut = le_trans (mul-le-mul_left 5_000_000_000 (mul-le-mul_left 100_000_000 (most 23))) sine_cut_last

  pub cosine-cut : 500_000_000 * (100_000_000 * numerator a ^ 22) ≤ factorial 22 * denominator ^ 22
  cosine-cut = le_trans (mul-le-mul_left 500_000_000 (mul-le-mul_left 100_000_000 (most 22))) cosine_cut_last

-- ---- what is cut off for the rest of an angle, of at most 3 millionths: x³/3! and x⁴/4! at x = arc / (denominator f)

third : 10 ^ 22 * (3 * 314_159_265_358_979_323_846) ^ 3 ≤ 6 * denominator ^ 3
unfolding denominator
third = leb→le (10 ^ 22 * (3 * 314_159_265_358_979_323_846) ^ 3) (6 * denominator ^ 3) tt

fourth : 10 ^ 30 * (3 * 314_159_265_358_979_323_846) ^ 4 ≤ 24 * denominator ^ 4
unfolding denominator
fourth = leb→le (10 ^ 30 * (3 * 314_159_265_358_979_323_846) ^ 4) (24 * denominator ^ 4) tt

module _ (f : ℕ) (w : ℤ) (h : nat_abs w ≤ 3 * f) where
  arc-most : nat_abs (arc_of w) ≤ f * (3 * 314_159_265_358_979_323_846)
  unfolding arc_of
  arc-most = omega (arith, nat_abs_product w (pos 314_159_265_358_979_323_846), mul-le-mul_left 314_159_265_358_979_323_846 h)

  cut : (c k i : ℕ) → c * (3 * 314_159_265_358_979_323_846) ^ i ≤ k * denominator ^ i → c * nat_abs (arc_of w) ^ i ≤ k * (denominator * f) ^ i
  cut c k i l =
      le_trans (mul-le-mul_left c (pow-le-pow_left arc-most i))
      (rw (power f (3 * 314_159_265_358_979_323_846) i, power denominator f i)
      (more (f ^ i) c ((3 * 314_159_265_358_979_323_846) ^ i) k (denominator ^ i) l))
    where
      more : (g c x k y : ℕ) → c * x ≤ k * y → c * (g * x) ≤ k * (y * g)
      more g c x k y l = omega (arith, mul-le-mul_left g l)

  pub rest-cut : (10 ^ 22 * nat_abs (arc_of w) ^ 3 ≤ 6 * (denominator * f) ^ 3) × (10 ^ 30 * nat_abs (arc_of w) ^ 4 ≤ 24 * (denominator * f) ^ 4)
  rest-cut = (cut (10 ^ 22) 6 3 third, cut (10 ^ 30) 24 4 fourth)

-- ---- an angle and a millionth more, against the series at the next whole angle: sine and cosine agree to 10^-16

unfoldable pub agree : Bool
unfolding factorial numerator denominator common term sine_series cosine_series reduced sine_quarter cosine_quarter true_sine true_cosine arc_of rest_common sine_rest
    cosine_rest angle_common sine_at cosine_at
agree =
    both (leb (10 ^ 16 * nat_abs (sine_at 1 (pos 33_092_914) (pos 1) -ℤ true_sine (pos 33_092_915) *ℤ pos (rest_common 1))) (angle_common 1))
    (leb (10 ^ 16 * nat_abs (cosine_at 1 (pos 33_092_914) (pos 1) -ℤ true_cosine (pos 33_092_915) *ℤ pos (rest_common 1))) (angle_common 1))

pub rest-row : T agree
unfolding agree
rest-row = tt

-- ---- the worst angle

unfoldable beyond : Bool
unfolding near factorial numerator tableDenominator tableCommon tableTerm series S arc sag between capped first_quadrant reduced sineIn sine
    denominator common term sine_series
beyond = ltb (172 * common) (100 * nat_abs (pos common *ℤ sine (pos 33_092_914) -ℤ pos 100_000_000 *ℤ sine_series 33_092_914))

pub worst : 172 * common < 100 * nat_abs (pos common *ℤ sine (pos 33_092_914) -ℤ pos 100_000_000 *ℤ sine_series 33_092_914)
unfolding beyond
worst = ltb→lt (172 * common) (100 * nat_abs (pos common *ℤ sine (pos 33_092_914) -ℤ pos 100_000_000 *ℤ sine_series 33_092_914)) tt

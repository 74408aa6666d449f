-- The true sine's first and second differences at every whole angle, of either sign and any turns, across the
-- quadrants; t is `true_sine`.
--   true-step     10^13 |t(z+1) - t(z)| ≤ 174,534 common
--   true-bend     10^19 |t(z+2) - 2 t(z+1) + t(z)| ≤ 3060 common
use Rattle.std.specs.Prelude.{◌≡◌, refl, [], ◌∷◌, ℕ, zero, suc, ◌+◌, ◌*◌, ◌/◌, ◌%◌, ◌≤◌, ◌<◌, ℤ, pos, negsuc, neg_ℤ, nat_abs, ◌+ℤ◌, ◌-ℤ◌, ◌*ℤ◌, ◌≤ℤ◌}
use Rattle.std.proofs.Common.{sym, ◌∙◌, ap, ⊎_elim, arith}
use Rattle.std.proofs.Math.IntN.{+ℤ_assoc, neg_ℤ-neg_ℤ}
use Rattle.rounding.specs.Parts.{sum}
use Rattle.rounding.specs.laws.Order.{parts-≤, nat_abs_parts, nat_abs_opposite, nat_abs_sum, nat_abs_product}
use Rattle.rounding.specs.laws.Ring.{num, ◌⊕◌, ◌⊖◌, ◌⊗◌, opp, ring, v0, v1, v2}
use Rattle.sine.specs.Sine.{reduced}
use Rattle.sine.specs.laws.SineLaws.{either}
use Rattle.chord_bounds.specs.laws.Turns.{reduced-turn}
use Rattle.sine_accuracy.specs.Series.{common, sine_series, cosine_series}
use Rattle.sine_accuracy.specs.TrueSine.{sine_quarter, true_sine}
use Rattle.chord_bounds.specs.laws.SeriesBend.{sine-series-step, cosine-series-step, sine-series_bend, cosine-series_bend, last-sine, first-cosine, last-cosine, first-sine}

-- three numbers in a row
abbrev pub second : ℤ → ℤ → ℤ → ℤ
second a b c = c -ℤ pos 2 *ℤ b +ℤ a

-- their second difference is at most that of the sine
abbrev pub Small : ℤ → ℤ → ℤ → Type 0
Small a b c = 10_000_000_000_000_000_000 * nat_abs (second a b c) ≤ 3060 * common

small_opposite : (a b c : ℤ) → Small a b c → Small (neg_ℤ a) (neg_ℤ b) (neg_ℤ c)
small_opposite a b c h =
    omega (
      arith,
      h,
      ap nat_abs (ring (a ∷ b ∷ c ∷ []) (opp v2 ⊖ num 2 ⊗ opp v1 ⊕ opp v0) (opp (v2 ⊖ num 2 ⊗ v1 ⊕ v0)) tt),
      nat_abs_opposite (second a b c),
    )

small_by : (a b c : ℤ) → nat_abs (pos 10_000_000_000_000_000_000 *ℤ second a b c) ≤ 3060 * common → Small a b c
small_by a b c h = omega (arith, h, nat_abs_product (pos 10_000_000_000_000_000_000) (second a b c))

-- q quarter turns, of any number, and m millionths of a degree
unfoldable pub quarter : ℕ → ℕ → ℤ
quarter zero m = sine_series m
quarter (suc zero) m = cosine_series m
quarter (suc (suc q)) m = neg_ℤ (quarter q m)

quarter_bend : (q m : ℕ) → m + 2 ≤ 90_000_000 → Small (quarter q m) (quarter q (m + 1)) (quarter q (m + 2))
unfolding quarter
quarter_bend zero m h = omega (arith, sine-series_bend m h)
quarter_bend (suc zero) m h = omega (arith, cosine-series_bend m h)
quarter_bend (suc (suc q)) m h = small_opposite (quarter q m) (quarter q (m + 1)) (quarter q (m + 2)) (quarter_bend q m h)

quarter-last : (q : ℕ) → Small (quarter q 89_999_998) (quarter q 89_999_999) (quarter (suc q) 0)
unfolding quarter
quarter-last zero = small_by (sine_series 89_999_998) (sine_series 89_999_999) (cosine_series 0) last-sine
quarter-last (suc zero) = small_by (cosine_series 89_999_998) (cosine_series 89_999_999) (neg_ℤ (sine_series 0)) last-cosine
quarter-last (suc (suc q)) = small_opposite (quarter q 89_999_998) (quarter q 89_999_999) (quarter (suc q) 0) (quarter-last q)

quarter-first : (q : ℕ) → Small (quarter q 89_999_999) (quarter (suc q) 0) (quarter (suc q) 1)
unfolding quarter
quarter-first zero = small_by (sine_series 89_999_999) (cosine_series 0) (cosine_series 1) first-cosine
quarter-first (suc zero) = small_by (cosine_series 89_999_999) (neg_ℤ (sine_series 0)) (neg_ℤ (sine_series 1)) first-sine
quarter-first (suc (suc q)) = small_opposite (quarter q 89_999_999) (quarter (suc q) 0) (quarter (suc q) 1) (quarter-first q)

-- the first difference is at most that of the sine
abbrev pub Step : ℤ → ℤ → Type 0
Step a b = 10_000_000_000_000 * nat_abs (b -ℤ a) ≤ 174_534 * common

step-opposite : (a b : ℤ) → Step a b → Step (neg_ℤ a) (neg_ℤ b)
step-opposite a b h = omega (arith, h, ap nat_abs (ring (a ∷ b ∷ []) (opp v1 ⊖ opp v0) (opp (v1 ⊖ v0)) tt), nat_abs_opposite (b -ℤ a))

quarter-step : (q m : ℕ) → m + 1 ≤ 90_000_000 → 10_000_000_000_000 * nat_abs (quarter q (m + 1) -ℤ quarter q m) ≤ 174_533 * common
unfolding quarter
quarter-step zero m h = sine-series-step m h
quarter-step (suc zero) m h = cosine-series-step m h
quarter-step (suc (suc q)) m h =
    let a = quarter q m in
    let b = quarter q (m + 1) in
    omega (
      arith,
      quarter-step q m h,
      ap nat_abs (ring (a ∷ b ∷ []) (opp v1 ⊖ opp v0) (opp (v1 ⊖ v0)) tt),
      nat_abs_opposite (b -ℤ a),
    )

-- the last step before, and the second difference there
quarter-edge : (q : ℕ) → Step (quarter q 89_999_999) (quarter (suc q) 0)
quarter-edge q =
    let a = quarter q 89_999_998 in
    let b = quarter q 89_999_999 in
    let c = quarter (suc q) 0 in
    omega (
      arith,
      quarter-step q 89_999_998 (omega arith),
      quarter-last q,
      ap nat_abs (ring (a ∷ b ∷ c ∷ []) (v2 ⊖ v1) (v1 ⊖ v0 ⊕ (v2 ⊖ num 2 ⊗ v1 ⊕ v0)) tt),
      nat_abs_sum (b -ℤ a) (second a b c),
    )

-- ---- of natural angles

abbrev at : ℕ → ℤ
at n = quarter (n / 90_000_000) (n % 90_000_000)

at-is : (q m n : ℕ) → n ≡ q * 90_000_000 + m → m < 90_000_000 → at n ≡ quarter q m
at-is q m n e h =
    let a : n / 90_000_000 ≡ q = omega arith in
    let b : n % 90_000_000 ≡ m = omega arith in
    rw (a, b)

at_bend : (n : ℕ) → Small (at n) (at (n + 1)) (at (n + 2))
at_bend n =
    let q : ℕ = n / 90_000_000 in
    let m : ℕ = n % 90_000_000 in
    let here : n ≡ q * 90_000_000 + m = omega arith in
    ⊎_elim
    (λ (l : m < 89_999_998).
    rw (at-is q (m + 1) (n + 1) (omega arith) (omega arith), at-is q (m + 2) (n + 2) (omega arith) (omega arith)) (quarter_bend q m (omega arith)))
    (λ (g : 89_999_998 ≤ m).
    ⊎_elim
    (λ (l : m < 89_999_999).
    rw (at-is q 89_999_998 n (omega arith) (omega arith), at-is q 89_999_999 (n + 1) (omega arith) (omega arith), at-is (suc q) 0 (n + 2) (omega arith) (omega arith))
    (quarter-last q))
    (λ (k : 89_999_999 ≤ m).
    rw (at-is q 89_999_999 n (omega arith) (omega arith), at-is (suc q) 0 (n + 1) (omega arith) (omega arith), at-is (suc q) 1 (n + 2) (omega arith) (omega arith))
    (quarter-first q))
    (either 89_999_999 m))
    (either 89_999_998 m)

at-step : (n : ℕ) → Step (at n) (at (n + 1))
at-step n =
    let q : ℕ = n / 90_000_000 in
    let m : ℕ = n % 90_000_000 in
    let here : n ≡ q * 90_000_000 + m = omega arith in
    ⊎_elim
    (λ (l : m < 89_999_999). rw (at-is q (m + 1) (n + 1) (omega arith) (omega arith)) (omega (arith, quarter-step q m (omega arith))))
    (λ (k : 89_999_999 ≤ m).
    rw (at-is q 89_999_999 n (omega arith) (omega arith), at-is (suc q) 0 (n + 1) (omega arith) (omega arith)) (quarter-edge q))
    (either 89_999_999 m)

-- ---- the true sine is that

twice : (q m : ℕ) → quarter (suc (suc (suc (suc q)))) m ≡ quarter q m
unfolding quarter
twice q m = neg_ℤ-neg_ℤ (quarter q m)

quarter_turns : (t r m : ℕ) → quarter (r + 4 * t) m ≡ quarter r m
quarter_turns zero r m = let e : r + 4 * 0 ≡ r = omega arith in rw e
quarter_turns (suc t) r m =
    let e : r + 4 * suc t ≡ suc (suc (suc (suc (r + 4 * t)))) = omega arith in
    ap (λ (q : ℕ). quarter q m) e ∙ twice (r + 4 * t) m ∙ quarter_turns t r m

quarter-is : (r m : ℕ) → r < 4 → sine_quarter r m ≡ quarter r m
unfolding sine_quarter quarter
quarter-is zero m h = refl
quarter-is (suc zero) m h = refl
quarter-is (suc (suc zero)) m h = refl
quarter-is (suc (suc (suc zero))) m h = refl
quarter-is (suc (suc (suc (suc r)))) m h = absurd (omega arith)

true_at : (n : ℕ) → true_sine (pos n) ≡ at n
unfolding true_sine reduced
true_at n =
    let r : ℕ = n % 360_000_000 / 90_000_000 in
    let m : n % 360_000_000 % 90_000_000 ≡ n % 90_000_000 = omega arith in
    let e : r + 4 * (n / 360_000_000) ≡ n / 90_000_000 = omega arith in
    rw m (quarter-is r (n % 90_000_000) (omega arith) ∙ sym (quarter_turns (n / 360_000_000) r (n % 90_000_000)) ∙ ap (λ (q : ℕ). quarter q (n % 90_000_000)) e)

-- ---- any angle: so many turns more that it is not negative

true_turn : (z : ℤ) → true_sine (z +ℤ pos 360_000_000) ≡ true_sine z
unfolding true_sine
true_turn z = ap (λ (r : ℕ). sine_quarter (r / 90_000_000) (r % 90_000_000)) (reduced-turn z)

true_turns : (j : ℕ) (z : ℤ) → true_sine (z +ℤ pos (360_000_000 * j)) ≡ true_sine z
true_turns zero z = ap true_sine (ring (z ∷ []) (v0 ⊕ num 0) v0 tt)
true_turns (suc j) z =
    let e : z +ℤ pos (360_000_000 * suc j) ≡ z +ℤ pos (360_000_000 * j) +ℤ pos 360_000_000
    = ap (λ (n : ℕ). z +ℤ pos n) (omega arith) ∙ sym (+ℤ_assoc z (pos (360_000_000 * j)) (pos 360_000_000)) in
    ap true_sine e ∙ true_turn (z +ℤ pos (360_000_000 * j)) ∙ true_turns j z

natural : (z : ℤ) → pos 0 ≤ℤ z → pos (nat_abs z) ≡ z
natural (pos n) l = refl
natural (negsuc n) l = absurd l.le

-- k millionths after z
lifted : (j : ℕ) (z : ℤ) (n k : ℕ) → pos n ≡ z +ℤ pos (360_000_000 * j) → true_sine (z +ℤ pos k) ≡ at (n + k)
lifted j z n k e =
    let t = pos (360_000_000 * j) in
    sym (true_turns j (z +ℤ pos k))
    ∙ ap true_sine (ring (z ∷ pos k ∷ t ∷ []) (v0 ⊕ v1 ⊕ v2) (v0 ⊕ v2 ⊕ v1) tt ∙ ap (λ (w : ℤ). w +ℤ pos k) (sym e)) ∙ true_at (n + k)

module _ (z : ℤ) where
  abbrev turns : ℤ
  turns = pos (360_000_000 * nat_abs z)

  -- z and so many turns
  abbrev base : ℕ
  base = nat_abs (z +ℤ turns)

  base-is : pos base ≡ z +ℤ turns
  base-is = natural (z +ℤ turns) (parts-≤ (omega (arith, (sum z turns).is, nat_abs_parts z)))

  true-base : true_sine z ≡ at base
  true-base = sym (true_turns (nat_abs z) z) ∙ ap true_sine (sym base-is) ∙ true_at base

  pub true-step : Step (true_sine z) (true_sine (z +ℤ pos 1))
  true-step = rw (true-base, lifted (nat_abs z) z base 1 base-is) (at-step base)

  pub true-bend : Small (true_sine z) (true_sine (z +ℤ pos 1)) (true_sine (z +ℤ pos 2))
  true-bend = rw (true-base, lifted (nat_abs z) z base 1 base-is, lifted (nat_abs z) z base 2 base-is) (at_bend base)

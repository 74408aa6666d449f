-- The two series as polynomials in the angle.
use Rattle.std.specs.Prelude.{◌≡◌, [], ◌∷◌, ℕ, zero, suc, ◌-◌, ◌*◌, ◌/◌, ◌^◌, ◌≤◌, neg_ℤ, ◌+ℤ◌, ◌*ℤ◌}
use Rattle.std.proofs.Common.{sym, ◌∙◌, ap₂, pow-suc}
use Rattle.std.proofs.Math.Path.{ap}
use native.Mathlib.Omega.{arith}
use Rattle.std.proofs.Math.Nat.{pow-zero, mul-mul-mul_comm}
use Rattle.std.proofs.Math.IntN.{pos}
use Rattle.rounding.specs.Parts.{same, sum, opposite}
use Rattle.rounding.specs.laws.Laws.{one-*ℤ}
use Rattle.rounding.specs.laws.Ring.{var, num, ◌⊕◌, ◌⊖◌, ◌⊗◌, opp, ring}
use Rattle.sine_table.specs.Table.{factorial, numerator}
use Rattle.sine_accuracy.specs.Series.{denominator, term, sine_series, cosine_series}
use Rattle.sine_accuracy.specs.laws.Lists.{worth, moved, worth-moved, worth-turned, spread, spread-worth}
use Rattle.sine_accuracy.specs.laws.Coefficients.{part, up, sines, cosines, complements}

-- ---- the series are these polynomials

pub power : (m n : ℕ) (i : ℕ) → (m * n) ^ i ≡ m ^ i * n ^ i
power m n zero = rw (pow-zero (m * n), pow-zero m, pow-zero n)
power m n (suc i) =
    pow-suc (m * n) i ∙ ap (λ (z : ℕ). z * (m * n)) (power m n i) ∙ mul-mul-mul_comm (m ^ i) (n ^ i) m n
    ∙ ap₂ (λ (y z : ℕ). y * z) (sym (pow-suc m i)) (sym (pow-suc n i))

module _ (a : ℕ) where
  -- a term with its coefficient apart
  term-part : (n : ℕ) → term a n ≡ up n *ℤ pos (a ^ n)
  unfolding term numerator part
  term-part n =
      ap pos (ap (λ (z : ℕ). z * denominator ^ (21 - n) * (factorial 21 / factorial n)) (power a 314_159_265_358_979_323_846 n)
      ∙ regroup (a ^ n) (314_159_265_358_979_323_846 ^ n) (denominator ^ (21 - n)) (factorial 21 / factorial n))
    where
      regroup : (x p d f : ℕ) → x * p * d * f ≡ p * d * f * x
      regroup x p d f = omega arith

  sine-spread : sine_series a ≡ spread a sines 0
  unfolding sine_series sines spread
  sine-spread =
      rw (term-part 1, term-part 3, term-part 5, term-part 7, term-part 9, term-part 11, term-part 13, term-part 15, term-part 17, term-part 19, term-part 21)
      (ring (up 1 ∷ up 3 ∷ up 5 ∷ up 7 ∷ up 9 ∷ up 11 ∷ up 13 ∷ up 15 ∷ up 17 ∷ up 19 ∷ up 21 ∷ pos (a ^ 0) ∷ pos (a ^ 1) ∷ pos (a ^ 2) ∷ pos (a ^ 3) ∷ pos (a ^ 4)
      ∷ pos (a ^ 5) ∷ pos (a ^ 6) ∷ pos (a ^ 7) ∷ pos (a ^ 8) ∷ pos (a ^ 9) ∷ pos (a ^ 10) ∷ pos (a ^ 11) ∷ pos (a ^ 12) ∷ pos (a ^ 13) ∷ pos (a ^ 14) ∷ pos (a ^ 15)
      ∷ pos (a ^ 16) ∷ pos (a ^ 17) ∷ pos (a ^ 18) ∷ pos (a ^ 19) ∷ pos (a ^ 20) ∷ pos (a ^ 21) ∷ [])
      (var 0 ⊗ var 12 ⊖ var 1 ⊗ var 14 ⊕ var 2 ⊗ var 16 ⊖ var 3 ⊗ var 18 ⊕ var 4 ⊗ var 20 ⊖ var 5 ⊗ var 22 ⊕ var 6 ⊗ var 24 ⊖ var 7 ⊗ var 26 ⊕ var 8 ⊗ var 28
      ⊖ var 9 ⊗ var 30 ⊕ var 10 ⊗ var 32)
      (num 0 ⊗ var 11 ⊕ (var 0 ⊗ var 12 ⊕ (num 0 ⊗ var 13 ⊕ (opp (var 1) ⊗ var 14 ⊕ (num 0 ⊗ var 15 ⊕ (var 2 ⊗ var 16 ⊕ (num 0 ⊗ var 17 ⊕ (opp (var 3) ⊗ var 18
      ⊕ (num 0 ⊗ var 19 ⊕ (var 4 ⊗ var 20 ⊕ (num 0 ⊗ var 21 ⊕ (opp (var 5) ⊗ var 22 ⊕ (num 0 ⊗ var 23 ⊕ (var 6 ⊗ var 24 ⊕ (num 0 ⊗ var 25 ⊕ (opp (var 7) ⊗ var 26
      ⊕ (num 0 ⊗ var 27 ⊕ (var 8 ⊗ var 28 ⊕ (num 0 ⊗ var 29 ⊕ (opp (var 9) ⊗ var 30 ⊕ (num 0 ⊗ var 31 ⊕ (var 10 ⊗ var 32 ⊕ (num 0))))))))))))))))))))))) tt)

  pub sine-worth : sine_series a ≡ worth sines (pos a)
  sine-worth = sine-spread ∙ spread-worth a sines 0 ∙ ap (λ (z : ℕ). pos z *ℤ worth sines (pos a)) (pow-zero a) ∙ one-*ℤ (worth sines (pos a))

  cosine-spread : cosine_series a ≡ spread a cosines 0
  unfolding cosine_series cosines spread
  cosine-spread =
      rw (term-part 0, term-part 2, term-part 4, term-part 6, term-part 8, term-part 10, term-part 12, term-part 14, term-part 16, term-part 18, term-part 20)
      (ring (up 0 ∷ up 2 ∷ up 4 ∷ up 6 ∷ up 8 ∷ up 10 ∷ up 12 ∷ up 14 ∷ up 16 ∷ up 18 ∷ up 20 ∷ pos (a ^ 0) ∷ pos (a ^ 1) ∷ pos (a ^ 2) ∷ pos (a ^ 3) ∷ pos (a ^ 4)
      ∷ pos (a ^ 5) ∷ pos (a ^ 6) ∷ pos (a ^ 7) ∷ pos (a ^ 8) ∷ pos (a ^ 9) ∷ pos (a ^ 10) ∷ pos (a ^ 11) ∷ pos (a ^ 12) ∷ pos (a ^ 13) ∷ pos (a ^ 14) ∷ pos (a ^ 15)
      ∷ pos (a ^ 16) ∷ pos (a ^ 17) ∷ pos (a ^ 18) ∷ pos (a ^ 19) ∷ pos (a ^ 20) ∷ [])
      (var 0 ⊗ var 11 ⊖ var 1 ⊗ var 13 ⊕ var 2 ⊗ var 15 ⊖ var 3 ⊗ var 17 ⊕ var 4 ⊗ var 19 ⊖ var 5 ⊗ var 21 ⊕ var 6 ⊗ var 23 ⊖ var 7 ⊗ var 25 ⊕ var 8 ⊗ var 27
      ⊖ var 9 ⊗ var 29 ⊕ var 10 ⊗ var 31)
      (var 0 ⊗ var 11 ⊕ (num 0 ⊗ var 12 ⊕ (opp (var 1) ⊗ var 13 ⊕ (num 0 ⊗ var 14 ⊕ (var 2 ⊗ var 15 ⊕ (num 0 ⊗ var 16 ⊕ (opp (var 3) ⊗ var 17 ⊕ (num 0 ⊗ var 18
      ⊕ (var 4 ⊗ var 19 ⊕ (num 0 ⊗ var 20 ⊕ (opp (var 5) ⊗ var 21 ⊕ (num 0 ⊗ var 22 ⊕ (var 6 ⊗ var 23 ⊕ (num 0 ⊗ var 24 ⊕ (opp (var 7) ⊗ var 25 ⊕ (num 0 ⊗ var 26
      ⊕ (var 8 ⊗ var 27 ⊕ (num 0 ⊗ var 28 ⊕ (opp (var 9) ⊗ var 29 ⊕ (num 0 ⊗ var 30 ⊕ (var 10 ⊗ var 31 ⊕ (num 0)))))))))))))))))))))) tt)

  pub cosine-worth : cosine_series a ≡ worth cosines (pos a)
  cosine-worth = cosine-spread ∙ spread-worth a cosines 0 ∙ ap (λ (z : ℕ). pos z *ℤ worth cosines (pos a)) (pow-zero a) ∙ one-*ℤ (worth cosines (pos a))

-- what the angle lacks of 90 degrees
pub complement-worth : (a : ℕ) → a ≤ 90_000_000 → cosine_series a ≡ worth complements (pos (90_000_000 - a))
unfolding complements
complement-worth a h =
    let e : pos a ≡ pos 90_000_000 +ℤ neg_ℤ (pos (90_000_000 - a))
    = same (pos a) (pos 90_000_000 +ℤ neg_ℤ (pos (90_000_000 - a)))
    (omega (arith, (sum (pos 90_000_000) (neg_ℤ (pos (90_000_000 - a)))).is, (opposite (pos (90_000_000 - a))).is)) in
    cosine-worth a ∙ ap (worth cosines) e
    ∙ sym (worth-turned (pos (90_000_000 - a)) (moved (pos 90_000_000) cosines) ∙ worth-moved (pos 90_000_000) (neg_ℤ (pos (90_000_000 - a))) cosines)

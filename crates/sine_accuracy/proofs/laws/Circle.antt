-- The squares of the true sine and cosine of a whole angle make 1, up to 10^-16 (`circle`). Why: from 0 to 90 degrees
-- they are two polynomials, and the squares less 1 a third, whose size is computed (Tests, circles_small).
use Rattle.std.specs.Prelude.{◌≡◌, refl, [], ◌∷◌, ℕ, zero, suc, ◌*◌, ◌/◌, ◌%◌, ◌≤◌, ℤ, nat_abs, ◌+ℤ◌, ◌-ℤ◌, ◌*ℤ◌}
use Rattle.std.proofs.Common.{◌∙◌, arith}
use Rattle.std.proofs.Math.Path.{ap₂}
use Rattle.std.proofs.Math.IntN.{pos, neg_ℤ}
use Rattle.rounding.specs.laws.Ring.{num, ◌⊕◌, ◌⊖◌, ◌⊗◌, opp, ring, v0, v1, v2}
use Rattle.sine.specs.Sine.{reduced}
use Rattle.sine_accuracy.specs.Series.{common, sine_series, cosine_series}
use Rattle.sine_accuracy.specs.TrueSine.{sine_quarter, cosine_quarter, true_sine, true_cosine}
use Rattle.sine_accuracy.specs.laws.Lists.{worth, added, product, worth-added, worth-product, worth-size}
use Rattle.sine_accuracy.specs.laws.Coefficients.{sines, cosines}
use Rattle.sine_accuracy.proofs.laws.Coefficients.{sine-worth, cosine-worth}
use Rattle.sine_accuracy.proofs.laws.Tests.{circles, circles_small}

constant-worth : (c x : ℤ) → worth (c ∷ []) x ≡ c
unfolding worth
constant-worth c x = ring (c ∷ x ∷ []) (v0 ⊕ v1 ⊗ num 0) v0 tt

module _ (a : ℕ) where
  circles-worth : worth circles (pos a) ≡ sine_series a *ℤ sine_series a +ℤ cosine_series a *ℤ cosine_series a -ℤ pos (common * common)
  unfolding circles
  circles-worth =
      let x = pos a in
      let k = pos (common * common) in
      let s = worth sines x in
      let c = worth cosines x in
      worth-added (neg_ℤ (pos 1)) x (k ∷ []) (added (pos 1) (product sines sines) (product cosines cosines))
      ∙ ap₂ (λ (y z : ℤ). neg_ℤ (pos 1) *ℤ y +ℤ z) (constant-worth k x) (worth-added (pos 1) x (product sines sines) (product cosines cosines))
      ∙ ap₂ (λ (y z : ℤ). neg_ℤ (pos 1) *ℤ k +ℤ (pos 1 *ℤ y +ℤ z)) (worth-product x sines sines) (worth-product x cosines cosines)
      ∙ ring (k ∷ s ∷ c ∷ []) (opp (num 1) ⊗ v0 ⊕ (num 1 ⊗ (v1 ⊗ v1) ⊕ v2 ⊗ v2)) (v1 ⊗ v1 ⊕ v2 ⊗ v2 ⊖ v0) tt
      ∙ rw (sine-worth a, cosine-worth a)

  first-circle : a ≤ 90_000_000
      → 10_000_000_000_000_000 * nat_abs (sine_series a *ℤ sine_series a +ℤ cosine_series a *ℤ cosine_series a -ℤ pos (common * common)) ≤ common * common
  first-circle h = rw (← circles-worth) (omega (arith, worth-size 90_000_000 (pos a) h circles, circles_small))

squares : (q m : ℕ) → sine_quarter q m *ℤ sine_quarter q m +ℤ cosine_quarter q m *ℤ cosine_quarter q m ≡ sine_series m *ℤ sine_series m +ℤ cosine_series m *ℤ cosine_series m
unfolding sine_quarter cosine_quarter
squares zero m = refl
squares (suc zero) m = ring (sine_series m ∷ cosine_series m ∷ []) (v1 ⊗ v1 ⊕ opp v0 ⊗ opp v0) (v0 ⊗ v0 ⊕ v1 ⊗ v1) tt
squares (suc (suc zero)) m = ring (sine_series m ∷ cosine_series m ∷ []) (opp v0 ⊗ opp v0 ⊕ opp v1 ⊗ opp v1) (v0 ⊗ v0 ⊕ v1 ⊗ v1) tt
squares (suc (suc (suc q))) m = ring (sine_series m ∷ cosine_series m ∷ []) (opp v1 ⊗ opp v1 ⊕ v0 ⊗ v0) (v0 ⊗ v0 ⊕ v1 ⊗ v1) tt

pub circle : (z : ℤ)
    → 10_000_000_000_000_000 * nat_abs (true_sine z *ℤ true_sine z +ℤ true_cosine z *ℤ true_cosine z -ℤ pos (common * common)) ≤ common * common
unfolding true_sine true_cosine
circle z =
    let m = reduced z % 90_000_000 in
    rw (squares (reduced z / 90_000_000) m) (first-circle m (omega arith))

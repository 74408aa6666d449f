-- The sine of the opposite angle is the opposite, and the cosine the same; at every angle. Angles are in units of
-- 10^-6 degree.
use Rattle.std.specs.Prelude.{◌≡◌, ℕ, zero, suc, ◌-◌, ◌≤◌, ◌<◌, ℤ, pos, negsuc, neg_ℤ}
use Rattle.std.proofs.Common.{sym, ◌∙◌, ap, ⊎_elim, arith}
use Rattle.std.proofs.Math.IntN.{neg_ℤ-neg_ℤ}
use Rattle.sine.specs.Sine.{reduced, sine, cosine}
use Rattle.sine.specs.laws.SineLaws.{either, reduced_below, sine-above, cosine-above, sine-second, cosine-second, sine-reduced, cosine-reduced}

-- ---- a turn less the angle

-- up to 180 degrees: two quarter turns off it are 180 degrees less the angle; and one, 180 degrees less the angle less
-- 90 degrees
module _ (a : ℕ) (within : a ≤ 180_000_000) where
  abbrev once : ℕ
  once = 360_000_000 - a - 90_000_000

  sine-once : sine (pos (360_000_000 - a)) ≡ cosine (pos once)
  sine-once = sine-above (360_000_000 - a) (omega arith) (omega arith)

  cosine-once : cosine (pos (360_000_000 - a)) ≡ neg_ℤ (sine (pos once))
  cosine-once = cosine-above (360_000_000 - a) (omega arith) (omega arith)

  module _ (low : a ≤ 90_000_000) where
    twice : once - 90_000_000 ≡ 180_000_000 - a
    twice = omega arith

    sine-low : sine (pos (360_000_000 - a)) ≡ neg_ℤ (sine (pos a))
    sine-low =
        sine-once
        ∙ cosine-above once (omega arith) (omega arith)
        ∙ ap neg_ℤ (ap (λ (n : ℕ). sine (pos n)) twice ∙ sine-second a low)

    cosine-low : cosine (pos (360_000_000 - a)) ≡ cosine (pos a)
    cosine-low =
        cosine-once
        ∙ ap neg_ℤ (sine-above once (omega arith) (omega arith) ∙ ap (λ (n : ℕ). cosine (pos n)) twice ∙ cosine-second a low)
        ∙ neg_ℤ-neg_ℤ (cosine (pos a))

  module _ (high : 90_000_000 < a) where
    over : once ≡ 180_000_000 - (a - 90_000_000)
    over = omega arith

    sine-high : sine (pos (360_000_000 - a)) ≡ neg_ℤ (sine (pos a))
    sine-high =
        sine-once
        ∙ ap (λ (n : ℕ). cosine (pos n)) over
        ∙ cosine-second (a - 90_000_000) (omega arith)
        ∙ ap neg_ℤ (sym (sine-above a high (omega arith)))

    cosine-high : cosine (pos (360_000_000 - a)) ≡ cosine (pos a)
    cosine-high =
        cosine-once
        ∙ ap neg_ℤ (ap (λ (n : ℕ). sine (pos n)) over ∙ sine-second (a - 90_000_000) (omega arith))
        ∙ sym (cosine-above a high (omega arith))

  sine-half : sine (pos (360_000_000 - a)) ≡ neg_ℤ (sine (pos a))
  sine-half = ⊎_elim sine-high sine-low (either a 90_000_000)

  cosine-half : cosine (pos (360_000_000 - a)) ≡ cosine (pos a)
  cosine-half = ⊎_elim cosine-high cosine-low (either a 90_000_000)

-- from there on the angle is itself a turn less one up to 180 degrees
module _ (a : ℕ) (within : a ≤ 360_000_000) where
  back : 360_000_000 - (360_000_000 - a) ≡ a
  back = omega arith

  sine-turn : sine (pos (360_000_000 - a)) ≡ neg_ℤ (sine (pos a))
  sine-turn =
      ⊎_elim
      (λ (h : 180_000_000 < a).
      sym (neg_ℤ-neg_ℤ (sine (pos (360_000_000 - a))))
      ∙ ap neg_ℤ (sym (sine-half (360_000_000 - a) (omega arith)) ∙ ap (λ (n : ℕ). sine (pos n)) back))
      (sine-half a) (either a 180_000_000)

  cosine-turn : cosine (pos (360_000_000 - a)) ≡ cosine (pos a)
  cosine-turn =
      ⊎_elim
      (λ (h : 180_000_000 < a). sym (cosine-half (360_000_000 - a) (omega arith)) ∙ ap (λ (n : ℕ). cosine (pos n)) back)
      (cosine-half a) (either a 180_000_000)

-- ---- the opposite, reduced, is a turn less the angle, reduced

reduced-opposite : (z : ℤ) → reduced (neg_ℤ z) ≡ reduced (pos (360_000_000 - reduced z))
unfolding reduced
reduced-opposite (pos zero) = omega arith
reduced-opposite (pos (suc n)) = omega arith
reduced-opposite (negsuc n) = omega arith

pub sine-opposite : (z : ℤ) → sine (neg_ℤ z) ≡ neg_ℤ (sine z)
sine-opposite z =
    let a = 360_000_000 - reduced z in
    sym (sine-reduced (neg_ℤ z))
    ∙ ap (λ (n : ℕ). sine (pos n)) (reduced-opposite z)
    ∙ sine-reduced (pos a)
    ∙ sine-turn (reduced z) (omega (arith, reduced_below z))
    ∙ ap neg_ℤ (sine-reduced z)

pub cosine-opposite : (z : ℤ) → cosine (neg_ℤ z) ≡ cosine z
cosine-opposite z =
    let a = 360_000_000 - reduced z in
    sym (cosine-reduced (neg_ℤ z))
    ∙ ap (λ (n : ℕ). cosine (pos n)) (reduced-opposite z)
    ∙ cosine-reduced (pos a)
    ∙ cosine-turn (reduced z) (omega (arith, reduced_below z))
    ∙ cosine-reduced z

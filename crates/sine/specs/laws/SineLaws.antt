-- What callers use of `reduced`, `sine` and `cosine`. Angles are in units of 10^-6 degree.
--   sine_of, cosine_of               from the promises of `reduced` and of the functions: the result is the sine, or cosine, of the angle
--   reduced_below, reduced-same      from 0 up to 360 degrees, where it changes nothing
--   sine-first, sine-above           the rule: up to 90 degrees, and a quarter turn down; the same for the cosine
--   sine-quarter                     a quarter turn down, at 90 degrees too; the same for the cosine
--   sine-reduced                     of the reduced angle; the same for the cosine
--   sine-size, cosine-size           at most 10^8 in size, at every angle
--   sine-second                      180 degrees less the angle, up to 90 degrees; the same for the cosine
use Rattle.std.specs.Prelude.{◌≡◌, cond, ◌⊎◌, ℕ, zero, suc, ◌*◌, ◌-◌, ◌≤◌, ◌<◌, leb, ℤ, pos, negsuc, nat_abs}
use Rattle.std.proofs.Common.{sym, ◌∙◌, inl, inr, arith, eq-or-lt_of_le, eq-zero-or-pos, le-leb}
use Rattle.std.proofs.Math.Path.{ap}
use Rattle.std.proofs.Math.Logic.{⊎_elim}
use Rattle.std.proofs.lemmas.Bool.{lt-leb}
use Rattle.std.proofs.Math.IntN.{neg_ℤ, neg_ℤ-neg_ℤ}
use Rattle.rounding.specs.laws.Order.{nat_abs_opposite}
use Rattle.sine.specs.FirstQuadrant.{first_quadrant}
use Rattle.sine.specs.laws.FirstQuadrantLaws.{first_small, first_zero}
use Rattle.sine.specs.Sine.{reduced, sineIn, cosineIn, sine, cosine, IsReduced, IsSine, IsCosine}

-- ---- the angle

pub either : (a b : ℕ) → (b < a) ⊎ (a ≤ b)
either a b = ⊎_elim (λ (e : a - b ≡ 0). inr (omega arith)) (λ (l : 0 < a - b). inl (omega arith)) (eq-zero-or-pos (a - b))

pub reduced_below : (z : ℤ) → reduced z < 360_000_000
unfolding reduced
reduced_below (pos n) = omega arith
reduced_below (negsuc n) = omega arith

-- an angle from 0 up to 360 degrees stays
pub reduced-same : (a : ℕ) → a < 360_000_000 → reduced (pos a) ≡ a
unfolding reduced
reduced-same a h = omega arith

-- ---- quarter turns

-- with n quarter turns to take off, one more makes no difference up to n + 1 of them
mutual
  unfolding sineIn

  sine-more : (n a : ℕ) → a ≤ suc n * 90_000_000 → sineIn (suc n) a ≡ sineIn n a
  sine-more zero a h = let g : a ≤ 90_000_000 = omega arith in rw (le-leb a 90_000_000 g)
  sine-more (suc n) a h =
      ap (λ (z : ℤ). cond (leb a 90_000_000) (first_quadrant a) z) (cosine-more n (a - 90_000_000) (omega arith))

  cosine-more : (n a : ℕ) → a ≤ suc n * 90_000_000 → cosineIn (suc n) a ≡ cosineIn n a
  cosine-more zero a h = let g : a ≤ 90_000_000 = omega arith in rw (le-leb a 90_000_000 g)
  cosine-more (suc n) a h =
      ap (λ (z : ℤ). cond (leb a 90_000_000) (first_quadrant (90_000_000 - a)) (neg_ℤ z)) (sine-more n (a - 90_000_000) (omega arith))

-- 360 degrees are 0 degrees
turn-sine : sineIn 3 360_000_000 ≡ sineIn 3 0
unfolding sineIn
turn-sine = rw first_zero

turn-cosine : cosineIn 3 360_000_000 ≡ cosineIn 3 0
unfolding sineIn
turn-cosine = neg_ℤ-neg_ℤ (first_quadrant 90_000_000)

module _ (a : ℕ) (within : a ≤ 360_000_000) where
  sine-in : sine (pos a) ≡ sineIn 3 a
  unfolding sine reduced
  sine-in =
      ⊎_elim (λ (e : a ≡ 360_000_000). rw e (sym turn-sine)) (λ (l : a < 360_000_000). ap (sineIn 3) (reduced-same a l))
      (eq-or-lt_of_le within)

  cosine-in : cosine (pos a) ≡ cosineIn 3 a
  unfolding cosine reduced
  cosine-in =
      ⊎_elim (λ (e : a ≡ 360_000_000). rw e (sym turn-cosine)) (λ (l : a < 360_000_000). ap (cosineIn 3) (reduced-same a l))
      (eq-or-lt_of_le within)

module _ (a : ℕ) (within : a ≤ 90_000_000) where
  pub sine-first : sine (pos a) ≡ first_quadrant a
  unfolding sineIn
  sine-first = sine-in a (omega arith) ∙ rw (le-leb a 90_000_000 within)

  pub cosine-first : cosine (pos a) ≡ first_quadrant (90_000_000 - a)
  unfolding sineIn
  cosine-first = cosine-in a (omega arith) ∙ rw (le-leb a 90_000_000 within)

module _ (a : ℕ) (above : 90_000_000 < a) (within : a ≤ 360_000_000) where
  pub sine-above : sine (pos a) ≡ cosine (pos (a - 90_000_000))
  unfolding sineIn
  sine-above =
      sine-in a within
      ∙ rw (lt-leb a 90_000_000 above) (sym (cosine-in (a - 90_000_000) (omega arith) ∙ cosine-more 2 (a - 90_000_000) (omega arith)))

  pub cosine-above : cosine (pos a) ≡ neg_ℤ (sine (pos (a - 90_000_000)))
  unfolding sineIn
  cosine-above =
      cosine-in a within
      ∙ rw (lt-leb a 90_000_000 above) (ap neg_ℤ (sym (sine-in (a - 90_000_000) (omega arith) ∙ sine-more 2 (a - 90_000_000) (omega arith))))

-- at 90 degrees too: the sine is the cosine of 0, and the cosine is 0
right-sine : sine (pos 90_000_000) ≡ cosine (pos 0)
right-sine = sine-first 90_000_000 (omega arith) ∙ sym (cosine-first 0 (omega arith))

right-cosine : cosine (pos 90_000_000) ≡ neg_ℤ (sine (pos 0))
right-cosine = cosine-first 90_000_000 (omega arith) ∙ first_zero ∙ sym (ap neg_ℤ (sine-first 0 (omega arith) ∙ first_zero))

module _ (a : ℕ) (from : 90_000_000 ≤ a) (within : a ≤ 360_000_000) where
  pub sine-quarter : sine (pos a) ≡ cosine (pos (a - 90_000_000))
  sine-quarter =
      ⊎_elim (λ (e : 90_000_000 ≡ a). rw (← e) right-sine) (λ (l : 90_000_000 < a). sine-above a l within) (eq-or-lt_of_le from)

  pub cosine-quarter : cosine (pos a) ≡ neg_ℤ (sine (pos (a - 90_000_000)))
  cosine-quarter =
      ⊎_elim (λ (e : 90_000_000 ≡ a). rw (← e) right-cosine) (λ (l : 90_000_000 < a). cosine-above a l within) (eq-or-lt_of_le from)

-- of the reduced angle, and of one turn more
pub sine-reduced : (z : ℤ) → sine (pos (reduced z)) ≡ sine z
unfolding sine
sine-reduced z = ap (sineIn 3) (reduced-same (reduced z) (reduced_below z))

pub cosine-reduced : (z : ℤ) → cosine (pos (reduced z)) ≡ cosine z
unfolding cosine
cosine-reduced z = ap (cosineIn 3) (reduced-same (reduced z) (reduced_below z))

-- from what `reduced` and then `sine` or `cosine` promise
pub sine_of : {z r : ℤ} {a : ℕ} → IsReduced z a → IsSine (pos a) r → r ≡ sine z
sine_of {z} d e = e.value ∙ ap (λ (a : ℕ). sine (pos a)) d.value ∙ sine-reduced z

pub cosine_of : {z r : ℤ} {a : ℕ} → IsReduced z a → IsCosine (pos a) r → r ≡ cosine z
cosine_of {z} d e = e.value ∙ ap (λ (a : ℕ). cosine (pos a)) d.value ∙ cosine-reduced z

-- ---- the size: at most 10^8

mutual
  unfolding sineIn

  sine-sized : (n a : ℕ) → a ≤ suc n * 90_000_000 → nat_abs (sineIn n a) ≤ 100_000_000
  sine-sized zero a h = first_small a (omega arith)
  sine-sized (suc n) a h =
      ⊎_elim (λ (l : 90_000_000 < a). rw (lt-leb a 90_000_000 l) (cosine-sized n (a - 90_000_000) (omega arith)))
      (λ (l : a ≤ 90_000_000). rw (le-leb a 90_000_000 l) (first_small a l)) (either a 90_000_000)

  cosine-sized : (n a : ℕ) → a ≤ suc n * 90_000_000 → nat_abs (cosineIn n a) ≤ 100_000_000
  cosine-sized zero a h = first_small (90_000_000 - a) (omega arith)
  cosine-sized (suc n) a h =
      ⊎_elim (λ (l : 90_000_000 < a). rw (lt-leb a 90_000_000 l, nat_abs_opposite) (sine-sized n (a - 90_000_000) (omega arith)))
      (λ (l : a ≤ 90_000_000). rw (le-leb a 90_000_000 l) (first_small (90_000_000 - a) (omega arith))) (either a 90_000_000)

pub sine-size : (z : ℤ) → nat_abs (sine z) ≤ 100_000_000
unfolding sine
sine-size z = sine-sized 3 (reduced z) (omega (arith, reduced_below z))

pub cosine-size : (z : ℤ) → nat_abs (cosine z) ≤ 100_000_000
unfolding cosine
cosine-size z = cosine-sized 3 (reduced z) (omega (arith, reduced_below z))

-- ---- 180 degrees less the angle, up to 90 degrees

module _ (m : ℕ) (within : m ≤ 90_000_000) where
  pub sine-second : sine (pos (180_000_000 - m)) ≡ sine (pos m)
  sine-second =
      sine-quarter (180_000_000 - m) (omega arith) (omega arith)
      ∙ cosine-first (180_000_000 - m - 90_000_000) (omega arith)
      ∙ ap first_quadrant (omega arith)
      ∙ sym (sine-first m within)

  pub cosine-second : cosine (pos (180_000_000 - m)) ≡ neg_ℤ (cosine (pos m))
  cosine-second =
      cosine-quarter (180_000_000 - m) (omega arith) (omega arith)
      ∙ ap neg_ℤ (sine-first (180_000_000 - m - 90_000_000) (omega arith) ∙ ap first_quadrant (omega arith) ∙ sym (cosine-first m within))

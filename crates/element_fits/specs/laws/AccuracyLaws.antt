-- The angle of a direction has its sine, or its cosine, within 2 units: the lesser of the two, by which it was found.
--   argument-sine     for |y| ≤ |x|, up to the sine of 45 degrees, the sine of the angle is within 2 units of y
--   argument-cosine   for |x| < |y|, likewise, the cosine of the angle is within 2 units of x
use Rattle.std.specs.Prelude.{◌≡◌, [], ◌∷◌, ℕ, zero, suc, ◌+◌, ◌-◌, ◌%◌, ◌≤◌, ◌<◌, ℤ, pos, negsuc, neg_ℤ, nat_abs, ◌-ℤ◌}
use Rattle.std.proofs.Common.{sym, ap, ◌∙◌, arith}
use Rattle.rounding.specs.laws.Order.{zs, nat_abs_opposite}
use Rattle.rounding.specs.laws.Ring.{◌⊖◌, opp, ring, v0, v1}
use Rattle.sine.specs.FirstQuadrant.{first_quadrant}
use Rattle.sine.specs.Sine.{reduced, sine, cosine}
use Rattle.sine.specs.laws.SineLaws.{sine-first, cosine-first, sine-quarter, cosine-quarter, sine-second, cosine-second, sine-reduced, cosine-reduced}
use Rattle.sine.specs.laws.OppositeLaws.{sine-opposite, cosine-opposite}
use Rattle.element_fits.specs.Angles.{arc, acute, argument}
use Rattle.element_fits.specs.laws.ArcsineLaws.{arc-le, arc-within}
use Rattle.element_fits.specs.laws.ArgumentLaws.{acute-flat, acute-steep, acute-le, argument-first, argument-second, argument-third, argument-fourth}

-- ---- half a turn more, and a turn less the angle
module _ (a : ℕ) (within : a ≤ 90_000_000) where
  sine-third : sine (pos (180_000_000 + a)) ≡ neg_ℤ (sine (pos a))
  sine-third =
      let p : 180_000_000 + a - 90_000_000 ≡ 90_000_000 + a = omega arith in
      let q : 90_000_000 + a - 90_000_000 ≡ a = omega arith in
      sine-quarter (180_000_000 + a) (omega arith) (omega arith)
      ∙ ap (λ (n : ℕ). cosine (pos n)) p
      ∙ cosine-quarter (90_000_000 + a) (omega arith) (omega arith)
      ∙ ap (λ (n : ℕ). neg_ℤ (sine (pos n))) q

  cosine-third : cosine (pos (180_000_000 + a)) ≡ neg_ℤ (cosine (pos a))
  cosine-third =
      let p : 180_000_000 + a - 90_000_000 ≡ 90_000_000 + a = omega arith in
      let q : 90_000_000 + a - 90_000_000 ≡ a = omega arith in
      cosine-quarter (180_000_000 + a) (omega arith) (omega arith)
      ∙ ap (λ (n : ℕ). neg_ℤ (sine (pos n))) p
      ∙ ap neg_ℤ (sine-quarter (90_000_000 + a) (omega arith) (omega arith) ∙ ap (λ (n : ℕ). cosine (pos n)) q)

rest : (a : ℕ) → a ≤ 90_000_000 → (360_000_000 - a) % 360_000_000 ≡ reduced (neg_ℤ (pos a))
unfolding reduced
rest zero h = omega arith
rest (suc n) h = omega arith

sine_fourth : (a : ℕ) → a ≤ 90_000_000 → sine (pos ((360_000_000 - a) % 360_000_000)) ≡ neg_ℤ (sine (pos a))
sine_fourth a h = ap (λ (n : ℕ). sine (pos n)) (rest a h) ∙ sine-reduced (neg_ℤ (pos a)) ∙ sine-opposite (pos a)

cosine_fourth : (a : ℕ) → a ≤ 90_000_000 → cosine (pos ((360_000_000 - a) % 360_000_000)) ≡ cosine (pos a)
cosine_fourth a h = ap (λ (n : ℕ). cosine (pos n)) (rest a h) ∙ cosine-reduced (neg_ℤ (pos a)) ∙ cosine-opposite (pos a)

-- ---- from the size of the lesser
above : (n : ℕ) {t : ℤ} → n ≤ 70_710_678 → t ≡ sine (pos (arc n)) → nat_abs (pos n -ℤ t) ≤ 2
above n h e = rw e (arc-within n h)

below : (n : ℕ) {t : ℤ} → suc n ≤ 70_710_678 → t ≡ neg_ℤ (sine (pos (arc (suc n)))) → nat_abs (negsuc n -ℤ t) ≤ 2
below n h e =
    let s = sine (pos (arc (suc n))) in
    rw e
    (omega (
      arith,
      arc-within (suc n) h,
      nat_abs_opposite (pos (suc n) -ℤ s),
      ap nat_abs (ring (pos (suc n) ∷ s ∷ []) (opp v0 ⊖ opp v1) (opp (v0 ⊖ v1)) tt),
    ))

-- the acute angle's sine where it is flat, its cosine where it is steep
flat : (p q : ℕ) → q ≤ p → sine (pos (acute p q)) ≡ sine (pos (arc q))
flat p q h = ap (λ (n : ℕ). sine (pos n)) (acute-flat p q h)

steep : (p q : ℕ) → p < q → cosine (pos (acute p q)) ≡ sine (pos (arc p))
steep p q h =
    let m = arc p in
    let l = arc-le p in
    let e : 90_000_000 - (90_000_000 - m) ≡ m = omega arith in
    ap (λ (n : ℕ). cosine (pos n)) (acute-steep p q h)
    ∙ cosine-first (90_000_000 - m) (omega arith)
    ∙ ap first_quadrant e
    ∙ sym (sine-first m (omega arith))

pub argument-sine : (x y : ℤ) → nat_abs y ≤ nat_abs x → nat_abs y ≤ 70_710_678 → nat_abs (y -ℤ sine (pos (argument x y))) ≤ 2
argument-sine (pos p) (pos q) h l =
    above q l (ap (λ (n : ℕ). sine (pos n)) (argument-first (pos p) (pos q) (omega (arith, zs)) (omega (arith, zs))) ∙ flat p q h)
argument-sine (negsuc p) (pos q) h l =
    above q l
    (ap (λ (n : ℕ). sine (pos n)) (argument-second (negsuc p) (pos q) (omega (arith, zs)) (omega (arith, zs)))
    ∙ sine-second (acute (suc p) q) (acute-le (suc p) q)
    ∙ flat (suc p) q h)
argument-sine (negsuc p) (negsuc q) h l =
    below q l
    (ap (λ (n : ℕ). sine (pos n)) (argument-third (negsuc p) (negsuc q) (omega (arith, zs)) (omega (arith, zs)))
    ∙ sine-third (acute (suc p) (suc q)) (acute-le (suc p) (suc q))
    ∙ ap neg_ℤ (flat (suc p) (suc q) h))
argument-sine (pos p) (negsuc q) h l =
    below q l
    (ap (λ (n : ℕ). sine (pos n)) (argument-fourth (pos p) (negsuc q) (omega (arith, zs)) (omega (arith, zs)))
    ∙ sine_fourth (acute p (suc q)) (acute-le p (suc q))
    ∙ ap neg_ℤ (flat p (suc q) h))

pub argument-cosine : (x y : ℤ) → nat_abs x < nat_abs y → nat_abs x ≤ 70_710_678 → nat_abs (x -ℤ cosine (pos (argument x y))) ≤ 2
argument-cosine (pos p) (pos q) h l =
    above p l (ap (λ (n : ℕ). cosine (pos n)) (argument-first (pos p) (pos q) (omega (arith, zs)) (omega (arith, zs))) ∙ steep p q h)
argument-cosine (negsuc p) (pos q) h l =
    below p l
    (ap (λ (n : ℕ). cosine (pos n)) (argument-second (negsuc p) (pos q) (omega (arith, zs)) (omega (arith, zs)))
    ∙ cosine-second (acute (suc p) q) (acute-le (suc p) q)
    ∙ ap neg_ℤ (steep (suc p) q h))
argument-cosine (negsuc p) (negsuc q) h l =
    below p l
    (ap (λ (n : ℕ). cosine (pos n)) (argument-third (negsuc p) (negsuc q) (omega (arith, zs)) (omega (arith, zs)))
    ∙ cosine-third (acute (suc p) (suc q)) (acute-le (suc p) (suc q))
    ∙ ap neg_ℤ (steep (suc p) (suc q) h))
argument-cosine (pos p) (negsuc q) h l =
    above p l
    (ap (λ (n : ℕ). cosine (pos n)) (argument-fourth (pos p) (negsuc q) (omega (arith, zs)) (omega (arith, zs)))
    ∙ cosine_fourth (acute p (suc q)) (acute-le p (suc q))
    ∙ steep p (suc q) h)

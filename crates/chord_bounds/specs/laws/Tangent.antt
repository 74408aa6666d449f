-- A function of whole numbers whose second differences are at most c / w in size leaves its tangent at y, the line through y and y + 1, by at most
-- c (n² + n) / 2w at a distance of n; and where its first differences are at most s, two values n apart differ by at most s n.
--   tangent      any x before or after y
--   lipschitz    two values
use Rattle.std.specs.Prelude.{◌≡◌, [], ◌∷◌, ℕ, zero, suc, ◌+◌, ◌*◌, ◌≤◌, ℤ, pos, negsuc, nat_abs, ◌+ℤ◌, ◌-ℤ◌, ◌*ℤ◌}
use Rattle.std.proofs.Common.{sym, ◌∙◌, ap, arith, mul-le-mul_left}
use Rattle.rounding.specs.laws.Order.{nat_abs_sum, nat_abs_opposite, nat_abs_product}
use Rattle.rounding.specs.laws.Ring.{num, ◌⊕◌, ◌⊖◌, ◌⊗◌, opp, ring, v0, v1, v2, v3, v4}

-- w times the second differences are at most c in size
pub record Bent (w c : ℕ) (f : ℤ → ℤ) : Type 0 where
  pub at : (z : ℤ) → w * nat_abs (f (z +ℤ pos 2) -ℤ pos 2 *ℤ f (z +ℤ pos 1) +ℤ f z) ≤ c

-- the step from y to y + 1
abbrev pub step : (ℤ → ℤ) → ℤ → ℤ
step f y = f (y +ℤ pos 1) -ℤ f y

module _ (w c : ℕ) (f : ℤ → ℤ) (b : Bent w c f) where
  -- j after y
  after : (j : ℕ) (y : ℤ) → 2 * w * nat_abs (f (y +ℤ pos j) -ℤ f y -ℤ pos j *ℤ step f y) + c * j ≤ c * j * j
  after zero y =
      let e : y +ℤ pos 0 ≡ y = ring (y ∷ []) (v0 ⊕ num 0) v0 tt in
      rw e (omega (arith, ap (λ (z : ℤ). 2 * w * nat_abs z) (ring (f y ∷ f (y +ℤ pos 1) ∷ []) (v0 ⊖ v0 ⊖ num 0 ⊗ (v1 ⊖ v0)) (num 0) tt)))
  after (suc j) y =
      let d = f (y +ℤ pos 2) -ℤ pos 2 *ℤ f (y +ℤ pos 1) +ℤ f y in
      let r = f (y +ℤ pos 1 +ℤ pos j) -ℤ f (y +ℤ pos 1) -ℤ pos j *ℤ step f (y +ℤ pos 1) in
      let p : y +ℤ pos (suc j) ≡ y +ℤ pos 1 +ℤ pos j = ap (λ (n : ℕ). y +ℤ pos n) (omega arith) ∙ ring (y ∷ pos j ∷ []) (v0 ⊕ (num 1 ⊕ v1)) (v0 ⊕ num 1 ⊕ v1) tt in
      let q : y +ℤ pos 1 +ℤ pos 1 ≡ y +ℤ pos 2 = ring (y ∷ []) (v0 ⊕ num 1 ⊕ num 1) (v0 ⊕ num 2) tt in
      let s : pos (suc j) ≡ pos j +ℤ pos 1 = ap pos (omega arith) in
      let e : f (y +ℤ pos (suc j)) -ℤ f y -ℤ pos (suc j) *ℤ step f y ≡ r +ℤ pos j *ℤ d
      = rw (p, q, s) (ring (f y ∷ f (y +ℤ pos 1) ∷ f (y +ℤ pos 2) ∷ f (y +ℤ pos 1 +ℤ pos j) ∷ pos j ∷ [])
      (v3 ⊖ v0 ⊖ (v4 ⊕ num 1) ⊗ (v1 ⊖ v0)) (v3 ⊖ v1 ⊖ v4 ⊗ (v2 ⊖ v1) ⊕ v4 ⊗ (v2 ⊖ num 2 ⊗ v1 ⊕ v0)) tt) in
      omega (
        arith,
        mul-le-mul_left (2 * w) (nat_abs_sum r (pos j *ℤ d)),
        ap (λ (z : ℤ). 2 * w * nat_abs z) e,
        ap (λ (n : ℕ). 2 * w * n) (nat_abs_product (pos j) d),
        mul-le-mul_left (2 * j) (b.at y),
        after j (y +ℤ pos 1),
      )

  -- j before y
  before : (j : ℕ) (y : ℤ) → 2 * w * nat_abs (f (y -ℤ pos j) -ℤ f y +ℤ pos j *ℤ step f y) ≤ c * j * j + c * j
  before zero y =
      let e : y -ℤ pos 0 ≡ y = ring (y ∷ []) (v0 ⊖ num 0) v0 tt in
      rw e (omega (arith, ap (λ (z : ℤ). 2 * w * nat_abs z) (ring (f y ∷ f (y +ℤ pos 1) ∷ []) (v0 ⊖ v0 ⊕ num 0 ⊗ (v1 ⊖ v0)) (num 0) tt)))
  before (suc j) y =
      let x = y -ℤ pos 1 in
      let d = f (x +ℤ pos 2) -ℤ pos 2 *ℤ f (x +ℤ pos 1) +ℤ f x in
      let r = f (x -ℤ pos j) -ℤ f x +ℤ pos j *ℤ step f x in
      let one_more : suc j ≡ 1 + j = omega arith in
      let p : y -ℤ pos (suc j) ≡ x -ℤ pos j = ap (λ (n : ℕ). y -ℤ pos n) one_more ∙ ring (y ∷ pos j ∷ []) (v0 ⊖ (num 1 ⊕ v1)) (v0 ⊖ num 1 ⊖ v1) tt in
      let q : y ≡ x +ℤ pos 1 = ring (y ∷ []) v0 (v0 ⊖ num 1 ⊕ num 1) tt in
      let t : y +ℤ pos 1 ≡ x +ℤ pos 2 = ring (y ∷ []) (v0 ⊕ num 1) (v0 ⊖ num 1 ⊕ num 2) tt in
      let s : pos (suc j) ≡ pos j +ℤ pos 1 = ap pos (omega arith) in
      let e : f (y -ℤ pos (suc j)) -ℤ f y +ℤ pos (suc j) *ℤ step f y ≡ r +ℤ pos (suc j) *ℤ d
      = ap (λ (z : ℤ). f z -ℤ f y +ℤ pos (suc j) *ℤ (f (y +ℤ pos 1) -ℤ f y)) p
      ∙ ap (λ (z : ℤ). f (x -ℤ pos j) -ℤ f y +ℤ pos (suc j) *ℤ (f z -ℤ f y)) t
      ∙ ap (λ (z : ℤ). f (x -ℤ pos j) -ℤ f z +ℤ pos (suc j) *ℤ (f (x +ℤ pos 2) -ℤ f z)) q
      ∙ ap (λ (z : ℤ). f (x -ℤ pos j) -ℤ f (x +ℤ pos 1) +ℤ z *ℤ (f (x +ℤ pos 2) -ℤ f (x +ℤ pos 1))) s
      ∙ ring (f x ∷ f (x +ℤ pos 1) ∷ f (x +ℤ pos 2) ∷ f (x -ℤ pos j) ∷ pos j ∷ [])
      (v3 ⊖ v1 ⊕ (v4 ⊕ num 1) ⊗ (v2 ⊖ v1)) (v3 ⊖ v0 ⊕ v4 ⊗ (v1 ⊖ v0) ⊕ (v4 ⊕ num 1) ⊗ (v2 ⊖ num 2 ⊗ v1 ⊕ v0)) tt
      ∙ ap (λ (z : ℤ). r +ℤ z *ℤ d) (sym s) in
      omega (
        arith,
        mul-le-mul_left (2 * w) (nat_abs_sum r (pos (suc j) *ℤ d)),
        ap (λ (z : ℤ). 2 * w * nat_abs z) e,
        ap (λ (n : ℕ). 2 * w * n) (nat_abs_product (pos (suc j)) d),
        mul-le-mul_left (2 * suc j) (b.at x),
        before j x,
      )

  by_sign : (y z : ℤ) → 2 * w * nat_abs (f (y +ℤ z) -ℤ f y -ℤ z *ℤ step f y) ≤ c * (nat_abs z * nat_abs z + nat_abs z)
  by_sign y (pos n) = omega (arith, after n y)
  by_sign y (negsuc n) =
      let k : ℕ = suc n in
      omega (
        arith,
        before k y,
        ap (λ (z : ℤ). 2 * w * nat_abs z) (ring (f (y -ℤ pos k) ∷ f y ∷ step f y ∷ pos k ∷ []) (v0 ⊖ v1 ⊖ opp v3 ⊗ v2) (v0 ⊖ v1 ⊕ v3 ⊗ v2) tt),
      )

  pub tangent : (x y : ℤ) → 2 * w * nat_abs (f x -ℤ f y -ℤ (x -ℤ y) *ℤ step f y) ≤ c * (nat_abs (x -ℤ y) * nat_abs (x -ℤ y) + nat_abs (x -ℤ y))
  tangent x y =
      let e : y +ℤ (x -ℤ y) ≡ x = ring (x ∷ y ∷ []) (v1 ⊕ (v0 ⊖ v1)) v0 tt in
      rw e at (by_sign y (x -ℤ y))

-- ---- first differences

module _ (w s : ℕ) (f : ℤ → ℤ) (b : (z : ℤ) → w * nat_abs (step f z) ≤ s) where
  on : (n : ℕ) (y : ℤ) → w * nat_abs (f (y +ℤ pos n) -ℤ f y) ≤ s * n
  on zero y =
      let e : y +ℤ pos 0 ≡ y = ring (y ∷ []) (v0 ⊕ num 0) v0 tt in
      rw e (omega (arith, ap (λ (z : ℤ). w * nat_abs z) (ring (f y ∷ []) (v0 ⊖ v0) (num 0) tt)))
  on (suc n) y =
      let x = y +ℤ pos n in
      let p : y +ℤ pos (suc n) ≡ x +ℤ pos 1 = ap (λ (m : ℕ). y +ℤ pos m) (omega arith) ∙ ring (y ∷ pos n ∷ []) (v0 ⊕ (v1 ⊕ num 1)) (v0 ⊕ v1 ⊕ num 1) tt in
      let e : f (y +ℤ pos (suc n)) -ℤ f y ≡ step f x +ℤ (f x -ℤ f y)
      = rw p (ring (f (x +ℤ pos 1) ∷ f x ∷ f y ∷ []) (v0 ⊖ v2) (v0 ⊖ v1 ⊕ (v1 ⊖ v2)) tt) in
      omega (arith, ap (λ (z : ℤ). w * nat_abs z) e, mul-le-mul_left w (nat_abs_sum (step f x) (f x -ℤ f y)), b x, on n y)

  by-sign-first : (y z : ℤ) → w * nat_abs (f (y +ℤ z) -ℤ f y) ≤ s * nat_abs z
  by-sign-first y (pos n) = on n y
  by-sign-first y (negsuc n) =
      let k : ℕ = suc n in
      let x = y -ℤ pos k in
      let e : x +ℤ pos k ≡ y = ring (y ∷ pos k ∷ []) (v0 ⊖ v1 ⊕ v1) v0 tt in
      omega (
        arith,
        rw e at (on k x),
        ap (λ (z : ℤ). w * nat_abs z) (ring (f x ∷ f y ∷ []) (v0 ⊖ v1) (opp (v1 ⊖ v0)) tt),
        ap (λ (m : ℕ). w * m) (nat_abs_opposite (f y -ℤ f x)),
      )

  pub lipschitz : (x y : ℤ) → w * nat_abs (f x -ℤ f y) ≤ s * nat_abs (x -ℤ y)
  lipschitz x y =
      let e : y +ℤ (x -ℤ y) ≡ x = ring (x ∷ y ∷ []) (v1 ⊕ (v0 ⊖ v1)) v0 tt in
      rw e at (by-sign-first y (x -ℤ y))

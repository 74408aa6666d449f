-- How far a value leaves the chord of two others. a, b, c are the values at the start, i seconds after it, and i + j seconds after it;
--   deviation i j a b c     (i + j) b - (j a + i c), so b less the chord's value, times i + j
-- and what sums, multiples, products and roundings make of it.
use Rattle.std.specs.Prelude.{◌≡◌, [], ◌∷◌, ℕ, ◌+◌, ◌*◌, ◌≤◌, ℤ, pos, nat_abs, ◌+ℤ◌, ◌-ℤ◌, ◌*ℤ◌}
use Rattle.std.proofs.Common.{ap, arith, mul-le-mul_left}
use Rattle.rounding.specs.laws.Order.{nat_abs_sum, nat_abs_minus, nat_abs_product}
use Rattle.rounding.specs.laws.Ring.{◌⊕◌, ◌⊖◌, ◌⊗◌, ring, v0, v1, v2, v3, v4, v5, v6, v7, v8}

abbrev pub deviation : (i j : ℕ) → (a b c : ℤ) → ℤ
deviation i j a b c = pos (i + j) *ℤ b -ℤ (pos j *ℤ a +ℤ pos i *ℤ c)

module _ (i j : ℕ) where
  pub deviation-sum : (a b c d e f : ℤ) → nat_abs (deviation i j (a +ℤ d) (b +ℤ e) (c +ℤ f)) ≤ nat_abs (deviation i j a b c) + nat_abs (deviation i j d e f)
  deviation-sum a b c d e f =
      omega (
        arith,
        ap nat_abs (ring (pos i ∷ pos j ∷ a ∷ b ∷ c ∷ d ∷ e ∷ f ∷ [])
            ((v0 ⊕ v1) ⊗ (v3 ⊕ v6) ⊖ (v1 ⊗ (v2 ⊕ v5) ⊕ v0 ⊗ (v4 ⊕ v7)))
            ((v0 ⊕ v1) ⊗ v3 ⊖ (v1 ⊗ v2 ⊕ v0 ⊗ v4) ⊕ ((v0 ⊕ v1) ⊗ v6 ⊖ (v1 ⊗ v5 ⊕ v0 ⊗ v7))) tt),
        nat_abs_sum (deviation i j a b c) (deviation i j d e f),
      )

  pub deviation-minus : (a b c d e f : ℤ) → nat_abs (deviation i j (a -ℤ d) (b -ℤ e) (c -ℤ f)) ≤ nat_abs (deviation i j a b c) + nat_abs (deviation i j d e f)
  deviation-minus a b c d e f =
      omega (
        arith,
        ap nat_abs (ring (pos i ∷ pos j ∷ a ∷ b ∷ c ∷ d ∷ e ∷ f ∷ [])
            ((v0 ⊕ v1) ⊗ (v3 ⊖ v6) ⊖ (v1 ⊗ (v2 ⊖ v5) ⊕ v0 ⊗ (v4 ⊖ v7)))
            ((v0 ⊕ v1) ⊗ v3 ⊖ (v1 ⊗ v2 ⊕ v0 ⊗ v4) ⊖ ((v0 ⊕ v1) ⊗ v6 ⊖ (v1 ⊗ v5 ⊕ v0 ⊗ v7))) tt),
        nat_abs_minus (deviation i j a b c) (deviation i j d e f),
      )

  -- times a number that stays
  pub deviation-left : (r a b c : ℤ) → deviation i j (r *ℤ a) (r *ℤ b) (r *ℤ c) ≡ r *ℤ deviation i j a b c
  deviation-left r a b c =
      ring (pos i ∷ pos j ∷ a ∷ b ∷ c ∷ r ∷ [])
      ((v0 ⊕ v1) ⊗ (v5 ⊗ v3) ⊖ (v1 ⊗ (v5 ⊗ v2) ⊕ v0 ⊗ (v5 ⊗ v4))) (v5 ⊗ ((v0 ⊕ v1) ⊗ v3 ⊖ (v1 ⊗ v2 ⊕ v0 ⊗ v4))) tt

  pub deviation-right : (r a b c : ℤ) → deviation i j (a *ℤ r) (b *ℤ r) (c *ℤ r) ≡ deviation i j a b c *ℤ r
  deviation-right r a b c =
      ring (pos i ∷ pos j ∷ a ∷ b ∷ c ∷ r ∷ [])
      ((v0 ⊕ v1) ⊗ (v3 ⊗ v5) ⊖ (v1 ⊗ (v2 ⊗ v5) ⊕ v0 ⊗ (v4 ⊗ v5))) (((v0 ⊕ v1) ⊗ v3 ⊖ (v1 ⊗ v2 ⊕ v0 ⊗ v4)) ⊗ v5) tt

  -- a, b, c are A, B, C over W, each up to E over k W
  pub deviation-near : (k W E : ℕ) (a b c A B C : ℤ)
      → k * nat_abs (pos W *ℤ a -ℤ A) ≤ E → k * nat_abs (pos W *ℤ b -ℤ B) ≤ E → k * nat_abs (pos W *ℤ c -ℤ C) ≤ E
      → k * (W * nat_abs (deviation i j a b c)) ≤ k * nat_abs (deviation i j A B C) + 2 * (i + j) * E
  deviation-near k W E a b c A B C ha hb hc =
      let p = pos W *ℤ a -ℤ A in
      let q = pos W *ℤ b -ℤ B in
      let r = pos W *ℤ c -ℤ C in
      let D = deviation i j A B C in
      let once : W * nat_abs (deviation i j a b c) ≤ nat_abs D + ((i + j) * nat_abs q + (j * nat_abs p + i * nat_abs r)) =
      omega (
        arith,
        ap nat_abs (ring (pos i ∷ pos j ∷ a ∷ b ∷ c ∷ A ∷ B ∷ C ∷ pos W ∷ [])
            (v8 ⊗ ((v0 ⊕ v1) ⊗ v3 ⊖ (v1 ⊗ v2 ⊕ v0 ⊗ v4)))
            ((v0 ⊕ v1) ⊗ v6 ⊖ (v1 ⊗ v5 ⊕ v0 ⊗ v7) ⊕ ((v0 ⊕ v1) ⊗ (v8 ⊗ v3 ⊖ v6) ⊖ (v1 ⊗ (v8 ⊗ v2 ⊖ v5) ⊕ v0 ⊗ (v8 ⊗ v4 ⊖ v7)))) tt),
        nat_abs_product (pos W) (deviation i j a b c),
        nat_abs_sum D (deviation i j p q r),
        nat_abs_minus (pos (i + j) *ℤ q) (pos j *ℤ p +ℤ pos i *ℤ r),
        nat_abs_sum (pos j *ℤ p) (pos i *ℤ r),
        nat_abs_product (pos (i + j)) q,
        nat_abs_product (pos j) p,
        nat_abs_product (pos i) r,
      ) in
      omega (arith, mul-le-mul_left k once, mul-le-mul_left (i + j) hb, mul-le-mul_left j ha, mul-le-mul_left i hc)

  -- of two that both change: G (deviation F) + F (deviation G) less the products of the changes
  pub deviation-product : (a b c x y z : ℤ)
      → nat_abs (deviation i j (a *ℤ x) (b *ℤ y) (c *ℤ z))
      ≤ nat_abs y * nat_abs (deviation i j a b c) + nat_abs b * nat_abs (deviation i j x y z) + j * (nat_abs (a -ℤ b) * nat_abs (x -ℤ y)) + i * (nat_abs (c -ℤ b) * nat_abs (z -ℤ y))
  deviation-product a b c x y z =
      let s = y *ℤ deviation i j a b c in
      let t = b *ℤ deviation i j x y z in
      let k = (a -ℤ b) *ℤ (x -ℤ y) in
      let m = (c -ℤ b) *ℤ (z -ℤ y) in
      omega (
        arith,
        ap nat_abs (ring (pos i ∷ pos j ∷ a ∷ b ∷ c ∷ x ∷ y ∷ z ∷ [])
            ((v0 ⊕ v1) ⊗ (v3 ⊗ v6) ⊖ (v1 ⊗ (v2 ⊗ v5) ⊕ v0 ⊗ (v4 ⊗ v7)))
            (v6 ⊗ ((v0 ⊕ v1) ⊗ v3 ⊖ (v1 ⊗ v2 ⊕ v0 ⊗ v4)) ⊕ v3 ⊗ ((v0 ⊕ v1) ⊗ v6 ⊖ (v1 ⊗ v5 ⊕ v0 ⊗ v7))
            ⊖ (v1 ⊗ ((v2 ⊖ v3) ⊗ (v5 ⊖ v6)) ⊕ v0 ⊗ ((v4 ⊖ v3) ⊗ (v7 ⊖ v6)))) tt),
        nat_abs_minus (s +ℤ t) (pos j *ℤ k +ℤ pos i *ℤ m),
        nat_abs_sum s t,
        nat_abs_sum (pos j *ℤ k) (pos i *ℤ m),
        nat_abs_product y (deviation i j a b c),
        nat_abs_product b (deviation i j x y z),
        nat_abs_product (pos j) k,
        nat_abs_product (pos i) m,
        ap (λ (n : ℕ). j * n) (nat_abs_product (a -ℤ b) (x -ℤ y)),
        ap (λ (n : ℕ). i * n) (nat_abs_product (c -ℤ b) (z -ℤ y)),
      )

  -- F at a, b, c against the line through b with the slope s
  pub deviation-line : (s a b c x y z : ℤ)
      → nat_abs (deviation i j x y z) ≤ nat_abs s * nat_abs (deviation i j a b c) + j * nat_abs (x -ℤ y -ℤ (a -ℤ b) *ℤ s) + i * nat_abs (z -ℤ y -ℤ (c -ℤ b) *ℤ s)
  deviation-line s a b c x y z =
      let t = s *ℤ deviation i j a b c in
      let k = x -ℤ y -ℤ (a -ℤ b) *ℤ s in
      let m = z -ℤ y -ℤ (c -ℤ b) *ℤ s in
      omega (
        arith,
        ap nat_abs (ring (pos i ∷ pos j ∷ a ∷ b ∷ c ∷ x ∷ y ∷ z ∷ s ∷ [])
            ((v0 ⊕ v1) ⊗ v6 ⊖ (v1 ⊗ v5 ⊕ v0 ⊗ v7))
            (v8 ⊗ ((v0 ⊕ v1) ⊗ v3 ⊖ (v1 ⊗ v2 ⊕ v0 ⊗ v4)) ⊖ (v1 ⊗ (v5 ⊖ v6 ⊖ (v2 ⊖ v3) ⊗ v8) ⊕ v0 ⊗ (v7 ⊖ v6 ⊖ (v4 ⊖ v3) ⊗ v8))) tt),
        nat_abs_minus t (pos j *ℤ k +ℤ pos i *ℤ m),
        nat_abs_sum (pos j *ℤ k) (pos i *ℤ m),
        nat_abs_product s (deviation i j a b c),
        nat_abs_product (pos j) k,
        nat_abs_product (pos i) m,
      )

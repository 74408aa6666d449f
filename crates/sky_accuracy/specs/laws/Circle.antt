-- The rule's sine and cosine make nearly 1 with their squares: p² + q² is 10^16 up to 8·10^8 (`squares`).
-- Why: the true ones do, up to 10^-16, and each of the rule's is 1.79 off.
use Rattle.std.specs.Prelude.{◌≡◌, [], ◌∷◌, ℕ, ◌+◌, ◌*◌, ◌≤◌, ℤ, nat_abs, ◌+ℤ◌, ◌-ℤ◌, ◌*ℤ◌}
use Rattle.std.proofs.Common.{arith, mul-pos}
use Rattle.std.proofs.Math.Nat.{le_of_mul-le-mul_left}
use Rattle.std.proofs.Math.IntN.{pos}
use Rattle.rounding.specs.laws.Order.{nat_abs_product}
use Rattle.rounding.specs.laws.Ring.{num, ◌⊕◌, ◌⊖◌, ◌⊗◌, ring, v0, v1, v2, v3, v4}
use Rattle.sky_accuracy.specs.laws.Sizes.{Known, OnCircle, by, plus, less, times}

module _ (K : ℕ) (some : 1 ≤ K) (p q P Q : ℤ) (hp : Known K p P) (hq : Known K q Q) (c : OnCircle K P Q) where
  off : ℤ → ℤ → ℤ
  off s S = pos 100 *ℤ (pos K *ℤ s -ℤ pos 100_000_000 *ℤ S)

  off-size : (s S : ℤ) → Known K s S → nat_abs (off s S) ≤ 179 * K
  unfolding off
  off-size s S h = times 100 (pos K *ℤ s -ℤ pos 100_000_000 *ℤ S) h.close

  -- twice K s, less the error
  about : ℤ → ℤ → ℤ
  about s S = pos 200 *ℤ (pos K *ℤ s) -ℤ off s S

  about-size : (s S : ℤ) → Known K s S → nat_abs (about s S) ≤ 20_000_000_000 * K + 179 * K
  unfolding about
  about-size s S h =
      less (pos 200 *ℤ (pos K *ℤ s)) (off s S)
      (times 200 (pos K *ℤ s) (omega (arith, by (pos K) s {m = K} (omega arith) h.small))) (off-size s S h)

  parts : pos 10_000 *ℤ (pos (K * K) *ℤ (p *ℤ p +ℤ q *ℤ q -ℤ pos 10_000_000_000_000_000))
      ≡ off p P *ℤ about p P +ℤ off q Q *ℤ about q Q +ℤ pos 100_000_000_000_000_000_000 *ℤ (P *ℤ P +ℤ Q *ℤ Q -ℤ pos (K * K))
  unfolding off about
  parts =
      ring (pos K ∷ p ∷ q ∷ P ∷ Q ∷ [])
      (num 10_000 ⊗ (v0 ⊗ v0 ⊗ (v1 ⊗ v1 ⊕ v2 ⊗ v2 ⊖ num 10_000_000_000_000_000)))
      (num 100 ⊗ (v0 ⊗ v1 ⊖ num 100_000_000 ⊗ v3) ⊗ (num 200 ⊗ (v0 ⊗ v1) ⊖ num 100 ⊗ (v0 ⊗ v1 ⊖ num 100_000_000 ⊗ v3))
      ⊕ num 100 ⊗ (v0 ⊗ v2 ⊖ num 100_000_000 ⊗ v4) ⊗ (num 200 ⊗ (v0 ⊗ v2) ⊖ num 100 ⊗ (v0 ⊗ v2 ⊖ num 100_000_000 ⊗ v4))
      ⊕ num 100_000_000_000_000_000_000 ⊗ (v3 ⊗ v3 ⊕ v4 ⊗ v4 ⊖ v0 ⊗ v0)) tt

  pub squares : nat_abs (p *ℤ p +ℤ q *ℤ q -ℤ pos 10_000_000_000_000_000) ≤ 800_000_000
  squares =
      let x = p *ℤ p +ℤ q *ℤ q -ℤ pos 10_000_000_000_000_000 in
      let y = P *ℤ P +ℤ Q *ℤ Q -ℤ pos (K * K) in
      let h : nat_abs (pos 10_000 *ℤ (pos (K * K) *ℤ x)) ≤ 8_000_000_000_000 * (K * K) =
      rw parts (omega (
        arith,
        plus (off p P *ℤ about p P +ℤ off q Q *ℤ about q Q) (pos 100_000_000_000_000_000_000 *ℤ y) {n = 10_000 * (K * K)}
            (plus (off p P *ℤ about p P) (off q Q *ℤ about q Q)
            (by (off p P) (about p P) (off-size p P hp) (about-size p P hp)) (by (off q Q) (about q Q) (off-size q Q hq) (about-size q Q hq)))
            (times 100_000_000_000_000_000_000 y (omega (arith, c.on))),
      )) in
      le_of_mul-le-mul_left {m = nat_abs x} {n = 800_000_000} {k = 10_000 * (K * K)}
      (omega (arith, h, nat_abs_product (pos 10_000) (pos (K * K) *ℤ x), nat_abs_product (pos (K * K)) x)) (omega (arith, mul-pos some some))

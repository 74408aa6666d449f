-- There is a true C at every latitude (`exists`): the root of 10^8·m²·K²/w to the unit, for m = 10^20 and w =
-- `under_true`.
use Rattle.std.specs.Prelude.{◌≡◌, [], ◌∷◌, ℕ, zero, suc, ◌+◌, ◌*◌, ◌/◌, ◌%◌, ◌≤◌, ◌<◌, ℤ, pos, nat_abs, ◌+ℤ◌, ◌-ℤ◌, ◌*ℤ◌, ◌≤ℤ◌, ◌<ℤ◌}
use Rattle.std.proofs.Common.{subst, ⊎_elim, arith, le_trans, mul-le-mul_left, mul-pos, div-add-mod', mod-lt}
use Rattle.std.proofs.Math.Dec.{leb→le}
use Rattle.std.specs.Int.Signed.{clash_ℤ}
use Rattle.rounding.specs.Parts.{same}
use Rattle.rounding.specs.laws.Order.{<-parts, ≤ℤ_trans, ≤ℤ_total, by_contra, nonneg, nat_abs_parts, nat_abs_le, le_nat_abs, neg_nat_abs, nat_abs_product}
use Rattle.rounding.specs.laws.Ring.{num, ◌⊕◌, ◌⊖◌, ◌⊗◌, opp, v0, v1, v2, v3}
use Rattle.rounding.specs.laws.Cert.{fact, leq, less, lit, sq, ◌⊞◌, ◌⊠◌, certify, certify-<}
use Rattle.rounding.specs.Root.{IsRoot}
use Rattle.sine_accuracy.specs.Series.{common}
use Rattle.sine_accuracy.specs.TrueSine.{true_sine, true_cosine}
use Rattle.sine_accuracy.proofs.laws.Circle.{circle}
use Rattle.sky_accuracy.specs.TruePlace.{under_true, TrueC}
use Rattle.sky_accuracy.specs.laws.Sizes.{times}
use Rattle.sky_accuracy.specs.laws.Latitude.{up, down, natural}

-- ---- every number has a root
record Rooted (n : ℕ) : Type 0 where
  r : ℕ
  is : IsRoot n r

rooted : (n : ℕ) → Rooted n
rooted zero = record { r = 0; is = record { low = omega arith; high = omega arith } }
rooted (suc n) = next (rooted n)
  where
    next : Rooted n → Rooted (suc n)
    next x =
        ⊎_elim
        (λ (l : pos ((x.r + 1) * (x.r + 1)) ≤ℤ pos (suc n)). record { r = x.r + 1; is = record { low = down l; high = omega (arith, x.is.high) } })
        (λ (l : pos (suc n) <ℤ pos ((x.r + 1) * (x.r + 1))). record { r = x.r; is = record { low = omega (arith, x.is.low); high = omega (arith, <-parts l) } })
        (≤ℤ_total (pos ((x.r + 1) * (x.r + 1))) (pos (suc n)))

-- ---- n²·w against 10^8·m²·K², n the root of its share of w
module _ (K m n w : ℕ) (some : 1 ≤ K) (fine : 100_000_000_000_000_000 ≤ m) (low : 99_330_657 * (K * K) ≤ w) (high : w ≤ 100_000_001 * (K * K))
    (below : n * n * w ≤ 100_000_000 * (m * m) * (K * K)) (above : 100_000_000 * (m * m) * (K * K) ≤ (n * n + 2 * n + 1) * w) where
  whole : pos 1 ≤ℤ (pos m *ℤ pos m *ℤ (pos K *ℤ pos K))
  whole = up (mul-pos (mul-pos some-m some-m) (mul-pos some some))
    where
      some-m : 1 ≤ m
      some-m = le_trans (leb→le 1 100_000_000_000_000_000 tt) fine

  n-most : pos n ≤ℤ (pos 2 *ℤ pos m)
  n-most =
      by_contra (pos n) (pos 2 *ℤ pos m)
      (λ g. clash_ℤ (certify-< 0 (pos n ∷ pos w ∷ pos m ∷ pos K ∷ []) (num 100_000_000 ⊗ (v2 ⊗ v2) ⊗ (v3 ⊗ v3)) (v0 ⊗ v0 ⊗ v1)
      (fact v1 (natural w) ⊠ (less (num 2 ⊗ v2) v0 g ⊞ lit 1) ⊠ (less (num 2 ⊗ v2) v0 g ⊞ lit 1 ⊞ lit 4 ⊠ fact v2 (natural m))
      ⊞ lit 4 ⊠ sq v2 ⊠ leq (num 99_330_657 ⊗ (v3 ⊗ v3)) v1 (up low)
      ⊞ lit 297_322_628 ⊠ leq (num 1) (v2 ⊗ v2 ⊗ (v3 ⊗ v3)) whole ⊞ lit 297_322_627) tt) (up below))

  near-one : 10_000_000_000_000_000 * nat_abs (pos (n * n) *ℤ pos w -ℤ pos (100_000_000 * (m * m) * (K * K))) ≤ 100_000_000 * (m * m) * (K * K)
  near-one =
      let z = pos (n * n) *ℤ pos w -ℤ pos (100_000_000 * (m * m) * (K * K)) in
      let e = v0 ⊗ v0 ⊗ v1 ⊖ num 100_000_000 ⊗ (v2 ⊗ v2) ⊗ (v3 ⊗ v3) in
      let b = num 100_000_000 ⊗ (v2 ⊗ v2) ⊗ (v3 ⊗ v3) in
      let v = pos n ∷ pos w ∷ pos m ∷ pos K ∷ [] in
      omega (
        arith,
        nat_abs_product (pos 10_000_000_000_000_000) z,
        nat_abs_le (pos 10_000_000_000_000_000 *ℤ z) {m = 100_000_000 * (m * m) * (K * K)}
            (certify 0 v (opp b) (num 10_000_000_000_000_000 ⊗ e)
            (lit 10_000_000_000_000_000 ⊠ leq b ((v0 ⊗ v0 ⊕ num 2 ⊗ v0 ⊕ num 1) ⊗ v1) (up above)
            ⊞ lit 20_000_000_000_000_000 ⊠ fact v1 (natural w) ⊠ leq v0 (num 2 ⊗ v2) n-most
            ⊞ lit 10_000_000_000_000_000 ⊠ fact v1 (natural w) ⊠ (leq (num 100_000_000_000_000_000) v2 (up fine) ⊞ lit 99_999_999_999_999_999)
            ⊞ lit 50_000_000_000_000_000 ⊠ fact v2 (natural m) ⊠ leq v1 (num 100_000_001 ⊗ (v3 ⊗ v3)) (up high)
            ⊞ fact v2 (natural m) ⊠ sq v3 ⊠ (lit 100_000_000 ⊠ leq (num 100_000_000_000_000_000) v2 (up fine) ⊞ lit 4_999_999_950_000_000_000_000_000)) tt)
            (certify 0 v (num 10_000_000_000_000_000 ⊗ e) b (lit 10_000_000_000_000_000 ⊠ leq (v0 ⊗ v0 ⊗ v1) b (up below) ⊞ lit 100_000_000 ⊠ sq v2 ⊠ sq v3) tt),
      )

divided : (N w r : ℕ) → 1 ≤ w → IsRoot (N / w) r → (r * r * w ≤ N) × (N ≤ (r * r + 2 * r + 1) * w)
divided N w r h x = go (N / w) (N % w) (div-add-mod' N w) (mod-lt N h) x
  where
    go : (q l : ℕ) → q * w + l ≡ N → l < w → IsRoot q r → (r * r * w ≤ N) × (N ≤ (r * r + 2 * r + 1) * w)
    go q l e k y =
        let less : q + 1 ≤ r * r + 2 * r + 1 = omega (arith, y.high) in
        (omega (arith, mul-le-mul_left w y.low), omega (arith, mul-le-mul_left w less))

-- ---- at a latitude
module _ (latitude : ℤ) where
  on : nat_abs (pos 10_000_000_000_000_000 *ℤ (true_sine latitude *ℤ true_sine latitude +ℤ true_cosine latitude *ℤ true_cosine latitude -ℤ pos (common * common))) ≤ common * common
  on = times 10_000_000_000_000_000 (true_sine latitude *ℤ true_sine latitude +ℤ true_cosine latitude *ℤ true_cosine latitude -ℤ pos (common * common)) (circle latitude)

  under_low : pos (99_330_657 * (common * common)) ≤ℤ under_true latitude
  unfolding under_true
  under_low =
      certify 9_999_999_999_999_999 (pos common ∷ true_sine latitude ∷ true_cosine latitude ∷ []) (num 99_330_657 ⊗ (v0 ⊗ v0)) (num 100_000_000 ⊗ (v2 ⊗ v2)
      ⊕ num 99_330_658 ⊗ (v1 ⊗ v1))
      (lit 99_330_658 ⊠ leq (opp (v0 ⊗ v0)) (num 10_000_000_000_000_000 ⊗ (v1 ⊗ v1 ⊕ v2 ⊗ v2 ⊖ v0 ⊗ v0)) (neg_nat_abs _ on)
      ⊞ lit 6_693_420_000_000_000_000_000 ⊠ sq v2 ⊞ lit 9_999_999_900_669_342 ⊠ sq v0) tt

  under-high : under_true latitude ≤ℤ pos (100_000_001 * (common * common))
  unfolding under_true
  under-high =
      certify 9_999_999_999_999_999 (pos common ∷ true_sine latitude ∷ true_cosine latitude ∷ []) (num 100_000_000 ⊗ (v2 ⊗ v2) ⊕ num 99_330_658 ⊗ (v1 ⊗ v1))
      (num 100_000_001 ⊗ (v0 ⊗ v0))
      (lit 100_000_000 ⊠ leq (num 10_000_000_000_000_000 ⊗ (v1 ⊗ v1 ⊕ v2 ⊗ v2 ⊖ v0 ⊗ v0)) (v0 ⊗ v0) (le_nat_abs _ on)
      ⊞ lit 6_693_420_000_000_000_000_000 ⊠ sq v1 ⊞ lit 9_999_999_900_000_000 ⊠ sq v0) tt

  w : ℕ
  w = nat_abs (under_true latitude)

  w-is : under_true latitude ≡ pos w
  unfolding w
  w-is = same (under_true latitude) (pos (nat_abs (under_true latitude)))
      (omega (arith, nat_abs_parts (under_true latitude), nonneg (≤ℤ_trans (natural (99_330_657 * (common * common))) under_low)))

  w-low : 99_330_657 * (common * common) ≤ w
  w-low = down (subst (λ (z : ℤ). pos (99_330_657 * (common * common)) ≤ℤ z) w-is under_low)

  w-high : w ≤ 100_000_001 * (common * common)
  w-high = down (subst (λ (z : ℤ). z ≤ℤ pos (100_000_001 * (common * common))) w-is under-high)

  some : 1 ≤ common
  unfolding common
  some = leb→le 1 common tt

  w-some : 1 ≤ w
  w-some = omega (arith, w-low, mul-pos some some)

  pub exists : TrueC latitude
  exists =
      let M : ℕ = 100_000_000_000_000_000_000 in
      let N = 100_000_000 * (M * M) * (common * common) in
      let x = rooted (N / w) in
      let d = divided N w x.r w-some x.is in
      record {
        n = x.r;
        m = M;
        some = leb→le 1 M tt;
        one = rw w-is (near-one common M x.r w some (leb→le 100_000_000_000_000_000 M tt) w-low w-high d.0 d.1);
      }

-- The rule's C against the spheroid: C²·(10^8·c² + E·s²) is 10^40 up to 3.52·10^32, so C is 1.76 units off at most
-- (`curvature`). Why: the root is cut, up to 1; C and s·E are rounded, ½ each; and c² + s² is nearly 1 (Circle).
use Rattle.std.specs.Prelude.{◌≡◌, [], ◌∷◌, ℕ, ◌+◌, ◌*◌, ◌≤◌, ℤ, neg_ℤ, nat_abs, ◌+ℤ◌, ◌-ℤ◌, ◌*ℤ◌, ◌≤ℤ◌}
use Rattle.std.proofs.Common.{arith}
use Rattle.std.proofs.Math.IntN.{pos}
use Rattle.std.specs.Int.Signed.{le_z_yes}
use Rattle.rounding.specs.Parts.{same}
use Rattle.rounding.specs.laws.Order.{≤-parts, parts-≤, ≤ℤ_trans, nonneg, nat_abs_parts, nat_abs_le, le_nat_abs, neg_nat_abs}
use Rattle.rounding.specs.laws.Ring.{num, ◌⊕◌, ◌⊖◌, ◌⊗◌, opp, v0, v1, v2, v3, v4}
use Rattle.rounding.specs.laws.Cert.{fact, leq, lit, sq, ◌⊞◌, ◌⊠◌, certify}
use Rattle.rounding.specs.Units.{one}
use Rattle.rounding.specs.Near.{near}
use Rattle.rounding.proofs.laws.NearLaws.{near-is, near-low, near-high}
use Rattle.rounding.specs.Root.{root, IsRoot}
use Rattle.rounding.specs.laws.RootLaws.{root_is, root_below}
use Rattle.station.specs.Place.{E, under, W, C}
use Rattle.station.proofs.laws.PlaceLaws.{under-nonneg, root-low, C-size}

module _ (s c : ℤ) (hs : nat_abs s ≤ 100000000) (hc : nat_abs c ≤ 100000000) (q : 9960000000000000 ≤ nat_abs s * nat_abs s + nat_abs c * nat_abs c)
    (squares : nat_abs (c *ℤ c +ℤ s *ℤ s -ℤ pos 10_000_000_000_000_000) ≤ 800_000_000) where
  n : ℤ
  n = near (s *ℤ E) one

  -- twice what s·E is off by rounding, in units of 10^-8
  n-low : neg_ℤ (pos 100_000_000) ≤ℤ (pos 2 *ℤ (pos 100_000_000 *ℤ n -ℤ s *ℤ pos 99_330_658))
  unfolding n
  n-low = near-high (s *ℤ E) one (le_z_yes tt)

  n-high : (pos 2 *ℤ (pos 100_000_000 *ℤ n -ℤ s *ℤ pos 99_330_658)) ≤ℤ pos 100_000_000
  unfolding n
  n-high = near-low (s *ℤ E) one (le_z_yes tt)

  -- 2·10^8 w is at most 2·10^8 (c² + s²) and 10^16 more
  w-high : under s c ≤ℤ pos 10_000_000_850_000_000
  unfolding under n
  w-high =
      let x = num 2 ⊗ (num 100_000_000 ⊗ v2 ⊖ v0 ⊗ num 99_330_658) in
      let u = num 100_000_000 in
      certify 399_999_999 (s ∷ c ∷ n ∷ []) (v1 ⊗ v1 ⊕ v2 ⊗ v0) (num 10_000_000_850_000_000)
      (lit 400_000_000 ⊠ leq (v1 ⊗ v1 ⊕ v0 ⊗ v0 ⊖ num 10_000_000_000_000_000) (num 800_000_000) (le_nat_abs _ squares)
      ⊞ leq x u n-high ⊠ leq (opp u) v0 (neg_nat_abs s hs)
      ⊞ leq (opp u) x n-low ⊠ leq v0 u (le_nat_abs s hs)
      ⊞ lit 2_677_368 ⊠ sq v0) tt

  natural : under s c ≡ pos (nat_abs (under s c))
  natural = same (under s c) (pos (nat_abs (under s c))) (omega (arith, nat_abs_parts (under s c), nonneg (under-nonneg s c hs hc q)))

  w-size : nat_abs (under s c) ≤ 10_000_000_850_000_000
  w-size = omega (arith, nat_abs_parts (under s c), nonneg (under-nonneg s c hs hc q), ≤-parts w-high)

  r : ℕ
  r = root (nat_abs (under s c))

  r-root : IsRoot (nat_abs (under s c)) r
  unfolding r
  r-root = root_is (nat_abs (under s c)) (omega (arith, w-size))

  r-low : pos 1 ≤ℤ pos r
  unfolding r
  r-low = parts-≤ (omega (arith, root-low s c hs hc q))

  r-high : pos r ≤ℤ pos 100_010_000
  unfolding r
  r-high = parts-≤ (omega (arith, root_below (nat_abs (under s c)) 100_010_000 (omega (arith, w-size)) (omega (arith, w-size))))

  -- W² ≤ w ≤ W² + 2W
  root-under : (pos r *ℤ pos r) ≤ℤ under s c
  root-under = rw natural (parts-≤ (omega (arith, r-root.low)))

  under-root : under s c ≤ℤ (pos r *ℤ pos r +ℤ pos 2 *ℤ pos r)
  under-root = rw natural (parts-≤ (omega (arith, r-root.high)))

  -- C W is 10^16 up to W/2
  C-low : neg_ℤ (pos r) ≤ℤ (pos 2 *ℤ (pos r *ℤ C s c -ℤ pos 10_000_000_000_000_000))
  unfolding C W r
  C-low = near-high (pos 10000000000000000) (pos r) r-low

  C-high : (pos 2 *ℤ (pos r *ℤ C s c -ℤ pos 10_000_000_000_000_000)) ≤ℤ pos r
  unfolding C W r
  C-high = near-low (pos 10000000000000000) (pos r) r-low

  pub C_positive : pos 0 ≤ℤ C s c
  unfolding C W r
  C_positive = (near-is (pos 10000000000000000) (pos r) r-low).above (le_z_yes tt)

  pub C_most : C s c ≤ℤ pos 100_600_000
  C_most = le_nat_abs (C s c) (C-size s c hs hc q)

  -- (2 C W)² between the squares of 2·10^16 less and plus 100,010,000
  product_high : (pos 2 *ℤ (pos r *ℤ C s c)) ≤ℤ pos 20_000_000_100_010_000
  product_high =
      certify 0 (pos r ∷ C s c ∷ []) (num 2 ⊗ (v0 ⊗ v1)) (num 20_000_000_100_010_000)
      (leq (num 2 ⊗ (v0 ⊗ v1 ⊖ num 10_000_000_000_000_000)) v0 C-high ⊞ leq v0 (num 100_010_000) r-high) tt

  product-low : pos 19_999_999_899_990_000 ≤ℤ (pos 2 *ℤ (pos r *ℤ C s c))
  product-low =
      certify 0 (pos r ∷ C s c ∷ []) (num 19_999_999_899_990_000) (num 2 ⊗ (v0 ⊗ v1))
      (leq (opp v0) (num 2 ⊗ (v0 ⊗ v1 ⊖ num 10_000_000_000_000_000)) C-low ⊞ leq v0 (num 100_010_000) r-high) tt

  abbrev w° : ℤ
  w° = pos 100_000_000 *ℤ (c *ℤ c) +ℤ pos 99_330_658 *ℤ (s *ℤ s)

  curvature-high : (C s c *ℤ C s c *ℤ w°) ≤ℤ pos 10_000_000_352_000_000_000_000_000_000_000_000_000_000
  unfolding under n
  curvature-high =
      let x = num 2 ⊗ (num 100_000_000 ⊗ v2 ⊖ v0 ⊗ num 99_330_658) in
      let u = num 100_000_000 in
      let y = num 2 ⊗ (v3 ⊗ v4) in
      let b = num 20_000_000_100_010_000 in
      let positive = fact v4 C_positive in
      certify 3 (s ∷ c ∷ n ∷ pos r ∷ C s c ∷ [])
      (v4 ⊗ v4 ⊗ (num 100_000_000 ⊗ (v1 ⊗ v1) ⊕ num 99_330_658 ⊗ (v0 ⊗ v0))) (num 10_000_000_352_000_000_000_000_000_000_000_000_000_000)
      (lit 400_000_000 ⊠ sq v4 ⊠ leq (v1 ⊗ v1 ⊕ v2 ⊗ v0) (v3 ⊗ v3 ⊕ num 2 ⊗ v3) under-root
      ⊞ lit 100_000_000 ⊠ leq y b product_high ⊠ (leq y b product_high ⊞ lit 2 ⊠ fact y (≤ℤ_trans (le_z_yes tt) product-low))
      ⊞ lit 400_000_000 ⊠ positive ⊠ leq y b product_high
      ⊞ lit 8_000_000_040_004_000_000_000_000 ⊠ leq v4 (num 100_600_000) C_most
      ⊞ sq v4 ⊠ (leq (opp u) x n-low ⊠ leq (opp u) v0 (neg_nat_abs s hs) ⊞ leq x u n-high ⊠ leq v0 u (le_nat_abs s hs))
      ⊞ lit 20_000_000_000_000_000 ⊠ leq v4 (num 100_600_000) C_most ⊠ (leq v4 (num 100_600_000) C_most ⊞ lit 2 ⊠ positive)
      ⊞ lit 752_794_975_397_590_000_000_000_000_000) tt

  curvature-low : pos 9_999_999_648_000_000_000_000_000_000_000_000_000_000 ≤ℤ (C s c *ℤ C s c *ℤ w°)
  unfolding under n
  curvature-low =
      let x = num 2 ⊗ (num 100_000_000 ⊗ v2 ⊖ v0 ⊗ num 99_330_658) in
      let u = num 100_000_000 in
      let y = num 2 ⊗ (v3 ⊗ v4) in
      let b = num 19_999_999_899_990_000 in
      let positive = fact v4 C_positive in
      certify 3 (s ∷ c ∷ n ∷ pos r ∷ C s c ∷ [])
      (num 9_999_999_648_000_000_000_000_000_000_000_000_000_000) (v4 ⊗ v4 ⊗ (num 100_000_000 ⊗ (v1 ⊗ v1) ⊕ num 99_330_658 ⊗ (v0 ⊗ v0)))
      (lit 400_000_000 ⊠ sq v4 ⊠ leq (v3 ⊗ v3) (v1 ⊗ v1 ⊕ v2 ⊗ v0) root-under
      ⊞ lit 100_000_000 ⊠ leq b y product-low ⊠ (leq b y product-low ⊞ lit 39_999_999_799_980_000)
      ⊞ sq v4 ⊠ (leq x u n-high ⊠ leq (opp u) v0 (neg_nat_abs s hs) ⊞ leq (opp u) x n-low ⊠ leq v0 u (le_nat_abs s hs))
      ⊞ lit 20_000_000_000_000_000 ⊠ leq v4 (num 100_600_000) C_most ⊠ (leq v4 (num 100_600_000) C_most ⊞ lit 2 ⊠ positive)
      ⊞ lit 805_552_801_000_200_010_000_000_000_000_000) tt

  pub curvature : nat_abs (C s c *ℤ C s c *ℤ w° -ℤ pos 10_000_000_000_000_000_000_000_000_000_000_000_000_000) ≤ 352_000_000_000_000_000_000_000_000_000_000
  curvature =
      nat_abs_le (C s c *ℤ C s c *ℤ w° -ℤ pos 10_000_000_000_000_000_000_000_000_000_000_000_000_000) {m = 352_000_000_000_000_000_000_000_000_000_000}
      (certify 0 ((C s c *ℤ C s c *ℤ w°) ∷ []) (opp (num 352_000_000_000_000_000_000_000_000_000_000)) (v0 ⊖ num 10_000_000_000_000_000_000_000_000_000_000_000_000_000)
      (leq (num 9_999_999_648_000_000_000_000_000_000_000_000_000_000) v0 curvature-low) tt)
      (certify 0 ((C s c *ℤ C s c *ℤ w°) ∷ []) (v0 ⊖ num 10_000_000_000_000_000_000_000_000_000_000_000_000_000) (num 352_000_000_000_000_000_000_000_000_000_000)
      (leq v0 (num 10_000_000_352_000_000_000_000_000_000_000_000_000_000) curvature-high) tt)

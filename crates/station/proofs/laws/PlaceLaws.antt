-- How large W, C, Z, h, R and P are; `place_sizes`: so every station in its ranges has its place within the sizes that
-- the shadow asks.
use Rattle.std.specs.Prelude.{◌≡◌, [], ◌∷◌, ℕ, ◌+◌, ◌*◌, ◌≤◌, ℤ, pos, neg_ℤ, nat_abs, ◌+ℤ◌, ◌*ℤ◌, ◌≤ℤ◌}
use Rattle.std.proofs.Common.{subst, arith, mul-le-mul, lt_of_not-le}
use Rattle.std.specs.Int.Signed.{le_z_yes}
use Rattle.rounding.specs.Parts.{sum, opposite}
use Rattle.rounding.specs.laws.Order.{zs, *ℤ_nonneg, ≤-parts, ≤ℤ_trans, le_nat_abs, neg_nat_abs}
use Rattle.rounding.specs.laws.Order.{nat_abs_sum, nat_abs_minus, square_nat_abs, nat_abs_product_le, nonneg_nat_abs}
use Rattle.rounding.specs.laws.Ring.{num, ◌⊕◌, ◌⊖◌, ◌⊗◌, opp, ring, v0, v1, v2}
use Rattle.rounding.specs.laws.Cert.{leq, lit, sq, ◌⊞◌, ◌⊠◌, certify}
use Rattle.rounding.specs.Units.{one}
use Rattle.rounding.specs.Near.{near}
use Rattle.rounding.proofs.laws.NearLaws.{near-is, near-low, near-high, near-size}
use Rattle.rounding.specs.Root.{root, IsRoot}
use Rattle.rounding.specs.laws.RootLaws.{root_is}
use Rattle.sine.specs.Sine.{sine, cosine}
use Rattle.sine.specs.laws.SineLaws.{sine-size, cosine-size}
use Rattle.sine.specs.laws.SizeLaws.{square-sum}
use Rattle.station.specs.declared.Station.{Station}
use Rattle.station.specs.Place.{equatorial_radius, E, under, W, C, Z, h, R, P, turn_in, ephemeris_longitude, place_of}
use Rattle.station.specs.Sizes.{StationSizes, PlaceSizes}

-- s and c are a sine and a cosine: of size at most 1, the sum of their squares nearly 1
module _ (s c : ℤ) (hs : nat_abs s ≤ 100000000) (hc : nat_abs c ≤ 100000000) (q : 9960000000000000 ≤ nat_abs s * nat_abs s + nat_abs c * nat_abs c) where
  abbrev n : ℤ
  n = near (s *ℤ E) one

  pub n-size : nat_abs n ≤ 100000000
  n-size = near-size (s *ℤ E) one 100000000 (le_z_yes tt) (omega (arith, nat_abs_product_le s E 100000000 99330658 hs (omega arith)))

  under-size : nat_abs (under s c) ≤ 20000000000000000
  unfolding under
  under-size =
      omega (arith, nat_abs_sum (c *ℤ c) (n *ℤ s), nat_abs_product_le c c 100000000 100000000 hc hc, nat_abs_product_le n s 100000000 100000000 n-size hs)

  circle : pos 9960000000000000 ≤ℤ (s *ℤ s +ℤ c *ℤ c)
  circle = rw (square_nat_abs s, square_nat_abs c) (omega (arith, zs))

  -- with x = 2(10^8 n - s E), which is at most 10^8 in size: 4·10^8 (c² + n s) = 4 E (s² + c²) + 4 (10^8 - E) c² + 2 x
  -- s, and 2 x s = (10^8 + x)(10^8 + s) + (10^8 - x)(10^8 - s) - 2·10^16
  pub under_low : pos 9893000000000000 ≤ℤ under s c
  unfolding under
  under_low =
      let x = num 2 ⊗ (num 100000000 ⊗ v2 ⊖ v0 ⊗ num 99330658) in
      let up = num 100000000 in
      certify 399999999 (s ∷ c ∷ n ∷ []) (num 9893000000000000) (v1 ⊗ v1 ⊕ v2 ⊗ v0)
      (lit 397322632 ⊠ leq (num 9960000000000000) (v0 ⊗ v0 ⊕ v1 ⊗ v1) circle
      ⊞ lit 2677368 ⊠ sq v1
      ⊞ leq (opp up) x (near-high (s *ℤ E) one (le_z_yes tt)) ⊠ leq (opp up) v0 (neg_nat_abs s hs)
      ⊞ leq x up (near-low (s *ℤ E) one (le_z_yes tt)) ⊠ leq v0 up (le_nat_abs s hs)
      ⊞ lit 133394720000000000000) tt

  pub under-nonneg : pos 0 ≤ℤ under s c
  under-nonneg = ≤ℤ_trans (le_z_yes tt) under_low

  under-natAbs : 9893000000000000 ≤ nat_abs (under s c)
  under-natAbs = omega (arith, ≤-parts (subst (λ (z : ℤ). pos 9893000000000000 ≤ℤ z) (nonneg_nat_abs (under s c) under-nonneg) under_low))

  abbrev w : ℕ
  w = root (nat_abs (under s c))

  is-root : IsRoot (nat_abs (under s c)) w
  is-root = root_is (nat_abs (under s c)) (omega (arith, under-size))

  pub root-low : 99463000 ≤ w
  root-low = omega (arith, lt_of_not-le {n = w} {m = 99462999} below)
    where
      below : w ≤ 99462999 → ⊥
      below l = omega (arith, is-root.high, under-natAbs, mul-le-mul {n₁ = w + 1} {m₁ = w + 1} {n₂ = 99463000} {m₂ = 99463000} (omega arith) (omega arith))

  pub root-high : w ≤ 141421357
  root-high = omega (arith, lt_of_not-le {n = 141421358} {m = w} above)
    where
      above : 141421358 ≤ w → ⊥
      above l = omega (arith, is-root.low, under-size, mul-le-mul {n₁ = 141421358} {m₁ = 141421358} {n₂ = w} {m₂ = w} l l)

  pub C-size : nat_abs (C s c) ≤ 100600000
  unfolding C W
  C-size = near-size (pos 10000000000000000) (pos w) 100600000 (omega (arith, zs, root-low)) (omega (arith, root-low))

  pub Z-size : nat_abs (Z s c) ≤ 100000000
  unfolding Z
  Z-size = near-size (C s c *ℤ E) one 100000000 (le_z_yes tt) (omega (arith, nat_abs_product_le (C s c) E 100600000 99330658 C-size (omega arith)))

pub h_size : (height : ℤ) → nat_abs height ≤ 9000 → nat_abs (h height) ≤ 141106
unfolding h
h_size height l = near-size (height *ℤ one) equatorial_radius 141106 (le_z_yes tt) (omega (arith, nat_abs_product_le height one 9000 100000000 l (omega arith)))

-- a sum of two lengths times a sine or a cosine, in units
pub scaled-size : (a b c : ℤ) (A B : ℕ) → nat_abs a ≤ A → nat_abs b ≤ B → nat_abs c ≤ 100000000 → nat_abs (near ((a +ℤ b) *ℤ c) one) ≤ A + B
scaled-size a b c A B ha hb hc =
    let s : nat_abs (a +ℤ b) ≤ A + B = omega (arith, nat_abs_sum a b) in
    near-size ((a +ℤ b) *ℤ c) one (A + B) (le_z_yes tt) (nat_abs_product_le (a +ℤ b) c (A + B) 100000000 s hc)

-- R and P of a latitude and a height in their ranges
module _ (latitude height : ℤ) (hl : nat_abs latitude ≤ 90000000) (hh : nat_abs height ≤ 9000) where
  abbrev s : ℤ
  s = sine latitude

  abbrev c : ℤ
  c = cosine latitude

  circle-of : 9960000000000000 ≤ nat_abs s * nat_abs s + nat_abs c * nat_abs c
  circle-of = omega (arith, square-sum latitude hl)

  pub R-size : nat_abs (R latitude height) ≤ 101000000
  unfolding R
  R-size =
      let n = C-size s c (sine-size latitude) (cosine-size latitude) circle-of in
      omega (arith, scaled-size (C s c) (h height) c 100600000 141106 n (h_size height hh) (cosine-size latitude))

  pub P-size : nat_abs (P latitude height) ≤ 101000000
  unfolding P
  P-size =
      let n = Z-size s c (sine-size latitude) (cosine-size latitude) circle-of in
      omega (arith, scaled-size (Z s c) (h height) s 100000000 141106 n (h_size height hh) (sine-size latitude))

-- ---- ephemeris time

-- in 200 s the Earth turns by less than a degree
pub turn-size : (ΔT : ℤ) → nat_abs ΔT ≤ 20000 → nat_abs (turn_in ΔT) ≤ 835614
unfolding turn_in
turn-size ΔT h = near-size _ _ 835614 (le_z_yes tt) (omega (arith, nat_abs_product_le ΔT (pos 417807) 20000 417807 h (omega arith)))

turn_nonneg : (ΔT : ℤ) → pos 0 ≤ℤ ΔT → pos 0 ≤ℤ turn_in ΔT
unfolding turn_in
turn_nonneg ΔT h = (near-is _ _ (le_z_yes tt)).above (*ℤ_nonneg h (le_z_yes tt))

-- "each station was turned too far": a ΔT above 0 turns it back, to the west
pub turned_back : (longitude ΔT : ℤ) → pos 0 ≤ℤ ΔT → ephemeris_longitude longitude ΔT ≤ℤ longitude
unfolding ephemeris_longitude
turned_back longitude ΔT h = omega (arith, zs, turn_nonneg ΔT h, (sum longitude (neg_ℤ (turn_in ΔT))).is, (opposite (turn_in ΔT)).is)

pub longitude_size : (longitude ΔT : ℤ) → nat_abs longitude ≤ 180000000 → nat_abs ΔT ≤ 20000 → nat_abs (ephemeris_longitude longitude ΔT) ≤ 180835614
unfolding ephemeris_longitude
longitude_size longitude ΔT hl ht = omega (arith, nat_abs_minus longitude (turn_in ΔT), turn-size ΔT ht)

-- "a ΔT of 0 keeps its cases"
pub longitude_same : (longitude : ℤ) → ephemeris_longitude longitude (pos 0) ≡ longitude
unfolding ephemeris_longitude turn_in near
longitude_same longitude = ring (longitude ∷ []) (v0 ⊕ num 0) v0 tt

pub place_sizes : (s : Station) → StationSizes s → PlaceSizes (place_of s)
unfolding place_of
place_sizes s z =
    record {
      r = R-size s.latitude s.height z.latitude z.height;
      p = P-size s.latitude s.height z.latitude z.height;
      longitude = omega (arith, longitude_size s.longitude s.deltat z.longitude z.deltat);
    }

-- How far the station's point moves, seen along the shadow's axis, when true sines, cosines and the true place are put
-- for the rule's: 18.818 units at most (`moved`), and 24.7 along the axis (`deep`). Why: it is the sum of two moves.
-- The sines and cosines of H are 6.165 off and those of d 5.29, so with the station at most 1.00492 from the Earth's
-- centre the first is 11.384 at most; the place is 5 and 5½ off, so the second is 7.434.
use Rattle.std.specs.Prelude.{◌≡◌, [], ◌∷◌, ℕ, ◌+◌, ◌*◌, ◌≤◌, ℤ, ◌+ℤ◌, ◌-ℤ◌, ◌*ℤ◌, ◌≤ℤ◌}
use Rattle.std.proofs.Math.Path.{ap}
use Rattle.std.proofs.Common.{subst}
use native.Mathlib.Omega.{arith}
use Rattle.std.proofs.Math.IntN.{pos, nat_abs}
use Rattle.rounding.specs.laws.Order.{nat_abs_minus, nat_abs_product}
use Rattle.rounding.specs.laws.Ring.{var, num, ◌⊕◌, ◌⊖◌, ◌⊗◌, ring, v0, v1, v2, v3, v4, v5, v6, v7, v8, v9}
use Rattle.rounding.specs.laws.Cert.{leq, lit, sq, ◌⊞◌, ◌⊠◌, certify}
use Rattle.shadow_geometry.specs.Shadow.{◌²}
use Rattle.shadow_geometry.proofs.Thirteen.{apart_sym}
use Rattle.shadow_geometry.specs.laws.Triangle.{le_of_squares, squares_of_size, triangle}
use Rattle.sky_accuracy.specs.laws.Sizes.{by, plus, less, times, self}
use Rattle.sky_accuracy.specs.laws.Latitude.{down, natural}

-- what is known of the sines and cosines of H and d, of R and P, and of their true values over K and Q
pub record Known (K Q : ℕ) (sH cH sd cd SH CH Sd Cd R P ρ π : ℤ) : Type 0 where
  pub s_h_small : nat_abs sH ≤ 100_000_000
  pub c_h_small : nat_abs cH ≤ 100_000_000
  pub sd_small : nat_abs sd ≤ 50_400_000
  pub cd_small : nat_abs cd ≤ 100_000_000
  pub s_h_close : 1000 * nat_abs (pos K *ℤ sH -ℤ pos 100_000_000 *ℤ SH) ≤ 6165 * K
  pub c_h_close : 1000 * nat_abs (pos K *ℤ cH -ℤ pos 100_000_000 *ℤ CH) ≤ 6165 * K
  pub sd_close : 100 * nat_abs (pos K *ℤ sd -ℤ pos 100_000_000 *ℤ Sd) ≤ 529 * K
  pub cd_close : 100 * nat_abs (pos K *ℤ cd -ℤ pos 100_000_000 *ℤ Cd) ≤ 529 * K
  pub H_circle : (sH *ℤ sH +ℤ cH *ℤ cH) ≤ℤ pos 10_000_000_800_000_000
  pub d_circle : (sd *ℤ sd +ℤ cd *ℤ cd) ≤ℤ pos 10_000_000_800_000_000
  pub R_close : nat_abs (pos Q *ℤ R -ℤ ρ) ≤ 5 * Q
  pub P_close : 2 * nat_abs (pos Q *ℤ P -ℤ π) ≤ 11 * Q
  pub place_size : (pos (nat_abs ρ) *ℤ pos (nat_abs ρ) +ℤ pos (nat_abs π) *ℤ pos (nat_abs π)) ≤ℤ (pos 10_098_643_000_000_000 *ℤ (pos Q *ℤ pos Q))

-- the moves across the axis, over 10^16·Q·K²: to the east and to the north, as the true values less the exact ones;
-- and along it
unfoldable pub east : (K Q : ℕ) (sH SH R ρ : ℤ) → ℤ
east K Q sH SH R ρ = pos 100_000_000 *ℤ pos K *ℤ (ρ *ℤ SH *ℤ pos 100_000_000 -ℤ R *ℤ sH *ℤ (pos Q *ℤ pos K))

unfoldable pub north : (K Q : ℕ) (cH sd cd CH Sd Cd R P ρ π : ℤ) → ℤ
north K Q cH sd cd CH Sd Cd R P ρ π =
    pos 10_000_000_000_000_000 *ℤ (π *ℤ Cd *ℤ pos K -ℤ ρ *ℤ CH *ℤ Sd) -ℤ (P *ℤ cd *ℤ pos 100_000_000 -ℤ R *ℤ cH *ℤ sd) *ℤ (pos Q *ℤ pos K *ℤ pos K)

unfoldable pub along : (K Q : ℕ) (cH sd cd CH Sd Cd R P ρ π : ℤ) → ℤ
along K Q cH sd cd CH Sd Cd R P ρ π =
    pos 10_000_000_000_000_000 *ℤ (π *ℤ Sd *ℤ pos K +ℤ ρ *ℤ CH *ℤ Cd) -ℤ (P *ℤ sd *ℤ pos 100_000_000 +ℤ R *ℤ cH *ℤ cd) *ℤ (pos Q *ℤ pos K *ℤ pos K)

module _ {K Q : ℕ} {sH cH sd cd SH CH Sd Cd R P ρ π : ℤ} (x : Known K Q sH cH sd cd SH CH Sd Cd R P ρ π) where
  -- what a sine is off, and what the place is off
  off : ℤ → ℤ → ℤ
  off s S = pos 100_000_000 *ℤ S -ℤ pos K *ℤ s

  off-size : (k e : ℕ) (s S : ℤ) → k * nat_abs (pos K *ℤ s -ℤ pos 100_000_000 *ℤ S) ≤ e * K → k * nat_abs (off s S) ≤ e * K
  unfolding off
  off-size k e s S h = rw (apart_sym (pos 100_000_000 *ℤ S) (pos K *ℤ s)) h

  r-off : ℤ
  r-off = ρ -ℤ pos Q *ℤ R

  p-off : ℤ
  p-off = π -ℤ pos Q *ℤ P

  r-size : nat_abs r-off ≤ 5 * Q
  unfolding r-off
  r-size = rw (apart_sym ρ (pos Q *ℤ R)) x.R_close

  p-size : nat_abs (pos 2 *ℤ p-off) ≤ 11 * Q
  unfolding p-off
  p-size = times 2 (π -ℤ pos Q *ℤ P) (rw (apart_sym π (pos Q *ℤ P)) x.P_close)

  A : ℕ
  A = nat_abs ρ

  B : ℕ
  B = nat_abs π

  -- 10^8·K²
  G : ℕ
  G = 100_000_000 * (K * K)

  -- thousandths of what a sine of H, or of d, is off
  H-off : (s S : ℤ) → 1000 * nat_abs (pos K *ℤ s -ℤ pos 100_000_000 *ℤ S) ≤ 6165 * K → nat_abs (pos 1000 *ℤ off s S) ≤ 6165 * K
  H-off s S h = times 1000 (off s S) (off-size 1000 6165 s S h)

  d-off : (s S : ℤ) → 100 * nat_abs (pos K *ℤ s -ℤ pos 100_000_000 *ℤ S) ≤ 529 * K → nat_abs (pos 1000 *ℤ off s S) ≤ 5290 * K
  d-off s S h = times 1000 (off s S) (omega (arith, off-size 100 529 s S h))

  -- 10^8 times a true sine or cosine of d
  true_size : (m : ℕ) (s S : ℤ) → nat_abs s ≤ m → 100 * nat_abs (pos K *ℤ s -ℤ pos 100_000_000 *ℤ S) ≤ 529 * K → nat_abs (pos 100_000_000 *ℤ S) ≤ (m + 6) * K
  true_size m s S h k =
      omega (
        arith,
        ap nat_abs (ring ((pos 100_000_000 *ℤ S) ∷ (pos K *ℤ s) ∷ []) v0 (v1 ⊖ (v1 ⊖ v0)) tt),
        nat_abs_minus (pos K *ℤ s) (pos K *ℤ s -ℤ pos 100_000_000 *ℤ S),
        by (pos K) s (self (pos K)) h,
      )

  -- ---- the first move: sines and cosines
  east-1 : ℤ
  east-1 = pos 100_000_000 *ℤ pos K *ℤ ρ *ℤ (pos 1000 *ℤ off sH SH)

  east-1-size : nat_abs east-1 ≤ 6165 * (G * A)
  unfolding east-1 G A
  east-1-size = omega (
    arith,
    by (pos 100_000_000 *ℤ pos K *ℤ ρ) (pos 1000 *ℤ off sH SH) (by (pos (100_000_000 * K)) ρ (self (pos (100_000_000 * K))) (self ρ))
        (H-off sH SH x.s_h_close),
  )

  north-1 : ℤ
  north-1 =
      pos 100_000_000 *ℤ pos K *ℤ π *ℤ (pos 1000 *ℤ off cd Cd)
      -ℤ ρ *ℤ (pos 100_000_000 *ℤ Sd *ℤ (pos 1000 *ℤ off cH CH) +ℤ pos K *ℤ cH *ℤ (pos 1000 *ℤ off sd Sd))

  north-1-size : nat_abs north-1 ≤ G * (5290 * B + 8398 * A)
  unfolding north-1 G A B
  north-1-size =
      let f = pos 100_000_000 *ℤ pos K *ℤ π *ℤ (pos 1000 *ℤ off cd Cd) in
      let g = pos 100_000_000 *ℤ Sd *ℤ (pos 1000 *ℤ off cH CH) in
      let h = pos K *ℤ cH *ℤ (pos 1000 *ℤ off sd Sd) in
      omega (
        arith,
        less f (ρ *ℤ (g +ℤ h))
            (by (pos 100_000_000 *ℤ pos K *ℤ π) (pos 1000 *ℤ off cd Cd) (by (pos (100_000_000 * K)) π (self (pos (100_000_000 * K))) (self π)) (d-off cd Cd x.cd_close))
            (by ρ (g +ℤ h) (self ρ) (plus g h
            (by (pos 100_000_000 *ℤ Sd) (pos 1000 *ℤ off cH CH) (true_size 50_400_000 sd Sd x.sd_small x.sd_close) (H-off cH CH x.c_h_close))
            (by (pos K *ℤ cH) (pos 1000 *ℤ off sd Sd) (by (pos K) cH (self (pos K)) x.c_h_small) (d-off sd Sd x.sd_close)))),
      )

  sizes : (pos A *ℤ pos A +ℤ pos B *ℤ pos B) ≤ℤ (pos 10_098_643_000_000_000 *ℤ (pos Q *ℤ pos Q))
  unfolding A B
  sizes = x.place_size

  -- (6165 A)² + (5290 B + 8398 A)² ≤ 128,300,000 (A² + B²)
  first : (east-1 ² +ℤ north-1 ²) ≤ℤ ((pos 1_138_400_000_000 *ℤ (pos Q *ℤ pos G)) ²)
  first =
      certify 19_766_370 (east-1 ∷ north-1 ∷ pos G ∷ pos A ∷ pos B ∷ pos Q ∷ [])
      (v0 ⊗ v0 ⊕ v1 ⊗ v1) (num 1_138_400_000_000 ⊗ (v5 ⊗ v2) ⊗ (num 1_138_400_000_000 ⊗ (v5 ⊗ v2)))
      (lit 19_766_371 ⊠ leq (v0 ⊗ v0) (num 6165 ⊗ (v2 ⊗ v3) ⊗ (num 6165 ⊗ (v2 ⊗ v3))) (squares_of_size east-1 (6165 * (G * A)) east-1-size)
      ⊞ lit 19_766_371 ⊠ leq (v1 ⊗ v1) (v2 ⊗ (num 5290 ⊗ v4 ⊕ num 8398 ⊗ v3) ⊗ (v2 ⊗ (num 5290 ⊗ v4 ⊕ num 8398 ⊗ v3)))
      (squares_of_size north-1 (G * (5290 * B + 8398 * A)) north-1-size)
      ⊞ sq v2 ⊠ (sq (num 19_766_371 ⊗ v3 ⊖ num 44_425_420 ⊗ v4) ⊞ lit 9_263_354_422_500 ⊠ sq v4)
      ⊞ lit 2_536_025_399_300_000 ⊠ sq v2 ⊠ leq (v3 ⊗ v3 ⊕ v4 ⊗ v4) (num 10_098_643_000_000_000 ⊗ (v5 ⊗ v5)) sizes
      ⊞ lit 5_903_485_638_610_100_000_000_000_000 ⊠ sq v2 ⊠ sq v5) tt

  -- ---- the second move: the place. (10^8 cd p - cH sd r)² is (cd² + sd²)(10^16 p² + cH² r²) less a square
  east-2 : ℤ
  east-2 = pos 100_000_000 *ℤ (pos K *ℤ pos K) *ℤ (sH *ℤ r-off)

  north-2 : ℤ
  north-2 = pos K *ℤ pos K *ℤ (pos 100_000_000 *ℤ (cd *ℤ p-off) -ℤ cH *ℤ sd *ℤ r-off)

  second : ((pos 1000 *ℤ east-2) ² +ℤ (pos 1000 *ℤ north-2) ²) ≤ℤ ((pos 743_400_000_000 *ℤ (pos Q *ℤ pos G)) ²)
  unfolding east-2 north-2 G
  second =
      let e = num 1000 ⊗ (num 100_000_000 ⊗ (v0 ⊗ v0) ⊗ (v2 ⊗ v6)) in
      let f = num 1000 ⊗ (v0 ⊗ v0 ⊗ (num 100_000_000 ⊗ (v5 ⊗ v7) ⊖ v3 ⊗ v4 ⊗ v6)) in
      let g = num 743_400_000_000 ⊗ (v1 ⊗ (num 100_000_000 ⊗ (v0 ⊗ v0))) in
      let d = leq (v4 ⊗ v4 ⊕ v5 ⊗ v5) (num 10_000_000_800_000_000) x.d_circle in
      certify 3 (pos K ∷ pos Q ∷ sH ∷ cH ∷ sd ∷ cd ∷ r-off ∷ p-off ∷ []) (e ⊗ e ⊕ f ⊗ f) (g ⊗ g)
      (lit 4_000_000 ⊠ sq (v0 ⊗ v0) ⊠ (sq (num 100_000_000 ⊗ v4 ⊗ v7 ⊕ v5 ⊗ v3 ⊗ v6)
      ⊞ d ⊠ (lit 10_000_000_000_000_000 ⊠ sq v7 ⊞ sq v3 ⊠ sq v6)
      ⊞ lit 800_000_000 ⊠ sq v2 ⊠ sq v6
      ⊞ lit 10_000_000_800_000_000 ⊠ sq v6 ⊠ leq (v2 ⊗ v2 ⊕ v3 ⊗ v3) (num 10_000_000_800_000_000) x.H_circle
      ⊞ lit 100_000_016_000_000_640_000_000_000_000_000 ⊠ leq (v6 ⊗ v6) (num 5 ⊗ v1 ⊗ (num 5 ⊗ v1)) (squares_of_size r-off (5 * Q) r-size))
      ⊞ lit 100_000_008_000_000_000_000_000_000_000_000_000_000 ⊠ sq (v0 ⊗ v0) ⊠ leq (num 2 ⊗ v7 ⊗ (num 2 ⊗ v7)) (num 11 ⊗ v1 ⊗ (num 11 ⊗ v1))
      (squares_of_size (pos 2 *ℤ p-off) (11 * Q) p-size)
      ⊞ lit 5_739_831_999_936_000_000_000_000_000_000_000_000 ⊠ sq (v0 ⊗ v0) ⊠ sq v1) tt

  -- ---- both
  east-is : pos 1000 *ℤ east K Q sH SH R ρ ≡ east-1 +ℤ pos 1000 *ℤ east-2
  unfolding east east-1 east-2 off r-off
  east-is =
      ring (pos K ∷ pos Q ∷ sH ∷ SH ∷ R ∷ ρ ∷ [])
      (num 1000 ⊗ (num 100_000_000 ⊗ v0 ⊗ (v5 ⊗ v3 ⊗ num 100_000_000 ⊖ v4 ⊗ v2 ⊗ (v1 ⊗ v0))))
      (num 100_000_000 ⊗ v0 ⊗ v5 ⊗ (num 1000 ⊗ (num 100_000_000 ⊗ v3 ⊖ v0 ⊗ v2))
      ⊕ num 1000 ⊗ (num 100_000_000 ⊗ (v0 ⊗ v0) ⊗ (v2 ⊗ (v5 ⊖ v1 ⊗ v4)))) tt

  north-is : pos 1000 *ℤ north K Q cH sd cd CH Sd Cd R P ρ π ≡ north-1 +ℤ pos 1000 *ℤ north-2
  unfolding north north-1 north-2 off r-off p-off
  north-is =
      ring (pos K ∷ pos Q ∷ cH ∷ sd ∷ cd ∷ CH ∷ Sd ∷ Cd ∷ R ∷ P ∷ ρ ∷ π ∷ [])
      (num 1000 ⊗ (num 10_000_000_000_000_000 ⊗ (var 11 ⊗ v7 ⊗ v0 ⊖ var 10 ⊗ v5 ⊗ v6) ⊖ (v9 ⊗ v4 ⊗ num 100_000_000 ⊖ v8 ⊗ v2 ⊗ v3) ⊗ (v1 ⊗ v0 ⊗ v0)))
      (num 100_000_000 ⊗ v0 ⊗ var 11 ⊗ (num 1000 ⊗ (num 100_000_000 ⊗ v7 ⊖ v0 ⊗ v4))
      ⊖ var 10 ⊗ (num 100_000_000 ⊗ v6 ⊗ (num 1000 ⊗ (num 100_000_000 ⊗ v5 ⊖ v0 ⊗ v2)) ⊕ v0 ⊗ v2 ⊗ (num 1000 ⊗ (num 100_000_000 ⊗ v6 ⊖ v0 ⊗ v3)))
      ⊕ num 1000 ⊗ (v0 ⊗ v0 ⊗ (num 100_000_000 ⊗ (v4 ⊗ (var 11 ⊖ v1 ⊗ v9)) ⊖ v2 ⊗ v3 ⊗ (var 10 ⊖ v1 ⊗ v8)))) tt

  less-first : (a b : ℤ) → a +ℤ b -ℤ a ≡ b
  less-first a b = ring (a ∷ b ∷ []) (v0 ⊕ v1 ⊖ v0) v1 tt

  pub moved : ((pos 1000 *ℤ east K Q sH SH R ρ) ² +ℤ (pos 1000 *ℤ north K Q cH sd cd CH Sd Cd R P ρ π) ²) ≤ℤ ((pos 1_881_800_000_000 *ℤ (pos Q *ℤ pos (100_000_000 * (K * K)))) ²)
  unfolding G
  moved =
      let e = pos 1000 *ℤ east-2 in
      let f = pos 1000 *ℤ north-2 in
      rw (east-is, north-is)
      (subst (λ (y : ℤ). ((east-1 +ℤ e) ² +ℤ (north-1 +ℤ f) ²) ≤ℤ (y ²))
      (ring ((pos Q *ℤ pos G) ∷ []) (num 1_138_400_000_000 ⊗ v0 ⊕ num 743_400_000_000 ⊗ v0) (num 1_881_800_000_000 ⊗ v0) tt)
      (triangle east-1 north-1 (east-1 +ℤ e) (north-1 +ℤ f) (pos 1_138_400_000_000 *ℤ (pos Q *ℤ pos G)) (pos 743_400_000_000 *ℤ (pos Q *ℤ pos G))
      (natural (1_138_400_000_000 * (Q * G))) (natural (743_400_000_000 * (Q * G))) first
      (rw (less-first east-1 e, less-first north-1 f) second)))

  -- ---- along the axis
  A-most : A ≤ 100_500_000 * Q
  A-most =
      down (le_of_squares (pos A) (pos (100_500_000 * Q)) (natural (100_500_000 * Q))
      (certify 0 (pos A ∷ pos B ∷ pos Q ∷ []) (v0 ⊗ v0) (num 100_500_000 ⊗ v2 ⊗ (num 100_500_000 ⊗ v2))
      (leq (v0 ⊗ v0 ⊕ v1 ⊗ v1) (num 10_098_643_000_000_000 ⊗ (v2 ⊗ v2)) sizes ⊞ sq v1 ⊞ lit 1_607_000_000_000 ⊠ sq v2) tt))

  B-most : B ≤ 100_500_000 * Q
  B-most =
      down (le_of_squares (pos B) (pos (100_500_000 * Q)) (natural (100_500_000 * Q))
      (certify 0 (pos A ∷ pos B ∷ pos Q ∷ []) (v1 ⊗ v1) (num 100_500_000 ⊗ v2 ⊗ (num 100_500_000 ⊗ v2))
      (leq (v0 ⊗ v0 ⊕ v1 ⊗ v1) (num 10_098_643_000_000_000 ⊗ (v2 ⊗ v2)) sizes ⊞ sq v0 ⊞ lit 1_607_000_000_000 ⊠ sq v2) tt))

  pub deep : 1000 * nat_abs (along K Q cH sd cd CH Sd Cd R P ρ π) ≤ 247_000_000_000_000_000_000 * (Q * (K * K))
  unfolding along off r-off p-off A B
  deep =
      let f = pos 100_000_000 *ℤ pos K *ℤ π *ℤ (pos 1000 *ℤ off sd Sd) in
      let g = pos 100_000_000 *ℤ Cd *ℤ (pos 1000 *ℤ off cH CH) in
      let h = pos K *ℤ cH *ℤ (pos 1000 *ℤ off cd Cd) in
      let k = pos (K * K) *ℤ (pos 50_000_000_000 *ℤ sd *ℤ (pos 2 *ℤ p-off)) in
      let l = pos (K * K) *ℤ (pos 1000 *ℤ (cH *ℤ cd) *ℤ r-off) in
      let e : pos 1000 *ℤ along K Q cH sd cd CH Sd Cd R P ρ π ≡ f +ℤ ρ *ℤ (g +ℤ h) +ℤ k +ℤ l = ring (pos K ∷ pos Q ∷ cH ∷ sd ∷ cd ∷ CH ∷ Sd ∷ Cd ∷ R ∷ P ∷ ρ ∷ π ∷ [])
      (num 1000 ⊗ (num 10_000_000_000_000_000 ⊗ (var 11 ⊗ v6 ⊗ v0 ⊕ var 10 ⊗ v5 ⊗ v7) ⊖ (v9 ⊗ v3 ⊗ num 100_000_000 ⊕ v8 ⊗ v2 ⊗ v4) ⊗ (v1 ⊗ v0 ⊗ v0)))
      (num 100_000_000 ⊗ v0 ⊗ var 11 ⊗ (num 1000 ⊗ (num 100_000_000 ⊗ v6 ⊖ v0 ⊗ v3))
      ⊕ var 10 ⊗ (num 100_000_000 ⊗ v7 ⊗ (num 1000 ⊗ (num 100_000_000 ⊗ v5 ⊖ v0 ⊗ v2)) ⊕ v0 ⊗ v2 ⊗ (num 1000 ⊗ (num 100_000_000 ⊗ v7 ⊖ v0 ⊗ v4)))
      ⊕ v0 ⊗ v0 ⊗ (num 50_000_000_000 ⊗ v3 ⊗ (num 2 ⊗ (var 11 ⊖ v1 ⊗ v9)))
      ⊕ v0 ⊗ v0 ⊗ (num 1000 ⊗ (v2 ⊗ v4) ⊗ (var 10 ⊖ v1 ⊗ v8))) tt in
      let hf : nat_abs f ≤ 100_000_000 * K * (100_500_000 * Q) * (5290 * K) =
      by (pos 100_000_000 *ℤ pos K *ℤ π) (pos 1000 *ℤ off sd Sd) (by (pos (100_000_000 * K)) π (self (pos (100_000_000 * K))) B-most) (d-off sd Sd x.sd_close) in
      let hg : nat_abs (ρ *ℤ (g +ℤ h)) ≤ 100_500_000 * Q * (100_000_006 * K * (6165 * K) + K * 100_000_000 * (5290 * K)) =
      by ρ (g +ℤ h) A-most (plus g h
      (by (pos 100_000_000 *ℤ Cd) (pos 1000 *ℤ off cH CH) (true_size 100_000_000 cd Cd x.cd_small x.cd_close) (H-off cH CH x.c_h_close))
      (by (pos K *ℤ cH) (pos 1000 *ℤ off cd Cd) (by (pos K) cH (self (pos K)) x.c_h_small) (d-off cd Cd x.cd_close))) in
      let hk : nat_abs k ≤ K * K * (50_000_000_000 * 50_400_000 * (11 * Q)) =
      by (pos (K * K)) (pos 50_000_000_000 *ℤ sd *ℤ (pos 2 *ℤ p-off)) (self (pos (K * K)))
      (by (pos 50_000_000_000 *ℤ sd) (pos 2 *ℤ p-off) (by (pos 50_000_000_000) sd (self (pos 50_000_000_000)) x.sd_small) p-size) in
      let hl : nat_abs l ≤ K * K * (1000 * (100_000_000 * 100_000_000) * (5 * Q)) =
      by (pos (K * K)) (pos 1000 *ℤ (cH *ℤ cd) *ℤ r-off) (self (pos (K * K)))
      (by (pos 1000 *ℤ (cH *ℤ cd)) r-off (by (pos 1000) (cH *ℤ cd) (self (pos 1000)) (by cH cd x.c_h_small x.cd_small)) r-size) in
      omega (
        arith,
        ap nat_abs e,
        nat_abs_product (pos 1000) (along K Q cH sd cd CH Sd Cd R P ρ π),
        plus (f +ℤ ρ *ℤ (g +ℤ h) +ℤ k) l (plus (f +ℤ ρ *ℤ (g +ℤ h)) k (plus f (ρ *ℤ (g +ℤ h)) hf hg) hk) hl,
      )

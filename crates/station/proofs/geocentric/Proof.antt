-- `station::geocentric` meets its contract: each call gives its letter of document 01, and PlaceLaws gives the sizes.
use mathlib.Core.Path.{◌≡◌, ap, ◌∙◌}
use mathlib.Core.List.{[], ◌∷◌}
use Prim.Native.Nat.{◌+◌, ◌*◌, ◌≤◌}
use native.Mathlib.Omega.{arith}
use lib.Dec.{lit≤}
use lib.IntN.{ℤ, pos, nat_abs, ◌+ℤ◌, ◌*ℤ◌}
use lib.Signed.{le_z_yes}
use mir.Syntax.{w64}
use mir.Val.{to_z, of_z}
use Rattle.rounding.specs.laws.Code.{Code, arg, lit, add, mul, Within, whole, ends, ◌▹◌, fits, runs, within, read_back, read-size}
use Rattle.rounding.specs.Units.{one}
use Rattle.rounding.specs.Near.{near}
use Rattle.rounding.specs.Value.{Value}
use Rattle.sine.specs.Sine.{sine, cosine, IsReduced}
use Rattle.sine.specs.laws.SineLaws.{sine_of, cosine_of}
use Rattle.sine.specs.laws.SizeLaws.{square-sum}
use Rattle.station.specs.Place.{equatorial_radius, E, C, Z, h, R, P, ephemeris_longitude, place_of}
use Rattle.station.proofs.laws.PlaceLaws.{Z-size, h_size, scaled-size}
use Rattle.station.proofs.geocentric.Statement.{statement}
use Rattle.station.proofs.geocentric.Tie as tie

-- ---- where it starts, seen from each call
abbrev start : tie.After-reduced-angle → tie.Start
start c = c.before.before.before.before.before.before

abbrev at-sine : tie.After-c_of-c → tie.After-sine-sine
at-sine c = c.before.before

-- ---- what each call gave
angle-is : (c : tie.After-reduced-angle) → IsReduced (start c).args.s.latitude c.reduced-angle.result
angle-is c = rw (read_back (start c).args.s.latitude (start c).requires.1.latitude tt) at c.reduced-angle.ensures

angle-small : (c : tie.After-reduced-angle) → c.reduced-angle.result ≤ 360000000
angle-small c = omega (arith, (angle-is c).below)

sine-is : (c : tie.After-sine-sine) → c.sine-sine.result ≡ sine (start c.before).args.s.latitude
sine-is c = sine_of (angle-is c.before) c.sine-sine.ensures

cosine-is : (c : tie.After-cosine-cosine) → c.cosine-cosine.result ≡ cosine (start c.before.before).args.s.latitude
cosine-is c = cosine_of (angle-is c.before.before) c.cosine-cosine.ensures

circle : (c : tie.After-cosine-cosine)
    → 9960000000000000 ≤ nat_abs c.sine-sine.result * nat_abs c.sine-sine.result + nat_abs c.cosine-cosine.result * nat_abs c.cosine-cosine.result
circle c =
    let b = start c.before.before in
    rw (sine-is c.before, cosine-is c) (omega (arith, square-sum b.args.s.latitude b.requires.1.latitude))

-- C of the sine and the cosine
C-is : (c : tie.After-c_of-c) → Value (C (at-sine c).sine-sine.result c.cosine-cosine.result) 100600000 c.c_of-c.result
C-is c =
    let s = (at-sine c).sine-sine in
    let k = c.cosine-cosine in
    rw (read_back s.result s.ensures.small tt, read_back k.result k.ensures.small tt) at c.c_of-c.ensures

after-C : (c : tie.After-c_of-c) → Within (whole c.c_of-c.result ∷ []) (100600000 ∷ [])
after-C c = (C-is c).size ▹ ends

abbrev CE : Code
CE = mul (arg 0) (lit (pos 99330658))

Z-is : (c : tie.After-near_unit-z) → c.near_unit-z.result ≡ Z (at-sine c.before).sine-sine.result c.cosine-cosine.result
unfolding Z
Z-is c =
    c.near_unit-z.ensures ∙ ap (λ (z : ℤ). near z one) (runs (after-C c.before) CE tt) ∙ ap (λ (z : ℤ). near (z *ℤ E) one) (C-is c.before).value

Z-small : (c : tie.After-near_unit-z) → nat_abs c.near_unit-z.result ≤ 100000000
Z-small c =
    let s = (at-sine c.before).sine-sine in
    let k = c.cosine-cosine in
    omega (arith, ap nat_abs (Z-is c), Z-size s.result k.result s.ensures.small k.ensures.small (circle c.before.before))

-- the station, where Z has been found
abbrev station : tie.After-near_unit-z → tie.Start
station c = start (at-sine c.before).before

height : (c : tie.After-near_unit-z) → Within (whole (station c).args.s.height ∷ []) (9000 ∷ [])
height c = (station c).requires.1.height ▹ ends

abbrev scaled-up : Code
scaled-up = mul (arg 0) (lit (pos 100000000))

h-is : (c : tie.After-near-h) → c.near-h.result ≡ h (station c.before).args.s.height
unfolding h
h-is c = c.near-h.ensures ∙ ap (λ (z : ℤ). near z equatorial_radius) (runs (height c.before) scaled-up tt)

h-small : (c : tie.After-near-h) → nat_abs c.near-h.result ≤ 141106
h-small c =
    let b = station c.before in
    omega (arith, ap nat_abs (h-is c), h_size b.args.s.height b.requires.1.height)

-- along the equator: C + h, times the cosine; along the axis: Z + h, times the sine
abbrev scaled : Code
scaled = mul (add (arg 0) (arg 1)) (arg 2)

equator : (c : tie.After-near-h)
    → Within (whole c.c_of-c.result ∷ whole c.near-h.result ∷ whole c.cosine-cosine.result ∷ [])
    (100600000 ∷ 141106 ∷ 100000000 ∷ [])
equator c = (C-is c.before.before).size ▹ h-small c ▹ c.cosine-cosine.ensures.small ▹ ends

axis : (c : tie.After-near_unit-r)
    → Within (whole c.near_unit-z.result ∷ whole c.near-h.result ∷ whole (at-sine c.before.before.before).sine-sine.result ∷ [])
    (100000000 ∷ 141106 ∷ 100000000 ∷ [])
axis c = Z-small c.before.before ▹ h-small c.before ▹ (at-sine c.before.before.before).sine-sine.ensures.small ▹ ends

R-is : (c : tie.After-near_unit-r)
    → c.near_unit-r.result ≡ near
    ((c.c_of-c.result +ℤ c.near-h.result) *ℤ c.cosine-cosine.result) one
R-is c = c.near_unit-r.ensures ∙ ap (λ (z : ℤ). near z one) (runs (equator c.before) scaled tt)

R-small : (c : tie.After-near_unit-r) → nat_abs c.near_unit-r.result ≤ 101000000
R-small c =
    let b = c.before.before.before in
    let k = b.cosine-cosine in
    omega (
      arith,
      ap nat_abs (R-is c),
      scaled-size b.c_of-c.result c.near-h.result k.result 100600000 141106 (C-is b).size (h-small c.before) k.ensures.small,
    )

P-is : (c : tie.After-near_unit-p)
    → c.near_unit-p.result
    ≡ near ((c.near_unit-z.result +ℤ c.near-h.result) *ℤ (at-sine c.before.before.before.before).sine-sine.result) one
P-is c = c.near_unit-p.ensures ∙ ap (λ (z : ℤ). near z one) (runs (axis c.before) scaled tt)

P-small : (c : tie.After-near_unit-p) → nat_abs c.near_unit-p.result ≤ 101000000
P-small c =
    let b = c.before.before.before in
    let s = (at-sine b.before).sine-sine in
    omega (
      arith,
      ap nat_abs (P-is c),
      scaled-size b.near_unit-z.result c.near-h.result s.result 100000000 141106 (Z-small b) (h-small c.before.before)
          s.ensures.small,
    )

-- ---- the needs
reduced-requires : tie.Need-reduced-angle-requires
reduced-requires c κs =
    let b = c.before.before.before.before.before in
    read-size b.args.s.latitude 10000000000 b.requires.1.latitude tt

cosine-requires : tie.Need-cosine-cosine-requires
cosine-requires c κs = ((start c.before).requires.0, angle-small c.before)

c-of-requires : tie.Need-c_of-c-requires
c-of-requires c κs =
    let s = c.sine-sine in
    let k = c.cosine-cosine in
    rw (read_back s.result s.ensures.small tt, read_back k.result k.ensures.small tt) (s.ensures.small, k.ensures.small, circle c)

near-requires : tie.Need-near-h-requires
near-requires c κs = (within (height c) scaled-up 4000000000000000000 tt, lit≤ tt, le_z_yes tt)

near-unit-requires-2 : tie.Need-near_unit-r-requires
near-unit-requires-2 c κs = within (equator c) scaled 1000000000000000000 tt

near-unit-requires-3 : tie.Need-near_unit-p-requires
near-unit-requires-3 c κs = within (axis c) scaled 1000000000000000000 tt

-- ---- the fields: R and P from their letters, each read back
module _ (latitude height : ℤ) {n g s k : ℤ} (s-is : s ≡ sine latitude) (k-is : k ≡ cosine latitude) (g-is : g ≡ h height) where
  R-of : n ≡ C s k → near ((n +ℤ g) *ℤ k) one ≡ R latitude height
  unfolding R
  R-of e = rw (e, g-is, s-is, k-is)

  P-of : n ≡ Z s k → near ((n +ℤ g) *ℤ s) one ≡ P latitude height
  unfolding P
  P-of e = rw (e, g-is, s-is, k-is)

module _ (c : tie.After-near_unit-p) where
  abbrev first : tie.Start
  first = station c.before.before.before

  r_back : to_z w64 (of_z w64 c.near_unit-r.result) ≡ R first.args.s.latitude first.args.s.height
  r_back =
      let b = c.before.before.before.before in
      read_back c.near_unit-r.result (R-small c.before) tt ∙ R-is c.before
      ∙ R-of first.args.s.latitude first.args.s.height (sine-is (at-sine b)) (cosine-is b.before) (h-is c.before.before) (C-is b).value

  p_back : to_z w64 (of_z w64 c.near_unit-p.result) ≡ P first.args.s.latitude first.args.s.height
  p_back =
      let b = c.before.before.before.before in
      read_back c.near_unit-p.result (P-small c) tt ∙ P-is c
      ∙ P-of first.args.s.latitude first.args.s.height (sine-is (at-sine b)) (cosine-is b.before) (h-is c.before.before)
      (Z-is c.before.before.before)

ephemeris-longitude-requires : tie.Need-ephemeris_longitude-longitude-requires
ephemeris-longitude-requires c κs =
    let s = first c in
    (read-size s.args.s.longitude 180000000 s.requires.1.longitude tt, read-size s.args.s.deltat 20000 s.requires.1.deltat tt)

longitude-is : (c : tie.After-ephemeris_longitude-longitude)
    → Value (ephemeris_longitude (first c.before).args.s.longitude (first c.before).args.s.deltat) 180835614 c.ephemeris_longitude-longitude.result
longitude-is c =
    let s = first c.before in
    rw (read_back s.args.s.longitude s.requires.1.longitude tt, read_back s.args.s.deltat s.requires.1.deltat tt) at c.ephemeris_longitude-longitude.ensures

returns : tie.Need-returns
unfolding place_of
returns c =
    let l = longitude-is c in
    rw (r_back c.before, p_back c.before, read_back c.ephemeris_longitude-longitude.result l.size tt, l.value)

pub geocentric_spec : {M : Type 1} → statement M
geocentric_spec =
    tie.close
    (tie.spec reduced-requires (λ c κs. ((start c).requires.0, angle-small c)) cosine-requires c-of-requires
    (λ c. fits (after-C c) CE tt) (λ c κs. within (after-C c) CE 1000000000000000000 tt)
    (λ c. fits (height c) scaled-up tt) near-requires (λ c. fits (equator c) (add (arg 0) (arg 1)) tt)
    (λ c. fits (equator c) scaled tt) near-unit-requires-2 (λ c. fits (axis c) (add (arg 0) (arg 1)) tt)
    (λ c. fits (axis c) scaled tt) near-unit-requires-3 ephemeris-longitude-requires returns)

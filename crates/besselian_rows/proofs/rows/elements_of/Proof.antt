-- `besselian_rows::rows::elements_of` meets its contract: the parts give the values, and `faithful` that they lie
-- close to the exact ones.
use mathlib.Core.Path.{◌≡◌, sym, ap, ap₂, subst, ◌∙◌}
use Prim.Native.Nat.{ℕ}
use native.Mathlib.Omega.{arith}
use mathlib.Core.List.{[], ◌∷◌}
use lib.IntN.{ℤ, ◌+ℤ◌, ◌-ℤ◌}
use Rattle.rounding.specs.laws.Code.{arg, add, sub, Within, whole, ends, ◌▹◌, fits, runs}
use Rattle.besselian_rows.specs.declared.besselian.Row.{Row}
use Rattle.besselian_rows.specs.declared.besselian.Besselian.{Besselian}
use Rattle.besselian_rows.specs.declared.besselian.Radii.{Radii}
use Rattle.besselian_rows.specs.Exact.{S1, S2, RadiiInRange, Faithful}
use Rattle.besselian_rows.specs.Rounded.{tan-f, l1, l2, elements_of}
use Rattle.besselian_rows.specs.AcceptedLaws.{Accepted, accepted-is}
use Rattle.besselian_rows.specs.laws.Sizes
use Rattle.besselian_rows.specs.laws.Sizes.{IsRadii, penumbra, central}
use Rattle.besselian_rows.specs.laws.Errors.{faithful}
use Rattle.besselian_rows.specs.laws.ReadLaws.{back}
use Rattle.besselian_rows.proofs.rows.elements_of.Statement.{statement}
use Rattle.besselian_rows.proofs.rows.elements_of.Tie as tie

accepts : (c : tie.Start) → Accepted c.args.p
accepts c = accepted-is c.args.p c.requires.0

-- the squares of the sum and of the difference in millions
module _ (c : tie.After-in_millions-square2) where
  abbrev start : tie.Start
  start = c.before.before.before.before

  abbrev k : Radii
  k = start.args.k

  penumbra-is : IsRadii (S1 k) c.in_millions-square1.result k.penumbra
  penumbra-is = subst (λ (n : ℕ). IsRadii (S1 k) n k.penumbra) (sym c.in_millions-square1.ensures) (penumbra k start.requires.1)

  central-is : IsRadii (S2 k) c.in_millions-square2.result k.central
  central-is = subst (λ (n : ℕ). IsRadii (S2 k) n k.central) (sym c.in_millions-square2.ensures) (central k start.requires.1)

find-plane-requires : tie.Need-find_plane-f-requires
find-plane-requires c κs = (accepts (start c.before.before), c.find_directions-d.ensures)

find-cone-requires : tie.Need-find_cone-penumbra-requires
find-cone-requires c κs =
    let squares = c.before.before.before.before in
    let s = start squares in (
      accepts s,
      record {
        whole = c.find_axis-a.ensures.whole;
        length = c.find_directions-d.ensures.n;
        z = back c.find_plane-f.ensures.z (Sizes.z-size s.args.p (accepts s)) tt;
      },
      penumbra-is squares,
    )

find-cone-requires-2 : tie.Need-find_cone-central-requires
find-cone-requires-2 c κs =
    let squares = c.before.before.before.before.before.before in
    let s = start squares in (
      accepts s,
      record {
        whole = c.find_axis-a.ensures.whole;
        length = c.find_directions-d.ensures.n;
        z = back c.find_plane-f.ensures.z (Sizes.z-size s.args.p (accepts s)) tt;
      },
      central-is squares,
    )

-- the two terms of l
first : (c : tie.After-find_cone-penumbra) → Within (whole c.find_cone-penumbra.result.slope ∷ whole c.find_cone-penumbra.result.foot ∷ []) (117000000 ∷ 54600000 ∷ [])
first c = c.find_cone-penumbra.ensures.slope_size ▹ c.find_cone-penumbra.ensures.foot_size ▹ ends

second : (c : tie.After-find_cone-central) → Within (whole c.find_cone-central.result.slope ∷ whole c.find_cone-central.result.foot ∷ []) (117000000 ∷ 54600000 ∷ [])
second c = c.find_cone-central.ensures.slope_size ▹ c.find_cone-central.ensures.foot_size ▹ ends

add-t14 : tie.Need-overflow_add-result
add-t14 c = fits (first c.before.before.before.before) (add (arg 0) (arg 1)) tt

sub-t15 : tie.Need-overflow_sub-result
sub-t15 c = fits (second c.before.before.before.before) (sub (arg 0) (arg 1)) tt

both : (k : Radii) (p : Row) (e : Besselian) → RadiiInRange k → Accepted p → e ≡ elements_of k p → (e ≡ elements_of k p) × Faithful k p e
both k p e i h is = (is, subst (Faithful k p) (sym is) (faithful k i p h))

returns : tie.Need-returns
unfolding elements_of
returns c =
    let second-cone = c.before.before.before.before.before.before.before.before in
    let first-cone = second-cone.before.before in
    let squares = first-cone.before.before.before.before.before in
    let s = start squares in
    let p = s.args.p in
    let m = s.args.k in
    let h = accepts s in
    let d = first-cone.find_directions-d.ensures in
    let f = first-cone.find_plane-f.ensures in
    let one = first-cone.find_cone-penumbra.ensures in
    let two = second-cone.find_cone-central.ensures in
    let s1 = squares.in_millions-square1.ensures in
    let s2 = squares.in_millions-square2.ensures in
    both m p _ s.requires.1 h
    (rw (
      back f.x (Sizes.x-size p h) tt,
      back f.y (Sizes.y-size p h) tt,
      back d.sind (Sizes.sin-d-size p h) tt,
      back d.cosd (Sizes.cos-d-size p h) tt,
      back one.tangent (Sizes.tan-size p h (S1 m) _ m.penumbra (penumbra-is squares)) tt ∙ ap (tan-f p (S1 m)) s1,
      back two.tangent (Sizes.tan-size p h (S2 m) _ m.central (central-is squares)) tt ∙ ap (tan-f p (S2 m)) s2,
      runs (first first-cone) (add (arg 0) (arg 1)) tt ∙ ap₂ (λ (y z : ℤ). y +ℤ z) one.slope one.foot
          ∙ ap (λ (n : ℕ). l1 p (S1 m) n m.penumbra) s1,
      runs (second second-cone) (sub (arg 0) (arg 1)) tt ∙ ap₂ (λ (y z : ℤ). y -ℤ z) two.slope two.foot
          ∙ ap (λ (n : ℕ). l2 p (S2 m) n m.central) s2,
    ))

pub elements_of_spec : {M : Type 1} → statement M
elements_of_spec =
    tie.close
    (tie.spec
    (λ c. record { fits = omega (arith, c.requires.1.sun_high, c.requires.1.penumbra_high) })
    (λ c. omega (arith, c.requires.1.sun_low, c.requires.1.central_high))
    (λ c κs. omega (arith, c.requires.1.sun_high, c.requires.1.penumbra_high))
    (λ c κs. omega (arith, c.requires.1.sun_high)) (λ c κs. accepts (start c))
    (λ c κs. (accepts (start c.before), c.find_axis-a.ensures)) find-plane-requires find-cone-requires
    find-cone-requires-2 add-t14 sub-t15 returns)

-- `horizon::horizon_within` meets its contract: H and d are the second's, the latitude the station's, and the three
-- numbers follow.
use mathlib.Core.Path.{◌≡◌, sym, subst, subst₂, ap, ◌∙◌}
use mathlib.Core.List.{[], ◌∷◌}
use Prim.Native.Nat.{◌≤◌}
use native.Mathlib.Omega.{arith}
use borrow.Author.Rules.{rules}
use lib.Dec.{lit≤}
use lib.IntN.{ℤ, nat_abs, ◌+ℤ◌}
use Rattle.rounding.specs.laws.Code.{Code, arg, add, Within, whole, ends, ◌▹◌, fits, runs, within, read_back, read-size}
use Rattle.rounding.specs.Value.{Value}
use Rattle.sine.specs.Sine.{IsReduced}
use Rattle.sine.specs.laws.SineLaws.{sine-size, cosine-size, sine_of, cosine_of}
use Rattle.elements.specs.declared.Axis.{Axis}
use Rattle.elements.specs.Sizes.{AxisSizes, wider, wider_axis}
use Rattle.elements.specs.StarLaws.{axis_sizes}
use Rattle.elements.specs.Elements.{d_at, μ_at}
use Rattle.station.specs.declared.Place.{Place}
use Rattle.station.specs.Sizes.{PlaceSizes}
use Rattle.shadow_geometry.specs.Shadow.{Moment, moment_of, H, d}
use Rattle.shadow.specs.declared.Orientation.{Orientation}
use Rattle.shadow.specs.Shadow.{IsOrientation, OrientationSizes}
use Rattle.seconds.specs.Seconds.{moment_at}
use Rattle.seconds.proofs.laws.SecondLaws.{placed}
use Rattle.horizon.specs.Horizon.{horizon_of, orientation_of, horizon_at}
use Rattle.horizon.proofs.horizon_within.Statement.{statement}
use Rattle.horizon.proofs.horizon_within.Tie as tie

-- ---- the axis and the place
axis-sized : (c : tie.After-axis_of-axis) → AxisSizes 90000000 c.axis_of-axis.result
axis-sized c =
    let b = c.before.before.before in
    subst (AxisSizes 90000000) (sym c.axis_of-axis.ensures) (wider_axis (axis_sizes b.args.o.body b.requires.1.body) (lit≤ tt))

place-sized : (c : tie.After-geocentric-place) → PlaceSizes c.geocentric-place.result
place-sized c =
    let b = c.before.before.before.before in
    subst PlaceSizes (sym c.geocentric-place.ensures) (placed b.args.o b.requires.1)

-- ---- H and d
abbrev place : tie.After-quadratic_at → tie.After-geocentric-place
place c = c.before.before.before.before.before

abbrev start : tie.After-quadratic_at → tie.Start
start c = (place c).before.before.before.before

abbrev axis : tie.After-quadratic_at → Axis
axis c = (place c).axis_of-axis.result

μ-is : (c : tie.After-quadratic_at) → Value (μ_at (axis c) (start c).args.t) 500000000 c.quadratic_at.result
μ-is c = rw (read_back (start c).args.t (start c).requires.2 tt) at c.quadratic_at.ensures

hour-angle : (c : tie.After-quadratic_at)
    → Within (whole c.quadratic_at.result ∷ whole (place c).geocentric-place.result.longitude ∷ []) (500000000 ∷ 200000000 ∷ [])
hour-angle c = (μ-is c).size ▹ (place-sized (place c)).longitude ▹ ends

abbrev sum : Code
sum = add (arg 0) (arg 1)

d-is : (c : tie.After-quadratic_at-d) → Value (d_at (axis c.before) (start c.before).args.t) 500000000 c.quadratic_at-d.result
d-is c = rw (read_back (start c.before).args.t (start c.before).requires.2 tt) at c.quadratic_at-d.ensures

module _ (c : tie.After-orientation_of-orientation) where
  abbrev first : tie.Start
  first = start c.before.before

  abbrev seen : Moment
  seen = moment_of (axis c.before.before) (place c.before.before).geocentric-place.result first.args.t

  turned : IsOrientation (H seen) (d seen) c.orientation_of-orientation.result
  unfolding H
  turned =
      let h = runs (hour-angle c.before.before) sum tt ∙ ap (λ (z : ℤ). z +ℤ (place c.before.before).geocentric-place.result.longitude) (μ-is c.before.before).value in
      let e = read_back c.quadratic_at-d.result (d-is c.before).size tt ∙ (d-is c.before).value in
      rw (h, e) at c.orientation_of-orientation.ensures

  orientation-sizes : OrientationSizes c.orientation_of-orientation.result
  orientation-sizes =
      record {
        hsine = omega (arith, ap nat_abs turned.hsine, sine-size (H seen));
        hcosine = omega (arith, ap nat_abs turned.hcosine, cosine-size (H seen));
        dsine = omega (arith, ap nat_abs turned.dsine, sine-size (d seen));
        dcosine = omega (arith, ap nat_abs turned.dcosine, cosine-size (d seen));
      }

oriented : (m : Moment) (o : Orientation) → IsOrientation (H m) (d m) o → o ≡ orientation_of m
oriented m o i = by
  where
    by : ◌≡◌ {A = Orientation} (record { hsine = o.hsine; hcosine = o.hcosine; dsine = o.dsine; dcosine = o.dcosine }) (orientation_of m)
    by = rw (i.hsine, i.hcosine, i.dsine, i.dcosine)

-- the axis is the body's, the place the station's
orientation-is : (c : tie.After-orientation_of-orientation) → c.orientation_of-orientation.result ≡ orientation_of (moment_at (first c).args.o (first c).args.t)
orientation-is c =
    let p = place c.before.before in
    subst₂ (λ (a : Axis) (q : Place). c.orientation_of-orientation.result ≡ orientation_of (moment_of a q (first c).args.t)) p.axis_of-axis.ensures p.geocentric-place.ensures
    (oriented (seen c) c.orientation_of-orientation.result (turned c))

-- ---- the latitude
angle-is : (c : tie.After-reduced-angle) → IsReduced (first c.before).args.o.station.latitude c.reduced-angle.result
angle-is c = let b = first c.before in rw (read_back b.args.o.station.latitude b.requires.1.station.latitude tt) at c.reduced-angle.ensures

angle-small : (c : tie.After-reduced-angle) → c.reduced-angle.result ≤ 360000000
angle-small c = omega (arith, (angle-is c).below)

-- ---- the needs
axis-of-requires : tie.Need-axis_of-axis-requires
axis-of-requires c κs = search rules

quadratic-at-requires : tie.Need-quadratic_at-requires
quadratic-at-requires c κs =
    let g = c.before.before.before.before in
    let s = g.before.before.before.before in
    (wider (axis-sized g.before).mu (lit≤ tt) (lit≤ tt) (lit≤ tt), read-size s.args.t 10800 s.requires.2 tt)

quadratic-at-requires-2 : tie.Need-quadratic_at-d-requires
quadratic-at-requires-2 c κs =
    (wider (axis-sized (place c).before).d (lit≤ tt) (lit≤ tt) (lit≤ tt), read-size (start c).args.t 10800 (start c).requires.2 tt)

orientation-of-requires : tie.Need-orientation_of-orientation-requires
orientation-of-requires c κs =
    ((start c.before).requires.0, within (hour-angle c.before) sum 10000000000 tt, read-size c.quadratic_at-d.result 10000000000 (d-is c).size tt)

reduced-requires : tie.Need-reduced-angle-requires
reduced-requires c κs = let s = first c in read-size s.args.o.station.latitude 10000000000 s.requires.1.station.latitude tt

cosine-requires : tie.Need-cosine-cosine-requires
cosine-requires c κs = ((first c.before.before).requires.0, angle-small c.before)

horizon-of-requires : tie.Need-horizon_of-requires
horizon-of-requires c κs =
    let k = c.cosine-cosine in
    let n = c.sine-sine in
    let o = c.before.before.before in
    ((first o).requires.0, read-size n.result 100000000 n.ensures.small tt, read-size k.result 100000000 k.ensures.small tt, orientation-sizes o)

same : {s t k l : ℤ} {o p : Orientation} → s ≡ t → k ≡ l → o ≡ p → horizon_of s k o ≡ horizon_of t l p
same e f g = rw (e, f, g)

returns : tie.Need-returns
unfolding horizon_at
returns c =
    let k = c.cosine-cosine in
    let n = c.sine-sine in
    let a = c.before.before.before in
    c.horizon_of.ensures
    ∙ same (read_back n.result n.ensures.small tt ∙ sine_of (angle-is a) n.ensures)
    (read_back k.result k.ensures.small tt ∙ cosine_of (angle-is a) k.ensures) (orientation-is a.before)

pub horizon_within_spec : {M : Type 1} → statement M
horizon_within_spec =
    tie.close
    (tie.spec axis-of-requires (λ c κs. search rules) quadratic-at-requires (λ c. fits (hour-angle c) sum tt)
    quadratic-at-requires-2 orientation-of-requires reduced-requires
    (λ c κs. ((first c.before).requires.0, angle-small c)) cosine-requires horizon-of-requires returns)

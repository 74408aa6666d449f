-- `seconds::star_second` meets its contract: the sample's letters are the second's, and the edge of a star's phase is
-- its L.
use mathlib.Core.Path.{◌≡◌, refl, ◌∙◌}
use native.Mathlib.Omega.{arith}
use lib.IntN.{ℤ}
use Rattle.sheet_types.specs.declared.phases.Phase.TheVariants as P
use Rattle.sheet_types.specs.States.{code}
use Rattle.rounding.specs.laws.Code.{read_back, read-size}
use Rattle.sine_table.specs.Table.{S}
use Rattle.elements.specs.declared.Axis.{Axis}
use Rattle.elements.specs.declared.Star.{Star}
use Rattle.elements.specs.declared.Body.TheVariants as B
use Rattle.elements.specs.Stars.{star_axis, cylinder_of}
use Rattle.station.specs.declared.Place.{Place}
use Rattle.shadow_geometry.specs.Shadow.{moment_of, u, v, L, M, state}
use Rattle.shadow_geometry.specs.Direction.{direction}
use Rattle.shadow.specs.Second.{state_at, direction_at, IsSample}
use Rattle.shadow.specs.laws.SecondLaws.{state-at, direction-at}
use Rattle.seconds.proofs.star_second.Statement.{statement}
use Rattle.seconds.proofs.star_second.Tie as tie

-- the state and the direction of letters that are the second's
state-is : (g : ℤ) (s : Star) (p : Place) (τ : ℤ) (h l m : ℤ) → h ≡ g → l ≡ L (moment_of (star_axis s) p τ) (cylinder_of s) → m ≡ M (moment_of (star_axis s) p τ)
    → code (state h l m) ≡ code (state_at g (B.Star s) p P.Star τ)
state-is g s p τ h l m eh el em = rw (state-at g (B.Star s) p P.Star τ, eh, el, em)

direction-is : (a : Axis) (p : Place) (τ : ℤ) (x y : ℤ) → x ≡ u (moment_of a p τ) → y ≡ v (moment_of a p τ) → direction S x y ≡ direction_at a p τ
direction-is a p τ x y ex ey = rw (direction-at a p τ, ex, ey)

abbrev start : tie.After-sample_at-x → tie.Start
start x = x.before.before

seen : (x : tie.After-sample_at-x) → let a = (start x).args in IsSample (B.Star a.star) a.place a.t x.sample_at-x.result
seen x = rw (read_back (start x).args.t (start x).requires.3 tt) at x.sample_at-x.ensures

sample-at-requires : tie.Need-sample_at-x-requires
sample-at-requires c κs =
    let a = c.before in
    (a.requires.0, a.requires.1, a.requires.2, read-size a.args.t 10800 a.requires.3 tt)

state-requires : tie.Need-state-state-requires
state-requires c κs =
    let s = c.before.before in
    let a = start s in
    let x = seen s in
    let r = s.sample_at-x.result in (
      read-size a.args.guard 1000 a.requires.4 tt,
      read-size r.first 600000000 (x.radius 0 (omega arith)).size tt,
      read-size r.m 1000000000000000000 x.m.size tt,
    )

direction-requires : tie.Need-direction-direction-requires
direction-requires c κs =
    let s = c.before.before.before.before.before in
    let x = seen s in
    let r = s.sample_at-x.result in
    ((start s).requires.0, omega (arith, read-size r.u 602170000 x.u.size tt), omega (arith, read-size r.v 703170000 x.v.size tt))

returns : tie.Need-returns
returns c =
    let s = c.before.before.before.before.before.before.before in
    let a = start s in
    let x = seen s in
    let r = s.sample_at-x.result in
    let eu = read_back r.u x.u.size tt ∙ x.u.value in
    let ev = read_back r.v x.v.size tt ∙ x.v.value in
    let em = read_back r.m x.m.size tt ∙ x.m.value in
    let el = read_back r.first (x.radius 0 (omega arith)).size tt ∙ (x.radius 0 (omega arith)).value in
    let said = c.state-state.ensures
    ∙ state-is a.args.guard a.args.star a.args.place a.args.t _ _ _ (read_back a.args.guard a.requires.4 tt) el em in
    record {
      u = eu;
      v = ev;
      l1 = el;
      l2 = el;
      m = em;
      penumbra = said;
      central = said;
      magnitude = refl;
      direction = c.direction-direction.ensures ∙ direction-is (star_axis a.args.star) a.args.place a.args.t _ _ eu ev;
    }

pub star_second_spec : {M : Type 1} → statement M
star_second_spec = tie.close (tie.spec sample-at-requires state-requires direction-requires returns)

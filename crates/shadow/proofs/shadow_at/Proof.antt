-- `shadow::shadow_at` meets its contract: the axis from the station, and each cone's radius there.
use mathlib.Core.Path.{◌∙◌}
use lib.Dec.{lit≤}
use Rattle.rounding.specs.laws.Code.{read_back, read-size}
use Rattle.rounding.specs.Value.{Value}
use Rattle.elements.specs.Sizes.{wider_axis, wider_cone}
use Rattle.shadow_geometry.specs.Shadow.{Moment, moment, L}
use Rattle.shadow.specs.Shadow.{IsOffset}
use Rattle.shadow.proofs.shadow_at.Statement.{statement}
use Rattle.shadow.proofs.shadow_at.Tie as tie

abbrev start : tie.After-offset_at-o → tie.Start
start c = c.before.before.before.before.before

abbrev found : tie.After-radius_at-l1 → tie.After-offset_at-o
found c = c.before.before.before.before.before

offset : (c : tie.After-offset_at-o) → let a = (start c).args in IsOffset a.e.axis a.place a.t c.offset_at-o.result
offset c = rw (read_back (start c).args.t (start c).requires.3 tt) at c.offset_at-o.ensures

abbrev at : tie.Start → Moment
at s = moment s.args.e s.args.place s.args.t

-- L of each cone
L1-is : (c : tie.After-radius_at-l1) → let s = start (found c) in Value (L (at s) s.args.e.penumbra) 600000000 c.radius_at-l1.result
unfolding L
L1-is c =
    let s = start (found c) in
    let z = (offset (found c)).zeta in
    rw (read_back (found c).offset_at-o.result.zeta z.size tt ∙ z.value, read_back s.args.t s.requires.3 tt) at c.radius_at-l1.ensures

L2-is : (c : tie.After-radius_at-l2) → let s = start (found c.before) in Value (L (at s) s.args.e.central) 600000000 c.radius_at-l2.result
unfolding L
L2-is c =
    let s = start (found c.before) in
    let z = (offset (found c.before)).zeta in
    rw (read_back (found c.before).offset_at-o.result.zeta z.size tt ∙ z.value, read_back s.args.t s.requires.3 tt) at c.radius_at-l2.ensures

offset-at-requires : tie.Need-offset_at-o-requires
offset-at-requires c κs =
    let s = c.before.before.before.before in
    (s.requires.0, wider_axis s.requires.1.axis (lit≤ tt), s.requires.2, read-size s.args.t 10800 s.requires.3 tt)

radius-at-requires : tie.Need-radius_at-l1-requires
radius-at-requires c κs =
    let o = c.before.before.before.before in
    let s = start o in
    (s.requires.1.penumbra, read-size o.offset_at-o.result.zeta 202000000 (offset o).zeta.size tt, read-size s.args.t 10800 s.requires.3 tt)

radius-at-requires-2 : tie.Need-radius_at-l2-requires
radius-at-requires-2 c κs =
    let o = found c in
    let s = start o in (
      wider_cone s.requires.1.central (lit≤ tt),
      read-size o.offset_at-o.result.zeta 202000000 (offset o).zeta.size tt,
      read-size s.args.t 10800
          s.requires.3 tt,
    )

returns : tie.Need-returns
returns c =
    let o = found c.before in
    let r = o.offset_at-o.result in
    let k = offset o in
    record {
      u = read_back r.u k.u.size tt ∙ k.u.value;
      v = read_back r.v k.v.size tt ∙ k.v.value;
      l1 = read_back c.radius_at-l1.result (L1-is c.before).size tt ∙ (L1-is c.before).value;
      l2 = read_back c.radius_at-l2.result (L2-is c).size tt ∙ (L2-is c).value;
      m = read_back r.m k.m.size tt ∙ k.m.value;
    }

pub shadow_at_spec : {M : Type 1} → statement M
shadow_at_spec = tie.close (tie.spec offset-at-requires radius-at-requires radius-at-requires-2 returns)

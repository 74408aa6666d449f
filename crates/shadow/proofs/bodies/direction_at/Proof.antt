-- `shadow::bodies::direction_at` meets its contract: u and v are the second's, so the direction is too.
use mathlib.Core.Path.{sym, ◌∙◌}
use Rattle.rounding.specs.laws.Code.{read_back, read-size}
use Rattle.shadow.specs.Shadow.{IsOffset}
use Rattle.shadow.specs.laws.SecondLaws.{direction-at}
use Rattle.shadow.proofs.bodies.direction_at.Statement.{statement}
use Rattle.shadow.proofs.bodies.direction_at.Tie as tie

seen : (c : tie.After-offset_at-o) → let a = c.args in IsOffset a.axis a.place a.t c.offset_at-o.result
seen c =
    let a = c.before.before in
    rw (read_back a.args.t a.requires.3 tt) at c.offset_at-o.ensures

offset-at-requires : tie.Need-offset_at-o-requires
offset-at-requires c κs =
    let a = c.before in
    (a.requires.0, a.requires.1, a.requires.2, read-size a.args.t 10800 a.requires.3 tt)

direction-requires : tie.Need-direction-requires
direction-requires c κs =
    let o = c.before.before in
    let r = o.offset_at-o.result in
    (o.requires.0, read-size r.u 1000000000 (seen o).u.size tt, read-size r.v 1000000000 (seen o).v.size tt)

returns : tie.Need-returns
returns c =
    let o = c.before.before.before in
    let a = o.args in
    let r = o.offset_at-o.result in
    rw (read_back r.u (seen o).u.size tt ∙ (seen o).u.value, read_back r.v (seen o).v.size tt ∙ (seen o).v.value) at c.direction.ensures
    ∙ sym (direction-at a.axis a.place a.t)

pub direction_at_spec : {M : Type 1} → statement M
direction_at_spec = tie.close (tie.spec offset-at-requires direction-requires returns)

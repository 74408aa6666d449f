-- Each call gives its letter.
use Rattle.std.proofs.Common.{◌≡◌, ◌∙◌, to_z, of_z, w64, pos}
use Rattle.rounding.specs.laws.Code.{read_back}
use Rattle.rounding.specs.Value.{Value}
use Rattle.shadow_geometry.specs.Shadow.{L, edge}
use Rattle.shadow.specs.Shadow.{IsOffset}
use Rattle.contact_times.specs.Parts.{hundredths, axis_by, cone_by, moment_by}
use Rattle.contact_times.specs.Brackets.{state_by}
use Rattle.contact_times.proofs.hundredths.state_at.Goals as goal

pub returns : goal.returns
unfolding state_by L
returns c =
    let a = c.args in
    let t : to_z w64 (of_z w64 a.t) ≡ a.t = read_back a.t c.requires.2 tt in
    let o : IsOffset (axis_by hundredths a.c.axis a.t) a.c.place (pos 0) c.offset_at-o.result = rw t at c.offset_at-o.ensures in
    let l : Value (L (moment_by hundredths a.c.axis a.c.place a.t) (cone_by hundredths a.c.cone a.t)) 600000000 c.radius_at-l.result =
    rw (read_back c.offset_at-o.result.zeta o.zeta.size tt ∙ o.zeta.value, t) at c.radius_at-l.ensures in
    let e : Value (edge a.c.phase (L (moment_by hundredths a.c.axis a.c.place a.t) (cone_by hundredths a.c.cone a.t))) 600000000 c.edge_of-r.result =
    rw (read_back c.radius_at-l.result l.size tt ∙ l.value) at c.edge_of-r.ensures in
    rw (
      read_back a.c.guard c.requires.1.guard tt,
      read_back c.edge_of-r.result e.size tt ∙ e.value,
      read_back c.offset_at-o.result.m o.m.size tt ∙ o.m.value,
    ) at c.state.ensures

-- Of l at the hundredth.
use Rattle.std.proofs.Common.{◌≡◌, sym, ap, ◌∙◌, ℤ, to_z, of_z, w64, pos, ◌-ℤ◌, ◌*ℤ◌}
use Rattle.rounding.specs.laws.Code.{read_back, read-size}
use Rattle.rounding.specs.Units.{one}
use Rattle.rounding.specs.Near.{near}
use Rattle.rounding.specs.Value.{Value}
use Rattle.elements.specs.Elements.{l_at}
use Rattle.contact_times.specs.Parts.{hundredths, quadratic_by, cone_by}
use Rattle.contact_times.specs.laws.PartErrors.{still_quadratic}
use Rattle.contact_times.proofs.hundredths.radius_at.Goals as goal

pub returns : goal.returns
returns c =
    let a = c.args in
    let l = c.quadratic_by-l in
    let e : to_z w64 (of_z w64 l.result) ≡ l_at (cone_by hundredths a.cone a.t) (pos 0) =
    read_back l.result l.ensures.size tt ∙ l.ensures.value
    ∙ ap (λ (z : ℤ). quadratic_by hundredths a.cone.l z) (read_back a.t c.requires.2 tt)
    ∙ sym (still_quadratic (quadratic_by hundredths a.cone.l a.t)) in
    let r : Value (l_at (cone_by hundredths a.cone a.t) (pos 0) -ℤ near (a.zeta *ℤ a.cone.tanf) one) 600000000 c.radius_of.result =
    rw (e, read_back a.zeta c.requires.1 tt, read_back a.cone.tanf c.requires.0.tanf tt) at c.radius_of.ensures in
    record { value = read_back c.radius_of.result r.size tt ∙ r.value; size = read-size c.radius_of.result 600000000 r.size tt }

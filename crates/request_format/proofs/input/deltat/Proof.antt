-- `request_format::input::deltat` meets its contract: it is the ΔT of what the bytes ask for.
use mathlib.Core.Path.{sym, ap, ◌∙◌}
use Rattle.rounding.specs.laws.Code.{read_result}
use Rattle.request_format.specs.Input.{eclipse_asked, delta_for, delta_of}
use borrow.Author.Rules.{rules}
use Rattle.request_format.proofs.input.deltat.Statement.{statement}
use Rattle.request_format.proofs.input.deltat.Tie as tie

returns : tie.Need-returns-in-Ok
unfolding delta_of
returns c =
    let known = c.before.before in
    read_result _ c.struct_told-1.given.1.1.1.1.0.1
    ∙ ap (λ i. delta_for (eclipse_asked i)) (sym known.in-Ok.is ∙ known.request-asked.ensures)

returns-2 : tie.Need-returns-in-Err
unfolding delta_of
returns-2 c = ap (λ i. delta_for (eclipse_asked i)) (sym c.in-Err.is ∙ c.request-asked.ensures)

pub deltat_spec : {M : Type 1} → statement M
deltat_spec = tie.close (tie.spec (λ c κs. search rules) (λ c. search rules) (λ c. search rules) returns returns-2)

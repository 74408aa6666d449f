-- `request_format::input::stars::deltat` meets its contract: it is the ΔT of what the bytes ask for.
use mathlib.Core.Path.{sym, ap, ◌∙◌}
use Rattle.rounding.specs.laws.Code.{read_result}
use Rattle.request_format.specs.Input.{delta_for, star_delta}
use borrow.Author.Rules.{rules}
use Rattle.request_format.proofs.input.stars.deltat.Statement.{statement}
use Rattle.request_format.proofs.input.stars.deltat.Tie as tie

returns : tie.Need-returns-in-Ok
unfolding star_delta
returns c =
    let known = c.before.before in
    read_result _ c.struct_told-1.given.1.1.1.1.0.1 ∙ ap delta_for (sym known.in-Ok.is ∙ known.asked-wish.ensures)

returns-2 : tie.Need-returns-in-Err
unfolding star_delta
returns-2 c = ap delta_for (sym c.in-Err.is ∙ c.asked-wish.ensures)

pub deltat_spec : {M : Type 1} → statement M
deltat_spec = tie.close (tie.spec (λ c κs. search rules) (λ c. search rules) (λ c. search rules) returns returns-2)

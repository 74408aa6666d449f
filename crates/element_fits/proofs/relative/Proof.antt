-- `element_fits::relative` meets its contract: it is two calls.
use mathlib.Core.Path.{ap, ap₂, ◌∙◌}
use native.Mathlib.Omega.{arith}
use borrow.Author.Rules.{rules}
use lib.IntN.{nat_abs}
use Rattle.rounding.specs.laws.Code.{read_back}
use Rattle.element_fits.specs.FromTables.{turn, offset}
use Rattle.element_fits.specs.laws.Laws.{offset-size}
use Rattle.element_fits.proofs.relative.Statement.{statement}
use Rattle.element_fits.proofs.relative.Tie as tie

returns : tie.Need-returns
returns c =
    let s = c.before.before in
    let a = s.args in
    let p = s.requires in
    let t = c.turn-t in
    let turned = rw (read_back a.g p.0 tt, read_back a.a p.1 tt, read_back a.hour p.2 tt) at t.ensures.value in
    let e =
    read_back c.offset.result c.offset.ensures.size tt
    ∙ c.offset.ensures.value
    ∙ ap₂ offset (read_back t.result t.ensures.size tt ∙ turned) (read_back a.middle p.3 tt)
    in
    record { value = e; size = omega (arith, ap nat_abs e, offset-size (turn a.g a.a a.hour) a.middle) }

pub relative_spec : {M : Type 1} → statement M
relative_spec = tie.close (tie.spec (λ c κs. search rules) (λ c κs. search rules) returns)

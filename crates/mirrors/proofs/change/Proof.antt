-- `mirrors::change` meets its contract: eight numbers, one after the other.
use mathlib.Core.Path.{◌∙◌}
use Rattle.mirrors.specs.laws.ChangedLaws.{changed}
use borrow.Author.Rules.{rules}
use Rattle.mirrors.proofs.change.Statement.{statement}
use Rattle.mirrors.proofs.change.Tie as tie

returns : tie.Need-returns
unfolding changed
returns c =
    let t7 = c.before.before in
    let t6 = t7.before.before in
    let t5 = t6.before.before in
    let t4 = t5.before.before in
    let t3 = t4.before.before in
    let t2 = t3.before.before in
    let t1 = t2.before.before in
    c.turn-8.ensures
    ∙ rw (t7.turn-7.ensures, t6.turn-6.ensures, t5.turn-5.ensures, t4.turn-4.ensures, t3.turn-3.ensures, t2.turn-2.ensures, t1.turn.ensures)

pub change_spec : {M : Type 1} → statement M
change_spec =
    tie.close
    (tie.spec (λ c κs. search rules) (λ c κs. search rules) (λ c κs. search rules) (λ c κs. search rules)
    (λ c κs. search rules) (λ c κs. search rules) (λ c κs. search rules) (λ c κs. search rules) returns)

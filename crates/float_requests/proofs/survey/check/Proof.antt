-- `float_requests::survey::check` meets its contract: 1 is what the request is refused for first; else the doubles are
-- looked at.
use Rattle.std.specs.Prelude.{Result}
use mathlib.Core.Path.{◌≡◌, sym, ap, ◌∙◌}
use Rattle.sheet_types.specs.declared.refusals.Refusal.{Refusal}
use borrow.Author.Rules.{rules}
use lib.Dec.{eqb}
use Rattle.sheet_types.specs.laws.RefusalLaws.{number_in}
use Rattle.requests.specs.Requests.{checked}
use Rattle.float_requests.proofs.laws.SurveyLaws.{checked-one, checked-on}
use Rattle.float_requests.proofs.survey.check.Statement.{statement}
use Rattle.float_requests.proofs.survey.check.Tie as tie

-- whether the request is refused under 1
first : (c : tie.After-is_one-first) → eqb (number_in (checked c.args.o)) 1 ≡ c.is_one-first.result
first c = sym (c.is_one-first.ensures ∙ ap (λ (x : Result Unit Refusal). eqb (number_in x) 1) c.check-c.ensures)

returns : tie.Need-returns-then-first
returns c =
    let t = c.before.before.before in
    c.check-c.ensures ∙ checked-one t.args.s t.args.o t.requires (first c.before ∙ c.if-first.true)

returns-2 : tie.Need-returns
returns-2 c =
    let e = c.before.before in
    let t = e.before.before.before in
    c.check_finite.ensures ∙ checked-on t.args.s t.args.o t.requires (first e.before ∙ e.if-first.false)

pub check_spec : {M : Type 1} → statement M
check_spec = tie.close (tie.spec (λ c κs. search rules) (λ c κs. search rules) returns (λ c κs. search rules) returns-2)

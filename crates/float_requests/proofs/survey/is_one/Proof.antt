-- `float_requests::survey::is_one` meets its contract, case by case.
use Rattle.std.specs.Prelude.{Result}
use mathlib.Core.Path.{sym, ap}
use Rattle.sheet_types.specs.declared.refusals.Refusal.{Refusal}
use borrow.Author.Rules.{rules}
use lib.Dec.{eqb}
use Rattle.sheet_types.specs.laws.RefusalLaws.{number_in}
use Rattle.float_requests.proofs.survey.is_one.Statement.{statement}
use Rattle.float_requests.proofs.survey.is_one.Tie as tie

returns : tie.Need-returns-in-Ok
returns c = sym (ap (λ (x : Result Unit Refusal). eqb (number_in x) 1) c.in-Ok.is)

returns-2 : tie.Need-returns-in-Err
returns-2 c = sym (ap (λ (x : Result Unit Refusal). eqb (number_in x) 1) c.in-Err.is)

pub is_one_spec : {M : Type 1} → statement M
is_one_spec = tie.close (tie.spec (λ c. search rules) (λ c. search rules) returns returns-2)

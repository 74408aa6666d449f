-- `streams::step` meets its contract: the sheet's bytes and no line, or the line and no bytes.
use native.Mathlib.Omega.{arith}
use Rattle.streams.specs.laws.StreamLaws.{step-written, step-refused}
use borrow.Author.Rules.{rules}
use Rattle.streams.proofs.step.Statement.{statement}
use Rattle.streams.proofs.step.Tie as tie

returns : tie.Need-returns-in-Ok
returns c =
    let m = c.answer-answer in
    step-written _ _ _ _ _ _ _ _ m.ensures _ c.in-Ok.is (omega arith) _

returns-2 : tie.Need-returns-in-Err
returns-2 c =
    let m = c.answer-answer in
    step-refused _ _ _ _ _ _ _ _ m.ensures _ c.in-Err.is _ _ _ c.put_refusal-end.ensures _ c.is_shape-stops.ensures

pub step_spec : {M : Type 1} → statement M
step_spec =
    tie.close
    (tie.spec (λ c κs. search rules) (λ c. search rules) (λ c. search rules) (λ c κs. search rules)
    (λ c κs. search rules) (λ c. search rules) (λ c. search rules) returns (λ c. search rules)
    (λ c. search rules) (λ c. search rules) returns-2)

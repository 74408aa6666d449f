-- `request_text::faults::put_fault` meets its contract: each arm has the words of its fault.
use Rattle.request_text.specs.laws.MessageLaws.{put-told, put-unknown, put-not-number, put-not-whole, put-unfit, put-twice, put-missing}
use borrow.Author.Rules.{rules}
use Rattle.request_text.proofs.faults.put_fault.Statement.{statement}
use Rattle.request_text.proofs.faults.put_fault.Tie as tie

returns : tie.Need-returns-in-Unknown
returns c = put-told _ _ _ _ _ _ _ _ c.in-Unknown.is (put-unknown _ _ _ _ _ _ c.put_unknown.ensures)

returns-2 : tie.Need-returns-in-NotNumber
returns-2 c =
    put-told _ _ _ _ _ _ _ _ c.in-NotNumber.is
    (put-not-number _ _ _ _ _ _ _ c.put_of.ensures)

returns-3 : tie.Need-returns-in-NotWhole
returns-3 c =
    put-told _ _ _ _ _ _ _ _ c.in-NotWhole.is
    (put-not-whole _ _ _ _ _ _ _ c.put_of-in-NotWhole.ensures)

returns-4 : tie.Need-returns-in-Unfit
returns-4 c =
    put-told _ _ _ _ _ _ _ _ c.in-Unfit.is
    (put-unfit _ _ _ _ _ _ _ c.put_of-in-Unfit.ensures)

returns-5 : tie.Need-returns-in-Twice
returns-5 c =
    put-told _ _ _ _ _ _ _ _ c.in-Twice.is
    (put-twice _ _ _ _ _ _ _ c.put_of-in-Twice.ensures)

returns-6 : tie.Need-returns-in-Missing
returns-6 c =
    put-told _ _ _ _ _ _ _ _ c.in-Missing.is
    (put-missing _ _ _ _ _ _ _ c.put_of-in-Missing.ensures)

pub put_fault_spec : {M : Type 1} → statement M
put_fault_spec =
    tie.close
    (tie.spec (λ c. search rules) (λ c κs. search rules) (λ c. search rules) (λ c κs. search rules) (λ c. search rules) (λ c κs. search rules) (λ c. search rules) (λ c κs. search rules) (λ c. search rules) (λ c κs. search rules) (λ c. search rules) (λ c κs. search rules) (λ c. search rules) returns (λ c. search rules) returns-2 (λ c. search rules) returns-3 (λ c. search rules) returns-4 (λ c. search rules) returns-5 (λ c. search rules) returns-6)

-- `request_text::faults::put_of` meets its contract: the name, then the words.
use native.Mathlib.Omega.{arith}
use Rattle.decimal_text.specs.laws.TextLaws.{put_then}
use borrow.Author.Rules.{rules}
use Rattle.request_text.proofs.faults.put_of.Statement.{statement}
use Rattle.request_text.proofs.faults.put_of.Tie as tie

returns : tie.Need-returns
returns c = put_then _ _ _ _ _ _ _ _ (omega arith) c.put_name-next.ensures c.put_text.ensures

pub put_of_spec : {M : Type 1} → statement M
put_of_spec =
    tie.close
    (tie.spec (λ c κs. search rules) (λ c κs. search rules) (λ c. search rules) returns)

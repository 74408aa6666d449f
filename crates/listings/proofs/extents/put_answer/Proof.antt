-- `listings::extents::put_answer` meets its contract: the word, then the answer.
use native.Mathlib.Omega.{arith}
use Rattle.decimal_text.specs.laws.RowLaws.{joined}
use borrow.Author.Rules.{rules}
use Rattle.listings.proofs.extents.put_answer.Statement.{statement}
use Rattle.listings.proofs.extents.put_answer.Tie as tie

returns : tie.Need-returns
returns c = joined (omega arith) c.put_text-next.ensures c.put_extent.ensures

pub put_answer_spec : {M : Type 1} → statement M
put_answer_spec = tie.close (tie.spec (λ c κs. search rules) (λ c κs. search rules) (λ c. search rules) returns)

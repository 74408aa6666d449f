-- `request_text::instants::word_in` meets its contract: blanks, and the word.
use mathlib.Core.Path.{sym}
use lib.Seq.{length-take-le}
use Rattle.request_text.specs.laws.InstantLaws.{word-is}
use borrow.Author.Rules.{rules}
use Rattle.request_text.proofs.instants.word_in.Statement.{statement}
use Rattle.request_text.proofs.instants.word_in.Tie as tie

slice-aggregate-result : tie.Need-slice_bounds-result-end
slice-aggregate-result c = sym (length-take-le _ _ c.run-length.ensures.1)

returns : tie.Need-returns
returns c = word-is _ _ _ c.run-gap.ensures.0 c.run-length.ensures.0

pub word_in_spec : {M : Type 1} → statement M
word_in_spec =
    tie.close
    (tie.spec (λ c κs. search rules) (λ c. search rules) (λ c. search rules) (λ c. search rules)
    (λ c κs. search rules) slice-aggregate-result returns)

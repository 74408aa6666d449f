-- `request_text::instants::after_word` meets its contract: blanks, the word, and the rest.
use Rattle.request_text.specs.laws.InstantLaws.{after_is}
use borrow.Author.Rules.{rules}
use Rattle.request_text.proofs.instants.after_word.Statement.{statement}
use Rattle.request_text.proofs.instants.after_word.Tie as tie

returns : tie.Need-returns
returns c = after_is _ _ _ c.run-gap.ensures.0 c.run-length.ensures.0

pub after_word_spec : {M : Type 1} → statement M
after_word_spec =
    tie.close
    (tie.spec (λ c κs. search rules) (λ c. search rules) (λ c. search rules) (λ c. search rules)
    (λ c κs. search rules) (λ c. search rules) (λ c. search rules) (λ c. search rules) returns)

-- `listings::sky::put_words` meets its contract: each arm has its words.
use borrow.Author.Rules.{rules}
use Rattle.listings.proofs.sky.put_words.Statement.{statement}
use Rattle.listings.proofs.sky.put_words.Tie as tie

returns : tie.Need-returns-in-Sun
returns c = rw c.in-Sun.is c.put_text.ensures

returns-2 : tie.Need-returns-in-Star
returns-2 c = rw c.in-Star.is c.put_text-in-Star.ensures

pub put_words_spec : {M : Type 1} → statement M
put_words_spec =
    tie.close
    (tie.spec (λ c. search rules) (λ c κs. search rules) (λ c. search rules) (λ c κs. search rules)
    (λ c. search rules) returns (λ c. search rules) returns-2)

-- `request_text::instants::hundredths_of` meets its contract: the sum of its parts, none of which is large.
use native.Mathlib.Omega.{arith}
use Rattle.request_text.specs.Instants.{hundredths_of}
use borrow.Author.Rules.{rules}
use Rattle.request_text.proofs.instants.hundredths_of.Statement.{statement}
use Rattle.request_text.proofs.instants.hundredths_of.Tie as tie

returns : tie.Need-returns
unfolding hundredths_of
returns c = omega arith

pub hundredths_of_spec : {M : Type 1} → statement M
hundredths_of_spec =
    tie.close
    (tie.spec (λ c κs. search rules) (λ c κs. search rules) (λ c κs. search rules) (λ c κs. search rules)
    (λ c. search rules) (λ c. search rules) (λ c. search rules) (λ c. search rules) (λ c. search rules)
    (λ c. search rules) returns)

-- `request_text::instants::forms::two_at` meets its contract: ten times the first digit, and the second.
use native.Mathlib.Omega.{arith}
use Rattle.request_text.specs.Forms.{two_at}
use borrow.Author.Rules.{rules}
use Rattle.request_text.proofs.instants.forms.two_at.Statement.{statement}
use Rattle.request_text.proofs.instants.forms.two_at.Tie as tie

returns : tie.Need-returns
unfolding two_at
returns c = (omega arith, omega arith)

pub two_at_spec : {M : Type 1} → statement M
two_at_spec =
    tie.close
    (tie.spec (λ c κs. search rules) (λ c. search rules) (λ c. search rules) (λ c κs. search rules)
    (λ c. search rules) returns)

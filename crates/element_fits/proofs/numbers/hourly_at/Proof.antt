-- `element_fits::numbers::hourly_at` meets its contract: seven numbers.
use borrow.Author.Rules.{rules}
use Rattle.element_fits.specs.Numbers.{hourly_of}
use Rattle.element_fits.proofs.numbers.hourly_at.Statement.{statement}
use Rattle.element_fits.proofs.numbers.hourly_at.Tie as tie

returns : tie.Need-returns
unfolding hourly_of
returns c = search rules

pub hourly_at_spec : {M : Type 1} → statement M
hourly_at_spec = tie.close (tie.spec (λ c. search rules) (λ c. search rules) (λ c. search rules) (λ c. search rules) (λ c. search rules) (λ c. search rules) (λ c. search rules) returns)

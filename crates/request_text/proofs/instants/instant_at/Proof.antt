-- `request_text::instants::instant_at` meets its contract: each field is what its word gives.
use Rattle.request_text.specs.Instants.{instant_at}
use borrow.Author.Rules.{rules}
use Rattle.request_text.proofs.instants.instant_at.Statement.{statement}
use Rattle.request_text.proofs.instants.instant_at.Tie as tie

returns : tie.Need-returns
unfolding instant_at
returns c = rw (← c.hundredths_of-hundredths.ensures, ← c.two_at-day.ensures.0, ← c.two_at-month.ensures.0, ← c.year_of-year.ensures)

pub instant_at_spec : {M : Type 1} → statement M
instant_at_spec =
    tie.close
    (tie.spec (λ c κs. search rules) (λ c κs. search rules) (λ c κs. search rules) (λ c κs. search rules)
    returns)

-- `request_text::instants::is_date` meets its contract: the same tests.
use Rattle.request_text.specs.Instants.{is_date}
use borrow.Author.Rules.{rules}
use Rattle.request_text.proofs.instants.is_date.Statement.{statement}
use Rattle.request_text.proofs.instants.is_date.Tie as tie

returns : tie.Need-returns
unfolding is_date
returns c =
    let year = c.before.before.before in
    rw (c.is_day.ensures, year.has_form-form.ensures, year.year_of-year.ensures, c.two_at-month.ensures.0, c.two_at-day.ensures.0)

pub is_date_spec : {M : Type 1} → statement M
is_date_spec =
    tie.close
    (tie.spec (λ c κs. search rules) (λ c κs. search rules) (λ c κs. search rules) (λ c κs. search rules) (λ c κs. search rules) returns)

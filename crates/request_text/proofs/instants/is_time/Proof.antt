-- `request_text::instants::is_time` meets its contract: the same tests.
use Rattle.request_text.specs.Instants.{is_time}
use borrow.Author.Rules.{rules}
use Rattle.request_text.proofs.instants.is_time.Statement.{statement}
use Rattle.request_text.proofs.instants.is_time.Tie as tie

returns : tie.Need-returns
unfolding is_time
returns c =
    let hours = c.before.before in
    rw (hours.time_form-form.ensures, hours.two_at-hours.ensures.0, c.two_at-minutes.ensures.0, c.two_at-seconds.ensures.0)

pub is_time_spec : {M : Type 1} → statement M
is_time_spec =
    tie.close
    (tie.spec (λ c κs. search rules) (λ c κs. search rules) (λ c κs. search rules) (λ c κs. search rules)
    returns)

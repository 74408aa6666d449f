-- `request_text::instants::time_form` meets its contract: the same three forms.
use Rattle.request_text.specs.Instants.{time_form}
use borrow.Author.Rules.{rules}
use Rattle.request_text.proofs.instants.time_form.Statement.{statement}
use Rattle.request_text.proofs.instants.time_form.Tie as tie

returns : tie.Need-returns
unfolding time_form
returns c = rw (c.has_form.ensures, c.has_form-tenths.ensures, c.has_form-plain.ensures)

pub time_form_spec : {M : Type 1} → statement M
time_form_spec =
    tie.close
    (tie.spec (λ c κs. search rules) (λ c κs. search rules) (λ c κs. search rules) returns)

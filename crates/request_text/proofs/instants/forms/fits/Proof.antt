-- `request_text::instants::forms::fits` meets its contract: by the character of the form.
use borrow.Author.Tests.{eq-eqb, ne_eqb}
use borrow.Author.Rules.{rules}
use Rattle.request_text.proofs.instants.forms.fits.Statement.{statement}
use Rattle.request_text.proofs.instants.forms.fits.Tie as tie

returns : tie.Need-returns-then-p-eq48
returns c = rw (eq-eqb _ _ c.if-p-eq48.true) c.is_in.ensures

returns-2 : tie.Need-returns
returns-2 c = rw (ne_eqb _ _ c.if-p-eq48.false)

pub fits_spec : {M : Type 1} → statement M
fits_spec = tie.close (tie.spec (λ c κs. search rules) returns returns-2)

-- `requests::admission::fill_sines` meets its contract: a buffer that is shorter is left, a longer one filled.
use mathlib.Core.Path.{◌∙◌}
use borrow.Author.Rules.{rules}
use Rattle.requests.proofs.laws.AdmissionLaws.{room-short, room-long}
use Rattle.requests.proofs.admission.fill_sines.Statement.{statement}
use Rattle.requests.proofs.admission.fill_sines.Tie as tie

returns : tie.Need-returns-then-sines-lt901
returns c = room-short _ c.if-sines-lt901.true

returns-2 : tie.Need-returns
returns-2 c = let l = room-long _ c.if-sines-lt901.false in (l.0, c.fill.ensures.0 ∙ l.1)

pub fill_sines_spec : {M : Type 1} → statement M
fill_sines_spec = tie.close (tie.spec returns (λ c κs. search rules) (λ c. search rules) returns-2)

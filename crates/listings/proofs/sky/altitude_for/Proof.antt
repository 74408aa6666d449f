-- `listings::sky::altitude_for` meets its contract: none without an occultation, else what its kind shows.
use mathlib.Core.Path.{ap, ◌∙◌}
use Rattle.listings.specs.Sky.{altitude_shown}
use borrow.Author.Rules.{rules}
use Rattle.listings.proofs.sky.altitude_for.Statement.{statement}
use Rattle.listings.proofs.sky.altitude_for.Tie as tie

returns : tie.Need-returns-in_default
returns c = rw c.in_default.is

returns-2 : tie.Need-returns
returns-2 c = rw c.in-Some.is (c.altitude_shown.ensures ∙ ap (altitude_shown _) c.shown_for-shown.ensures)

pub altitude_for_spec : {M : Type 1} → statement M
altitude_for_spec = tie.close (tie.spec (λ c. search rules) (λ c. search rules) returns (λ c κs. search rules) (λ c κs. search rules) returns-2)

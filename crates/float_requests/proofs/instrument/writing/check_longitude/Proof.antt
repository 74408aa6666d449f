-- `float_requests::instrument::writing::check_longitude` meets its contract: the station's own check.
use mathlib.Core.Path.{ap, ◌∙◌}
use borrow.Author.Rules.{rules}
use mir.ValLaws.{to_z-of_z}
use mir.Syntax.{w64}
use Rattle.float_requests.specs.Writing.{longitude_checked}
use Rattle.float_requests.proofs.instrument.writing.check_longitude.Statement.{statement}
use Rattle.float_requests.proofs.instrument.writing.check_longitude.Tie as tie

returns : tie.Need-returns
returns c = c.check.ensures ∙ ap longitude_checked (to_z-of_z w64 c.args.longitude c.ranges.longitude)

pub check_longitude_spec : {M : Type 1} → statement M
check_longitude_spec = tie.close (tie.spec (λ c κs. search rules) returns)

-- `requests::windows::in_span` meets its contract: the two tests, on a number read back from its bits.
use mir.Syntax.{w64}
use mir.ValLaws.{to_z-of_z}
use Rattle.requests.specs.Windows.{in_span}
use Rattle.requests.proofs.windows.in_span.Statement.{statement}
use Rattle.requests.proofs.windows.in_span.Tie as tie

returns : tie.Need-returns
unfolding in_span
returns c = rw (to_z-of_z w64 c.args.t c.ranges.t)

pub in_span_spec : {M : Type 1} → statement M
in_span_spec = tie.close (tie.spec returns)

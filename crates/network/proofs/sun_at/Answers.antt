-- `network::sun_at` meets its contract: the altitude of the request that the station would send alone.
use Rattle.std.proofs.Common.{ap, ◌∙◌}
use mir.Syntax.{w64}
use mir.Val.{to_z, of_z}
use mir.ValLaws.{to_z-of_z}
use Rattle.requests.specs.Requests.{of_eclipse}
use Rattle.listings.specs.Sky.{altitude_at}
use Rattle.network.specs.Printed.{sun_at}
use Rattle.network.proofs.sun_at.Goals as goal

pub returns : goal.returns
unfolding sun_at
returns c =
    c.altitude_at.ensures
    ∙ ap (λ x. altitude_at x (to_z w64 (of_z w64 c.args.t))) (c.of_eclipse-o.ensures ∙ ap of_eclipse c.request-q.ensures)
    ∙ ap (altitude_at _) (to_z-of_z w64 c.args.t c.ranges.t)

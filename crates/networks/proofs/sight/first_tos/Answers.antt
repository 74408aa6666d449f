-- `networks::sight::first_tos` meets its contract: each turn puts in one more.
use Rattle.std.proofs.Common.{◌<◌, ◌∙◌, ap, arith, length, take, length-set, length-take-le}
use Rattle.requests.specs.declared.Request.{Request}
use Rattle.requests.specs.Requests.{of_eclipse}
use Rattle.clock_network.specs.laws.Copy.{copy_step}
use Rattle.networks.specs.Enters.{firstTo}
use Rattle.networks.specs.Network.{to_of}
use Rattle.networks.proofs.sight.first_tos.Goals as goal

pub loop-i-preserved : goal.loop-i-preserved
loop-i-preserved c =
    let i = c.loop-i.i in
    let list = take c.args.n c.args.h.nodes in
    let b : i < length list = omega (arith, length-take-le c.args.n c.args.h.nodes) in
    let e = c.first_to.ensures ∙ ap (λ (q : Request). firstTo (of_eclipse q)) c.request-q.ensures in
    (length-set c.loop-i.tos i _ ∙ c.loop-i.invariant.0, copy_step (to_of c.args.e) list c.loop-i.tos i _ (omega arith) b e c.loop-i.invariant.1)

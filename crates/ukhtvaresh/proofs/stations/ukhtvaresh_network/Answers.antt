-- `ukhtvaresh::stations::ukhtvaresh_network` meets its contract: what is gathered holds the list, so that what `told`
-- says of every list that is held, it says of this one.
use Rattle.std.proofs.Common.{◌≡◌, length, sym, subst}
use Rattle.clock_network.specs.declared.stations.Held.{Held}
use Rattle.clock_network.specs.Nodes.{Holds}
use Rattle.clock_network.specs.Held.{least64, held_of}
use Rattle.clock_network.specs.laws.HeldLaws.{held-holds}
use Rattle.ukhtvaresh.proofs.stations.ukhtvaresh_network.Goals as goal

pub returns : goal.returns
returns c =
    let l = c.args.stations.now in
    let e : c.gathered.result ≡ held_of l (least64 (length l)) = c.gathered.ensures in
    let a = c.told.ensures l (subst (λ (h : Held). Holds h l) (sym e) (held-holds l)) in
    (a.is-number, a.is_value, a.is_steps, a.is_room)

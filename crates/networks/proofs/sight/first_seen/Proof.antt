-- `networks::sight::first_seen` meets its contract: the place found is that of the smallest "to", and past the list
-- there is no number.
use mathlib.Core.Path.{◌≡◌, sym, ap, ◌∙◌, subst}
use mathlib.Core.List.{List}
use Prim.Native.Nat.{ℕ}
use native.Mathlib.Omega.{arith}
use borrow.Author.Rules.{rules}
use lib.IntN.{nat_abs}
use lib.ListN.{length, get_or, take}
use lib.Seq.{get_or-take, length-take-le}
use mir.Syntax.{w64}
use mir.Val.{SFits}
use mir.ValLaws.{to_z-of_z}
use Rattle.rounding.specs.laws.Order.{zs}
use Rattle.rounding.specs.laws.Code.{cast_unsigned}
use Rattle.requests.specs.Requests.{of_eclipse}
use Rattle.requests.specs.RequestLaws.{InLimits}
use Rattle.clock_network.specs.Defined.{earliestOf}
use Rattle.clock_network.specs.declared.stations.Node.{Node}
use Rattle.clock_network.specs.Held.{blank_node}
use Rattle.networks.specs.Enters.{never}
use Rattle.clock_network.specs.Checks.{request_of}
use Rattle.networks.specs.Network.{tos_of}
use Rattle.networks.specs.laws.SightLaws.{named-at, named_none}
use Rattle.networks.proofs.sight.first_seen.Statement.{statement}
use Rattle.networks.proofs.sight.first_seen.Tie as tie

abbrev start : tie.After-first_tos-tos → tie.Start
start c = c.before.before

abbrev list : tie.After-first_tos-tos → List Node
list c = let h = (start c).args.h in take h.count h.nodes

list_counted : (c : tie.After-first_tos-tos) → length (list c) ≡ (start c).args.h.count
list_counted c = let h = (start c).args.h in length-take-le h.count h.nodes (omega (arith, (start c).requires.1, (start c).requires.2))

counted : (c : tie.After-first_tos-tos) → length (take (start c).args.h.count c.first_tos-tos.result) ≡ (start c).args.h.count
counted c = length-take-le (start c).args.h.count c.first_tos-tos.result (omega (arith, (start c).requires.1, c.first_tos-tos.ensures.0))

best-is : (c : tie.After-earliest-best) → c.earliest-best.result ≡ earliestOf (tos_of (start c.before.before).args.e (list c.before.before)) never
best-is c = c.earliest-best.ensures ∙ ap (λ (ts : List ℕ). earliestOf ts never) c.first_tos-tos.ensures.1

-- ---- the station found
module _ (c : tie.After-struct_told-1) where
  abbrev test : tie.Then-best-n
  test = c.before.before.before.before

  abbrev best : tie.After-earliest-best
  best = test.before

  abbrev found : tie.After-first_tos-tos
  found = best.before.before

  abbrev there : Node
  there = get_or (start found).args.h.nodes best.earliest-best.result blank_node

  in_list : get_or (list found) best.earliest-best.result blank_node ≡ there
  in_list = let h = (start found).args.h in get_or-take h.count h.nodes best.earliest-best.result blank_node test.if-best-n.true

  fits : SFits w64 there.station.number
  fits = record { sfits = c.struct_told-1.given.0.1 }

  within : InLimits (of_eclipse (request_of (start found).args.e there.station))
  within =
      subst (λ (n : Node). InLimits (of_eclipse (request_of (start found).args.e n.station))) in_list
      ((start found).requires.3 best.earliest-best.result (omega (arith, test.if-best-n.true, list_counted found)))

cast-result : tie.Need-overflow_cast-result
cast-result c = cast_unsigned (there c).station.number (fits c) (omega (arith, zs, (within c).station.number.0))

returns : tie.Need-returns-then-best-n
returns c =
    ap nat_abs (to_z-of_z w64 (there c).station.number (fits c))
    ∙ (ap (λ (n : Node). nat_abs n.station.number) (sym (in_list c)) ∙ sym (named-at (start (found c)).args.e (list (found c)) _ (best-is (best c))))

returns-2 : tie.Need-returns
returns-2 c =
    let b = c.before in
    let f = b.before.before in
    sym (named_none (start f).args.e (list f) _ (best-is b) (omega (arith, c.if-best-n.false, list_counted f)))

pub first_seen_spec : {M : Type 1} → statement M
first_seen_spec =
    tie.close
    (tie.spec (λ c κs. c.requires) (λ c. search rules) (λ c. sym (counted c.before))
    (λ c κs. search rules) (λ c. search rules) (λ c. search rules) cast-result returns returns-2)

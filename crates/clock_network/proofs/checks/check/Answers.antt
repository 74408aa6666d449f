-- `clock_network::checks::check` meets its contract: 1 and 2 are the first station's, and what is held is the list.
use Rattle.std.proofs.Common.{rules, ◌≡◌, ◌<◌, ◌≤◌, List, length, get_or, take, arith, sym, ap, ◌∙◌, Result, Err}
use Rattle.requests.specs.Requests as Requests
use Rattle.requests.specs.Requests.{of_eclipse}
use Rattle.sheet_types.specs.declared.refusals.Refusal.{Refusal}
use Rattle.clock_network.specs.declared.stations.Node.{Node}
use Rattle.clock_network.specs.declared.stations.Held.{Held}
use Rattle.clock_network.specs.declared.checks.Eclipse.{Eclipse}
use Rattle.clock_network.specs.Held.{blank_node}
use Rattle.clock_network.specs.Nodes.{number_of, clock_of, Holds}
use Rattle.clock_network.specs.laws.HeldLaws.{listed, first-node, part}
use Rattle.clock_network.specs.Checks.{request_of, stations_checked, checked}
use Rattle.clock_network.specs.CheckLaws.{size_in, checked-size, checked-alone, checked-stations, checked-clocks}
use Rattle.clock_network.proofs.checks.check.Goals as goal

pub returns-then-not-sized : goal.returns-then-not-sized
returns-then-not-sized c l k = sym (checked-size c.args.e l (rw (sym k.count) c.if-not-sized.true))

-- What the first station's request and all stations are refused for, of a list that the array holds.
module _ (e : Eclipse) (h : Held) (sized : (1 ≤ h.count) × (h.count ≤ 64)) (l : List Node) (k : Holds h l) where
  low : 0 < length l
  low = omega (arith, k.count, sized.0)

  high : length l ≤ 64
  high = omega (arith, k.count, sized.1)

  first : {r : Result Unit Refusal} → r ≡ Requests.checked (of_eclipse (request_of e (get_or h.nodes 0 blank_node).station))
      → Requests.checked (of_eclipse (request_of e (get_or l 0 blank_node).station)) ≡ r
  first f =
      ap (λ (n : Node). Requests.checked (of_eclipse (request_of e n.station))) (first-node h l k sized.1 sized.0)
      ∙ sym f

  all : {r : Result Unit Refusal} → r ≡ stations_checked 0 (take h.count h.nodes) → stations_checked 0 l ≡ r
  all f = ap (stations_checked 0) (sym (listed h l k sized.1)) ∙ sym f

pub returns-in_err-check_first : goal.returns-in_err-check_first
returns-in_err-check_first c l k =
    let s = size_in c.args.h.count (rw c.if-not-sized.false) in
    let e = c.args.e in
    let h = c.args.h in
    let r : Err c.in_err-check_first.field-0.0 ≡ checked e l = sym (checked-alone e l (low e h s l k) (high e h s l k) _ (first e h s l k c.check_first.ensures ∙ c.in_err-check_first.was)) in
    search (rules, r)

pub returns-in_err-check_stations : goal.returns-in_err-check_stations
returns-in_err-check_stations c l k =
    let s = size_in c.args.h.count (rw c.if-not-sized.false) in
    let e = c.args.e in
    let h = c.args.h in
    let r : Err c.in_err-check_stations.field-0.0 ≡ checked e l = sym (checked-stations e l (low e h s l k) (high e h s l k) (first e h s l k c.check_first.ensures ∙ c.in_ok-check_first.was) _ (all e h s l k c.check_stations.ensures ∙ c.in_err-check_stations.was)) in
    search (rules, r)

pub returns : goal.returns
returns c l k =
    let s = size_in c.args.h.count (rw c.if-not-sized.false) in
    let e = c.args.e in
    let h = c.args.h in
    c.check_clocks.ensures
    ∙ rw (part h l k s.1 number_of c.numbers-numbers.result c.numbers-numbers.ensures, part h l k s.1 clock_of c.clocks-clocks.result c.clocks-clocks.ensures)
    (sym (checked-clocks e l (low e h s l k) (high e h s l k) (first e h s l k c.check_first.ensures ∙ c.in_ok-check_first.was) (all e h s l k c.check_stations.ensures ∙ c.in_ok-check_stations.was)))

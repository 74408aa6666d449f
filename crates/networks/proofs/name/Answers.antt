-- `networks::name` meets its contract: a list that is not refused has every station within its limits.
use Rattle.std.proofs.Common.{◌≡◌, ◌≤◌, List, length, take, arith, sym, ap, ◌∙◌, subst, Result, Ok}
use Rattle.sheet_types.specs.declared.refusals.Refusal.{Refusal}
use Rattle.sine_table.specs.Table.{Sines}
use Rattle.sine_table.specs.laws.RoomLaws.{filled-sines}
use Rattle.requests.specs.Admission.{sines_after}
use Rattle.clock_network.specs.Defined.{firstRepeat, steps_of}
use Rattle.clock_network.specs.declared.stations.Node.{Node}
use Rattle.clock_network.specs.declared.stations.Held.{Held}
use Rattle.clock_network.specs.declared.checks.Eclipse.{Eclipse}
use Rattle.clock_network.specs.Nodes.{numbers_of, clocks_of, Holds}
use Rattle.clock_network.specs.laws.HeldLaws.{some-list, listed}
use Rattle.clock_network.specs.Checks.{checked}
use Rattle.clock_network.specs.CheckLaws.{AllWithin, all-within, at_most, once, accepted-14, clocks-accepted}
use Rattle.networks.specs.Network.{named}
use Rattle.networks.specs.AnswerLaws.{Answered, by-named}
use Rattle.networks.proofs.name.Goals as goal

-- An array that holds a list, which is not refused.
module _ (e : Eclipse) (h : Held) (sized : length h.nodes ≡ 64) {r : Result Unit Refusal} (check : (l : List Node) → Holds h l → r ≡ checked e l) (was : r ≡ Ok tt) where
  accepted : (l : List Node) → Holds h l → checked e l ≡ Ok tt
  accepted l k = sym (check l k) ∙ was

  -- some list that it holds
  abbrev list : List Node
  list = (some-list h sized).0

  abbrev holds : Holds h list
  holds = (some-list h sized).1

  ok : checked e list ≡ Ok tt
  ok = accepted list holds

  few : h.count ≤ 64
  few = omega (arith, holds.count, at_most _ list ok)

  own : take h.count h.nodes ≡ list
  own = listed h list holds few

  single : firstRepeat (numbers_of (take h.count h.nodes)) ≡ length (numbers_of (take h.count h.nodes))
  single =
      subst (λ (l : List Node). firstRepeat (numbers_of l) ≡ length (numbers_of l)) (sym own)
      (once (numbers_of list) (clocks_of list) (accepted-14 (numbers_of list) (clocks_of list) (clocks-accepted _ list ok)))

  within : AllWithin e (take h.count h.nodes)
  within = subst (AllWithin e) (sym own) (all-within _ list ok)

pub tell_steps-requires-clause-count_bound : goal.tell_steps-requires-clause-count_bound
tell_steps-requires-clause-count_bound c =
    (few _ c.args.h c.requires.1 c.check.ensures c.in_ok-check.was, c.requires.1, c.requires.2)

pub tell_steps-requires-clause-nodes_value : goal.tell_steps-requires-clause-nodes_value
tell_steps-requires-clause-nodes_value c =
    single _ c.args.h c.requires.1 c.check.ensures c.in_ok-check.was

pub first_seen-requires : goal.first_seen-requires
first_seen-requires c =
    let r = sym c.fill_sines.ensures.answer ∙ c.in_ok-fill_sines.was in
    let s : Sines c.fill_sines.new.sines = subst Sines (sym (c.fill_sines.ensures.sines ∙ ap (λ (x : Result Unit Refusal). sines_after x c.args.sines.now) r)) (filled-sines c.args.sines.now) in
    let f = few _ c.args.h c.requires.1 c.check.ensures c.in_ok-check.was in
    (s, f, c.requires.1, within _ c.args.h c.requires.1 c.check.ensures c.in_ok-check.was)

pub returns : goal.returns
returns c l k =
    let h = c.args.h in
    let e = listed h l k (few _ h c.requires.1 c.check.ensures c.in_ok-check.was) in
    subst (λ (x : Eclipse). Answered x l c.args.sines.now c.args.steps.now (Ok c.first_seen.result) c.fill_sines.new.sines c.tell_steps.new.steps) c.eclipse_from-e.ensures
    (by-named _ l _ _ (sym (c.check.ensures l k) ∙ c.in_ok-check.was) (sym c.fill_sines.ensures.answer ∙ c.in_ok-fill_sines.was)
    (c.first_seen.ensures ∙ ap (named _) e) c.fill_sines.ensures.sines (c.tell_steps.ensures ∙ ap (λ (m : List Node). steps_of (numbers_of m) (clocks_of m)) e))

-- `networks::first_contact::first_enter` meets its contract: the first enter of what is left at the cursor is that of
-- all.
use Rattle.std.proofs.Common.{◌≡◌, ◌+◌, ◌<◌, map, arith, sym, ap, ◌∙◌, nat_abs, w64, to_z, of_z, rules}
use Rattle.requests.specs.Windows.{second_count}
use Rattle.requests.specs.WindowLaws.{second-size}
use Rattle.run_length.specs.Runs.{decoded}
use Rattle.contacts.specs.laws.Shifted.{shifted}
use Rattle.contacts.specs.Step.{entries_from}
use Rattle.contacts.specs.laws.StepLaws.{all-at-start, at-start, Took, took}
use Rattle.sheet_format.specs.StoredSeconds.{stored}
use Rattle.sheet_format.specs.laws.StoredSecondLaws.{stored-later}
use Rattle.networks.specs.Enters.{first_enter}
use Rattle.networks.specs.laws.EnterLaws.{enter-first}
use Rattle.networks.proofs.first_contact.first_enter.Goals as goal

pub loop-entry-init : goal.loop-entry-init
loop-entry-init c = (at-start 0 _ 0 c.requires.1, ap (λ es. first_enter (map (shifted (stored c.args.w.first)) es)) (all-at-start (decoded 0 c.args.runs.now)))

pub store_second-requires : goal.store_second-requires
store_second-requires c =
    let q : to_z w64 (of_z w64 c.nth_second-t.result) ≡ c.nth_second-t.result = search rules in
    let t : Took 0 c.args.runs.now c.loop-entry.c.at c.in-Some.entry c.in-Some.next = took _ _ _ _ _ _ c.step.ensures c.in-Some.is in
    let inside : c.to_of-to.result < second_count c.args.w = omega (arith, c.to_of-to.ensures, t.inside, c.requires.2) in
    rw q (omega (arith, ap nat_abs c.nth_second-t.ensures, second-size c.args.w c.requires.0 c.to_of-to.result inside))

pub returns-then-enters : goal.returns-then-enters
returns-then-enters c =
    let w = c.args.w in
    let q : to_z w64 (of_z w64 c.nth_second-t.result) ≡ c.nth_second-t.result = search rules in
    let t : Took 0 c.args.runs.now c.loop-entry.c.at c.in-Some.entry c.in-Some.next = took _ _ _ _ _ _ c.step.ensures c.in-Some.is in
    c.store_second.ensures.0
    ∙ ap stored (q ∙ c.nth_second-t.ensures)
    ∙ stored-later w.first c.to_of-to.result c.requires.0.low
    ∙ ap (λ n. stored w.first + n) c.to_of-to.ensures
    ∙ sym (enter-first (stored w.first) c.in-Some.entry (entries_from (decoded 0 c.args.runs.now) c.in-Some.next.at) (sym c.is_enter-enters.ensures ∙ c.if-enters.true))
    ∙ sym (ap (λ es. first_enter (map (shifted (stored w.first)) es)) t.rest)
    ∙ c.loop-entry.invariant.1

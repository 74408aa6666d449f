-- The loop of `networks::first_contact::first_enter`: the first enter of what is left at the cursor is that of all.
use Rattle.std.proofs.Common.{◌≡◌, ◌-◌, length, map}
use Rattle.run_length.specs.Runs.{decoded}
use Rattle.contacts.specs.Entries.{entries}
use Rattle.contacts.specs.laws.Shifted.{shifted}
use Rattle.contacts.specs.Step.{entries_from, At}
use Rattle.sheet_format.specs.StoredSeconds.{stored}
use Rattle.networks.specs.Enters.{first_enter}
use Rattle.networks.proofs.first_contact.first_enter.Given as goal

abbrev pub invariant-loop-entry : goal.invariant-loop-entry
invariant-loop-entry l =
    let b = stored l.w.first in
    let s = decoded 0 l.runs in
    At 0 l.runs l.c × (first_enter (map (shifted b) (entries_from s l.c.at)) ≡ first_enter (map (shifted b) (entries s)))

abbrev pub decreases-loop-entry : goal.decreases-loop-entry
decreases-loop-entry l = length (decoded 0 l.runs) - l.c.at

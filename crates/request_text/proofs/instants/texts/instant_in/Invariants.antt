-- The loop of `request_text::instants::texts::instant_in`: what is told of the lines so far is known.
use Rattle.std.proofs.Common.{◌≡◌, ◌+◌, Result, Ok, None, ℕ, Option}
use Rattle.request_text.specs.declared.instants.Wrong.{Wrong}
use Rattle.calendar.specs.declared.Instant.{Instant}
use Rattle.tokens.specs.Text.{lines_of}
use Rattle.request_text.specs.TextLines.{lines_left}
use Rattle.request_text.specs.Told.{over_lines, told_after}
use Rattle.request_text.proofs.instants.texts.instant_in.Given as goal

abbrev pub invariant-loop-i : goal.invariant-loop-i
invariant-loop-i l =
    (goal.iterator-loop-i).can_next l.i-iterator × (goal.iterator-loop-i).is_finite l.i-iterator
    × (over_lines (Result (Option Instant) (ℕ × Wrong)) told_after (lines_of l.text) 1 (Ok None) ≡ over_lines (Result (Option Instant) (ℕ × Wrong)) told_after (lines_left l.i-iterator.iter) (l.i-iterator.count + 1) l.told)

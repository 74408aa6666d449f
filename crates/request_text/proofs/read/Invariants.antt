-- The loop of `request_text::read`: the lines so far were taken.
use Rattle.request_text.specs.TextLines.{lines_left}
use Rattle.request_text.specs.laws.TypingLaws.{Walked}
use Rattle.request_text.proofs.read.Given as goal

abbrev pub invariant-loop-words : goal.invariant-loop-words
invariant-loop-words l =
    (goal.iterator-loop-words).can_next l.words-iterator × (goal.iterator-loop-words).is_finite l.words-iterator
    × Walked l.shape l.text l.marks l.found (lines_left l.words-iterator) l.line

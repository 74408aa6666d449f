-- `request_text::read` meets its contract: the lines so far were taken, so the reading is that of those left (`Walked`).
use Rattle.std.proofs.Common.{sym, ◌∙◌, rules, arith}
use Rattle.std.proofs.lemmas.Grind.{common_steps}
use Rattle.request_text.specs.laws.LineLaws.{number-room}
use Rattle.request_text.specs.laws.TypingLaws.{Placed, placed_done, typing_start, ends, line_told, line_taken}
use Rattle.request_text.proofs.read.Goals as goal

pub loop-words-init : goal.loop-words-init
loop-words-init c = (
  tt,
  tt,
  rw c.count_of-required.ensures
      (typing_start _ _ _ _ _ c.requires.0 c.requires.1 (rw c.into_iter-words-iterator.ensures.into_iter_gives c.of-words-items.ensures)),
)

pub note-requires : goal.note-requires
note-requires c =
    let w = c.loop-words.invariant.2 in
    (w.fields ∙ sym w.marked, number-room _ _ _ _ c.number_in-given.ensures w.marked)

pub returns-in_err-map_err : goal.returns-in_err-map_err
returns-in_err-map_err c =
    let noted = rw c.number_in-given.ensures at c.note.ensures.value in
    let p : Placed c.loop-words.line c.note.result c.map_err.result = record { fault = λ f. grind (arith, common_steps); done = grind (arith, common_steps) } in
    let r = line_told _ _ _ _ _ _ c.loop-words.invariant.2 _ _ c.in-Some.ensures.steps _ _ c.note.new.numbers (rw noted at p) c.in_err-map_err.was in
    search (rules, r)

pub loop-words-preserved : goal.loop-words-preserved
loop-words-preserved c =
    let w = c.loop-words.invariant.2 in
    let p : Placed c.loop-words.line c.note.result c.map_err.result = record { fault = λ f. grind (arith, common_steps); done = grind (arith, common_steps) } in
    let noted = rw c.number_in-given.ensures at c.note.ensures.value in
    let marks = rw c.number_in-given.ensures at c.note.ensures.marks_after in
    let numbers = rw c.number_in-given.ensures at c.note.ensures.numbers_after in (
      tt,
      tt,
      line_taken _ _ _ _ _ _ w _ _ c.in-Some.ensures.steps _ _ (sym noted ∙ placed_done _ _ _ p c.in_ok-map_err.was) marks numbers
          (c.note.auto.marks ∙ w.marked) (c.note.auto.numbers ∙ w.fields),
    )

pub returns : goal.returns
returns c =
    let all = rw c.count_of-required.ensures at c.complete.ensures in
    let p : Placed c.loop-words.line c.complete.result c.map_err-2.result = record { fault = λ f. grind (arith, common_steps); done = grind (arith, common_steps) } in
    ends _ _ _ _ _ _ c.loop-words.invariant.2 c.in-None.ensures.steps.0 _ (rw all at p)

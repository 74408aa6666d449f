-- `network_text::read` meets its contract: the lines so far were taken, so the reading is that of those left (`Walked`).
use Rattle.std.proofs.Common.{List, ℕ, length, sym, ap, ◌∙◌, arith, length-take-le, Result}
use Rattle.request_text.specs.declared.Fault as request
use Rattle.network_text.specs.declared.Reading.{Reading}
use Rattle.network_text.specs.Typing.{listed_by}
use Rattle.network_text.specs.laws.TypingLaws.{answer_by, walked_start, walked_count, read-end-by, line_refused, line_taken}
use Rattle.network_text.proofs.read.Goals as goal

pub loop-words-init : goal.loop-words-init
loop-words-init c = (
  tt,
  tt,
  walked_start _ _ _ _ _ c.requires.0 c.requires.1 c.empty-held.ensures (rw c.into_iter-words-iterator.ensures.into_iter_gives c.of-words-items.ensures),
)

pub take-reading-requires : goal.take-reading-requires
take-reading-requires c =
    let w = c.loop-words.invariant.2 in
    let more = ap (λ (l : List (List ℕ)). length l) c.in-Some.ensures.steps in
    (w.marked, w.fields, omega (arith, walked_count _ _ _ _ _ _ w, w.lines, more))

pub returns-then-is_err : goal.returns-then-is_err
returns-then-is_err c =
    let answered = ap (λ (x : Reading). x.answer) c.take-reading.ensures.value in
    line_refused _ _ _ _ _ _ c.loop-words.invariant.2 _ _ c.in-Some.ensures.steps _ _ _ answered (sym c.is_err.ensures.value ∙ c.if-is_err.true)

pub loop-words-preserved : goal.loop-words-preserved
loop-words-preserved c =
    let w = c.loop-words.invariant.2 in
    let taken = c.take-reading.ensures in
    let answered = ap (λ (x : Reading). x.answer) taken.value in
    let stations = ap (λ (x : Reading). x.held) taken.value in (
      tt,
      tt,
      line_taken _ _ _ _ _ _ w _ _ c.in-Some.ensures.steps _ _ _ _ answered (sym c.is_err.ensures.value ∙ c.if-is_err.false) stations taken.marks_after
          taken.numbers_after (c.take-reading.auto.marks ∙ w.marked) (c.take-reading.auto.numbers ∙ w.fields),
    )

pub slice_bounds-complete-end-2 : goal.slice_bounds-complete-end-2
slice_bounds-complete-end-2 c = sym (length-take-le 29 c.loop-words.marks (omega (arith, c.loop-words.invariant.2.marked)))

pub returns : goal.returns
returns c =
    read-end-by _ _ _ _ _ _ c.loop-words.invariant.2 c.in-None.ensures.steps.0 _
    (c.noted_at-answer.ensures ∙ ap (λ (m : Result Unit request.Fault). answer_by (listed_by m) c.loop-words.line) c.complete-all.ensures)

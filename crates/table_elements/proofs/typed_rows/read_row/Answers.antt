-- `table_elements::typed_rows::read_row` meets its contract: the words before byte `at` are taken, and their numbers
-- stored.
use Rattle.std.proofs.Common.{◌≡◌, sym, ap, ◌∙◌, take, rules, Err}
use Rattle.table_elements.specs.Reading.{line_of}
use Rattle.rounding.specs.laws.Code.{read_back}
use Rattle.table_elements.specs.NumberLaws.{number_size}
use Rattle.table_elements.specs.ReadingLaws.{answer_of, fault_of, taking-start, word-within, taking-end, taking-faulty, taking-more, taking-turn}
use Rattle.table_elements.proofs.typed_rows.read_row.Goals as goal

pub loop-content-init : goal.loop-content-init
loop-content-init c = taking-start _ _ _ c.requires (ap (λ k. take k c.args.line.now) c.run-said.ensures.0)

pub returns-then-from-end-clause-value : goal.returns-then-from-end-clause-value
returns-then-from-end-clause-value c = c.line_with.ensures ∙ (taking-end _ _ _ _ _ c.loop-content.invariant _ c.next_word-word.ensures c.if-from-end.true).0

pub returns-then-from-end-clause-row : goal.returns-then-from-end-clause-row
returns-then-from-end-clause-row c = (taking-end _ _ _ _ _ c.loop-content.invariant _ c.next_word-word.ensures c.if-from-end.true).1

pub slice_bounds-number_of-end : goal.slice_bounds-number_of-end
slice_bounds-number_of-end c = let w = word-within _ _ _ _ _ c.loop-content.invariant _ c.next_word-word.ensures in search (rules, w)

pub returns-in_err-value-clause-value : goal.returns-in_err-value-clause-value
returns-in_err-value-clause-value c =
    let r : Err c.in_err-value.field-0.0 ≡ answer_of (line_of c.args.line.now) =
    sym (ap fault_of c.in_err-value.was)
    ∙ (taking-faulty _ _ _ _ _ c.loop-content.invariant _ c.next_word-word.ensures c.if-from-end.false _ c.number_of.ensures _ c.in_err-value.was).0 in
    search (rules, r)

pub returns-in_err-value-clause-row : goal.returns-in_err-value-clause-row
returns-in_err-value-clause-row c =
    (taking-faulty _ _ _ _ _ c.loop-content.invariant _ c.next_word-word.ensures c.if-from-end.false _ c.number_of.ensures _ c.in_err-value.was).1

pub returns-then-column-eq6-clause-value : goal.returns-then-column-eq6-clause-value
returns-then-column-eq6-clause-value c = (taking-more _ _ _ _ _ c.loop-content.invariant _ c.next_word-word.ensures c.if-from-end.false _ c.number_of.ensures _ c.in_ok-value.was c.if-column-eq6.true).0

pub returns-then-column-eq6-clause-row : goal.returns-then-column-eq6-clause-row
returns-then-column-eq6-clause-row c = (taking-more _ _ _ _ _ c.loop-content.invariant _ c.next_word-word.ensures c.if-from-end.false _ c.number_of.ensures _ c.in_ok-value.was c.if-column-eq6.true).1

pub loop-content-preserved : goal.loop-content-preserved
loop-content-preserved c =
    rw (read_back c.in_ok-value.value (number_size _ c.in_ok-value.value (sym c.number_of.ensures ∙ c.in_ok-value.was)) tt)
    (taking-turn _ _ _ _ _ c.loop-content.invariant _ c.next_word-word.ensures c.if-from-end.false _ c.number_of.ensures c.in_ok-value.value c.in_ok-value.was c.if-column-eq6.false)

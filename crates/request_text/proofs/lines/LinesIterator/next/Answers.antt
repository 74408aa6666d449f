-- `next` of `request_text::lines::Lines` gives the first line that is left (`first-line`).
use Rattle.std.proofs.Common.{◌≡◌, ◌+◌, ◌<◌, List, ℕ, ◌∷◌, length, drop, sym, ap, ap₂, ◌∙◌, arith, rules}
use borrow.Author.Tests.{eqb-true, eqb-false}
use Rattle.tokens.specs.Text.{lines_of}
use Rattle.request_text.specs.TextLines.{lines_left}
use Rattle.request_text.specs.laws.TextLineLaws.{first-line, no-lines, after-newline, after-end}
use Rattle.request_text.proofs.lines.LinesIterator.next.Goals as goal
use Rattle.request_text.proofs.lines.LinesIterator.next.Goals.{in-Some, in-None}

pub returns-then-is_empty-clause-steps : goal.returns-then-is_empty-clause-steps
unfolding lines_left
returns-then-is_empty-clause-steps c =
    let none = no-lines c.args.self.now.rest.now (eqb-true _ _ (sym c.is_empty.ensures ∙ c.if-is_empty.true)) in
    (none, none)

-- what is left after the line
left : (c : goal.After-self-1) → c.match-split_first.self.now ≡ drop (c.run-length.result + 1) c.args.self.now.rest.now
left c =
    elim c.match-split_first.branch [
      | in-Some w ↦ rw w.self-is (after-newline c.args.self.now.rest.now c.split_at.result.1.now c.run-length.result c.split_at.ensures.back _ _ w.in-Some.ensures.cases.0)
      | in-None w ↦ rw w.self-is (after-end c.args.self.now.rest.now c.split_at.result.1.now c.run-length.result c.split_at.ensures.back w.in-None.ensures.cases)
    ]

step : (c : goal.After-self-1) → lines_of c.args.self.now.rest.now ≡ c.split_at.result.0.now ∷ lines_of c.match-split_first.self.now
step c =
    let some : 0 < length c.args.self.now.rest.now = (let no = eqb-false _ _ (sym c.is_empty.ensures ∙ c.if-is_empty.false) in omega (arith, no)) in
    first-line c.args.self.now.rest.now c.run-length.result some c.run-length.ensures.0
    ∙ ap₂ ◌∷◌ (sym c.split_at.ensures.front) (ap lines_of (sym (left c)))

pub returns-clause-steps : goal.returns-clause-steps
unfolding lines_left
returns-clause-steps c = step c

pub returns-clause-goes : goal.returns-clause-goes
unfolding lines_left
returns-clause-goes c = let shorter = ap (λ (l : List (List ℕ)). length l) (step c) in search rules

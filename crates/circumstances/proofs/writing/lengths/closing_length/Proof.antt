-- `circumstances::writing::lengths::closing_length` meets its contract: the sizes of the two or three records.
use mathlib.Core.Path.{sym, ◌∙◌}
use native.Mathlib.Omega.{arith}
use borrow.Author.Rules.{rules}
use Rattle.local_circumstances.specs.laws.Lengths.{shared-length, plain-length}
use Rattle.local_circumstances.specs.Course.{course_of}
use Rattle.circumstances.proofs.writing.lengths.closing_length.Statement.{statement}
use Rattle.circumstances.proofs.writing.lengths.closing_length.Tie as tie

returns : tie.Need-returns-then-shared
returns c =
    let t = c.before in
    let s = t.before.before in
    let n = shared-length (course_of s.args.o) (sym t.shares-shared.ensures ∙ t.if-shared.true) in
    (omega (arith, n, s.size_of-closest.ensures.0, s.size_of-end.ensures.0, c.size_of-share.ensures.0), omega (arith, s.size_of-closest.ensures.0, s.size_of-end.ensures.0, c.size_of-share.ensures.0))

returns-2 : tie.Need-returns
returns-2 c =
    let s = c.before.before in
    let n = plain-length (course_of s.args.o) (sym c.shares-shared.ensures ∙ c.if-shared.false) in
    (omega (arith, n, s.size_of-closest.ensures.0, s.size_of-end.ensures.0), omega (arith, s.size_of-closest.ensures.0, s.size_of-end.ensures.0))

pub closing_length_spec : {M : Type 1} → statement M
closing_length_spec =
    tie.close
    (tie.spec (λ c κs. search rules) (λ c κs. search rules) (λ c κs. search rules) (λ c κs. search rules)
    (λ c. search rules) (λ c. search rules) returns (λ c. search rules) returns-2)

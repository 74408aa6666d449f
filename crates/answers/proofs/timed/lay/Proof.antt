-- `answers::timed::lay` meets its contract: the text is measured in a buffer of no bytes, and put where the buffer holds
-- it.
use mir.Syntax.{w64}
use mir.ValLaws.{to_z-of_z}
use native.Mathlib.Omega.{arith}
use Rattle.answers.specs.laws.TimedLaws.{laid-refused, laid-short, laid-full}
use borrow.Author.Rules.{rules}
use Rattle.answers.proofs.timed.lay.Statement.{statement}
use Rattle.answers.proofs.timed.lay.Tie as tie

returns : tie.Need-returns-then-out-need
returns c =
    let made = c.before.before.before.before in
    let start = made.before.before.before in
    let a = start.args in
    laid-short a.reference a.deltat a.sky a.answer a.room.now a.out.now _ made.in-Ok.is _ _ _
    (rw (to_z-of_z w64 a.deltat start.ranges.deltat) at c.put_text-need.ensures) (omega arith) c.if-out-need.true

returns-2 : tie.Need-returns-in-Err
returns-2 c =
    let a = c.args in
    laid-refused a.reference a.deltat a.sky a.answer a.room.now a.out.now _ c.in-Err.is

returns-3 : tie.Need-returns-else-out-need
returns-3 c =
    let t = c.before.before.before.before in
    let made = t.before.before.before.before in
    let start = made.before.before.before in
    let a = start.args in
    laid-full a.reference a.deltat a.sky a.answer a.room.now a.out.now _ made.in-Ok.is _ _ _
    (rw (to_z-of_z w64 a.deltat start.ranges.deltat) at t.put_text-need.ensures) (omega arith) t.if-out-need.false _ _
    (rw (to_z-of_z w64 a.deltat start.ranges.deltat) at c.put_text.ensures)

pub lay_spec : {M : Type 1} → statement M
lay_spec =
    tie.close
    (tie.spec (λ c. search rules) (λ c. search rules) (λ c. search rules) (λ c κs. search rules) returns
    (λ c κs. search rules) returns-2 (λ c. search rules) returns-3)

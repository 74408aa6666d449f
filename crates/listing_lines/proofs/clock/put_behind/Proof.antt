-- `listing_lines::clock::put_behind` meets its contract: each arm has what its entry shows.
use mathlib.Core.Path.{◌≡◌, ap}
use native.Mathlib.Omega.{arith}
use mir.Syntax.{w64}
use mir.Val.{to_z, of_z}
use mir.ValLaws.{to_z-of_z}
use Rattle.decimal_text.specs.laws.TextLaws.{put_nil}
use Rattle.decimal_text.specs.laws.RowLaws.{put_as}
use Rattle.listing_lines.specs.Clock.{behind}
use Rattle.listing_lines.specs.laws.ClockLaws.{behind-shown}
use borrow.Author.Rules.{rules}
use Rattle.listing_lines.proofs.clock.put_behind.Statement.{statement}
use Rattle.listing_lines.proofs.clock.put_behind.Tie as tie

read : (c : tie.Start) → to_z w64 (of_z w64 c.args.deltat) ≡ c.args.deltat
read c = to_z-of_z w64 c.args.deltat c.ranges.deltat

returns : tie.Need-returns-in-Nothing
returns c = behind-shown _ _ _ _ c.shown_for-shown.ensures _ c.in-Nothing.is _ _ _ _ (put_nil _ _ (omega arith))

returns-2 : tie.Need-returns-in-InstantLine
returns-2 c =
    let t = c.before.before.before.before in
    behind-shown _ _ _ _ t.shown_for-shown.ensures _ t.in-InstantLine.is _ _ _ _ c.put_instant_line.ensures

returns-3 : tie.Need-returns-in-Times
returns-3 c =
    let t = c.before.before.before.before in
    let a = t.args in
    put_as _ _ _ _ _ _ (ap (λ d. behind a.i d a.entry) (read t.before.before.before))
    (behind-shown _ _ _ _ t.shown_for-shown.ensures _ t.in-Times.is _ _ _ _ c.put_scales.ensures)

pub put_behind_spec : {M : Type 1} → statement M
put_behind_spec =
    tie.close
    (tie.spec (λ c κs. search rules) (λ c. search rules) (λ c. search rules) (λ c κs. search rules)
    (λ c. search rules) (λ c κs. search rules) returns (λ c. search rules) returns-2 (λ c. search rules)
    returns-3)

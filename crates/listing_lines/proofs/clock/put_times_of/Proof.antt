-- `listing_lines::clock::put_times_of` meets its contract: the text by the reference.
use mathlib.Core.Path.{◌≡◌, ap}
use mir.Syntax.{w64}
use mir.Val.{to_z, of_z}
use mir.ValLaws.{to_z-of_z}
use Rattle.decimal_text.specs.laws.RowLaws.{put_as}
use Rattle.listing_lines.specs.Clock.{timed_text}
use Rattle.listing_lines.specs.laws.ClockLaws.{text-off, text_at}
use borrow.Author.Rules.{rules}
use Rattle.listing_lines.proofs.clock.put_times_of.Statement.{statement}
use Rattle.listing_lines.proofs.clock.put_times_of.Tie as tie

read : (c : tie.Start) → to_z w64 (of_z w64 c.args.deltat) ≡ c.args.deltat
read c = to_z-of_z w64 c.args.deltat c.ranges.deltat

returns : tie.Need-returns-in-None
returns c = text-off _ _ _ _ _ _ _ c.in-None.is c.put_entry_text.ensures

returns-2 : tie.Need-returns-in-Some
returns-2 c =
    let a = c.args in
    put_as _ _ _ _ _ _ (ap (λ d. timed_text a.reference d a.entry) (read c.before.before.before.before.before.before))
    (text_at _ _ _ _ _ _ _ _ c.in-Some.is c.put_timed.ensures)

pub put_times_of_spec : {M : Type 1} → statement M
put_times_of_spec =
    tie.close
    (tie.spec (λ c. search rules) (λ c κs. search rules) (λ c. search rules) (λ c κs. search rules)
    (λ c. search rules) returns (λ c. search rules) returns-2)

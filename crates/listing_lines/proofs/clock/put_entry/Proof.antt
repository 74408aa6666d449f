-- `listing_lines::clock::put_entry` meets its contract: the text with its times, the altitude, the end of the line.
use mathlib.Core.Path.{◌≡◌, ap}
use native.Mathlib.Omega.{arith}
use mir.Syntax.{w64}
use mir.Val.{to_z, of_z}
use mir.ValLaws.{to_z-of_z}
use Rattle.decimal_text.specs.laws.RowLaws.{put_as, joined}
use Rattle.listing_lines.specs.Clock.{timed_line}
use borrow.Author.Rules.{rules}
use Rattle.listing_lines.proofs.clock.put_entry.Statement.{statement}
use Rattle.listing_lines.proofs.clock.put_entry.Tie as tie

read : (c : tie.Start) → to_z w64 (of_z w64 c.args.deltat) ≡ c.args.deltat
read c = to_z-of_z w64 c.args.deltat c.ranges.deltat

returns : tie.Need-returns
unfolding timed_line
returns c =
    let seen = c.before.before.before.before.before.before in
    let times = seen.before.before.before.before in
    let s = times.before.before.before in
    put_as _ _ _ _ _ _ (ap (λ d. timed_line s.args.reference d s.args.altitude s.args.entry) (read s))
    (joined (omega arith) (joined (omega arith) times.put_times_of-times.ensures seen.put_altitude-seen.ensures) c.put_end.ensures)

pub put_entry_spec : {M : Type 1} → statement M
put_entry_spec =
    tie.close (tie.spec (λ c κs. search rules) (λ c κs. search rules) (λ c κs. search rules) (λ c. search rules) returns)

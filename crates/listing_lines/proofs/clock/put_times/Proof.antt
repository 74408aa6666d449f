-- `listing_lines::clock::put_times` meets its contract: each arm has the times of its seconds.
use mathlib.Core.Path.{◌≡◌, ap}
use native.Mathlib.Omega.{arith}
use mir.Syntax.{w64}
use mir.Val.{to_z, of_z}
use mir.ValLaws.{to_z-of_z}
use Rattle.decimal_text.specs.laws.RowLaws.{put_as}
use Rattle.listing_lines.specs.Clock.{times_in}
use Rattle.listing_lines.specs.laws.ClockLaws.{times-of-moment, times-of-contact}
use borrow.Author.Rules.{rules}
use Rattle.listing_lines.proofs.clock.put_times.Statement.{statement}
use Rattle.listing_lines.proofs.clock.put_times.Tie as tie

read : (c : tie.Start) → to_z w64 (of_z w64 c.args.deltat) ≡ c.args.deltat
read c = to_z-of_z w64 c.args.deltat c.ranges.deltat

returns : tie.Need-returns-in-Moment
returns c =
    let a = c.args in
    put_as _ _ _ _ _ _ (ap (λ d. times_in a.shown a.i d a.seconds) (read c.before.before.before.before.before.before))
    (times-of-moment _ _ _ _ _ _ c.in-Moment.is _ _ c.put_second.ensures)

returns-2 : tie.Need-returns-in-Contact
returns-2 c =
    let a = c.args in
    put_as _ _ _ _ _ _ (ap (λ d. times_in a.shown a.i d a.seconds) (read c.before.before.before.before.before.before.before.before.before.before))
    (times-of-contact _ _ _ _ _ _ _ c.in-Contact.is _ _ _ _ (omega arith) c.put_second-next.ensures c.put_second-in-Contact.ensures)

pub put_times_spec : {M : Type 1} → statement M
put_times_spec =
    tie.close
    (tie.spec (λ c. search rules) (λ c κs. search rules) (λ c. search rules) (λ c κs. search rules)
    (λ c κs. search rules) (λ c. search rules) returns (λ c. search rules) returns-2)

-- `listing_lines::clock::put_scales` meets its contract: one scale after the other.
use mathlib.Core.Path.{◌≡◌, ap}
use native.Mathlib.Omega.{arith}
use mir.Syntax.{w64}
use mir.Val.{to_z, of_z}
use mir.ValLaws.{to_z-of_z}
use Rattle.decimal_text.specs.laws.RowLaws.{put_as, joined}
use Rattle.listing_lines.specs.Clock.{scales_text}
use borrow.Author.Rules.{rules}
use Rattle.listing_lines.proofs.clock.put_scales.Statement.{statement}
use Rattle.listing_lines.proofs.clock.put_scales.Tie as tie

read : (c : tie.Start) → to_z w64 (of_z w64 c.args.deltat) ≡ c.args.deltat
read c = to_z-of_z w64 c.args.deltat c.ranges.deltat

returns : tie.Need-returns
unfolding scales_text
returns c =
    let first = c.before.before.before.before.before.before.before.before.before.before in
    let a = first.args in
    put_as _ _ _ _ _ _ (ap (λ d. scales_text a.i d a.seconds) (read first.before.before.before))
    (joined (omega arith) (joined (omega arith) first.put_scale-universal.ensures c.put_scale-coordinated.ensures)
    c.put_scale.ensures)

pub put_scales_spec : {M : Type 1} → statement M
put_scales_spec = tie.close (tie.spec (λ c κs. search rules) (λ c κs. search rules) (λ c κs. search rules) (λ c. search rules) returns)

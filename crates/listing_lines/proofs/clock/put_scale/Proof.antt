-- `listing_lines::clock::put_scale` meets its contract: the scale's name and its times, or nothing, by the test.
use mathlib.Core.Path.{◌≡◌, sym, ap, ◌∙◌}
use native.Mathlib.Omega.{arith}
use mir.Syntax.{w64}
use mir.Val.{to_z, of_z}
use mir.ValLaws.{to_z-of_z}
use Rattle.decimal_text.specs.laws.RowLaws.{put_as, joined}
use Rattle.listing_lines.specs.Clock.{scale_text}
use Rattle.listing_lines.specs.laws.ClockLaws.{scale-shown, scale-hidden}
use borrow.Author.Rules.{rules}
use Rattle.listing_lines.proofs.clock.put_scale.Statement.{statement}
use Rattle.listing_lines.proofs.clock.put_scale.Tie as tie

read : (c : tie.Start) → to_z w64 (of_z w64 c.args.deltat) ≡ c.args.deltat
read c = to_z-of_z w64 c.args.deltat c.ranges.deltat

returns : tie.Need-returns-then-shows
returns c =
    let t = c.before.before.before.before.before.before.before.before.before.before.before.before in
    let a = t.args in
    put_as _ _ _ _ _ _ (ap (λ d. scale_text a.shown a.i d a.seconds) (read t.before.before.before))
    (scale-shown _ _ _ _ _ _ (sym t.shows.ensures ∙ t.if-shows.true) _ _
    (joined (omega arith) (joined (omega arith) c.put_byte-blank.ensures c.put_name-name.ensures) c.put_times.ensures))

returns-2 : tie.Need-returns
returns-2 c =
    let a = c.args in
    put_as _ _ _ _ _ _ (ap (λ d. scale_text a.shown a.i d a.seconds) (read c.before.before.before))
    (scale-hidden _ _ _ _ _ _ (sym c.shows.ensures ∙ c.if-shows.false) (omega arith))

pub put_scale_spec : {M : Type 1} → statement M
put_scale_spec =
    tie.close
    (tie.spec (λ c κs. search rules) (λ c κs. search rules) (λ c κs. search rules) (λ c κs. search rules)
    (λ c. search rules) returns returns-2)

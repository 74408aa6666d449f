-- `listing_lines::clock::scales::known` meets its contract: each way out is by the tests that led there.
use mathlib.Core.Path.{◌≡◌, subst}
use lib.IntN.{ℤ, pos, negsuc}
use lib.Signed.{◌≤ℤ◌, ◌<ℤ◌}
use mir.Syntax.{w64}
use mir.Val.{to_z, of_z}
use mir.ValLaws.{to_z-of_z}
use Rattle.rounding.specs.laws.Order.{lt_z_true, lt_z_false}
use Rattle.listing_lines.specs.laws.ClockLaws.{known-below, known-above, known-within}
use Rattle.listing_lines.proofs.clock.scales.known.Statement.{statement}
use Rattle.listing_lines.proofs.clock.scales.known.Tie as tie

read : (c : tie.Start) → to_z w64 (of_z w64 c.args.deltat) ≡ c.args.deltat
read c = to_z-of_z w64 c.args.deltat c.ranges.deltat

returns : tie.Need-returns-then-deltat-ltminus20000
returns c = known-below _ (subst (λ (z : ℤ). z <ℤ negsuc 19999) (read c.before) (lt_z_true _ _ c.if-deltat-ltminus20000.true))

returns-2 : tie.Need-returns-then-deltat-gt20000
returns-2 c = known-above _ (subst (λ (z : ℤ). pos 20000 <ℤ z) (read c.before.before) (lt_z_true _ _ c.if-deltat-gt20000.true))

returns-3 : tie.Need-returns
returns-3 c =
    rw (read c.before.before)
    (known-within _ (subst (λ (z : ℤ). negsuc 19999 ≤ℤ z) (read c.before.before) (lt_z_false _ _ c.if-deltat-ltminus20000.false))
    (subst (λ (z : ℤ). z ≤ℤ pos 20000) (read c.before.before) (lt_z_false _ _ c.if-deltat-gt20000.false)))

pub known_spec : {M : Type 1} → statement M
known_spec = tie.close (tie.spec returns returns-2 returns-3)

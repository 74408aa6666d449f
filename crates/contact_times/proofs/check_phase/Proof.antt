-- `contact_times::check_phase` meets its contract, test by test.
use mathlib.Core.Path.{◌≡◌, ap, subst}
use mathlib.Core.Bool.{true, false}
use native.Mathlib.Omega.{arith}
use borrow.Author.Rules.{rules}
use lib.IntN.{ℤ, pos, nat_abs}
use lib.Signed.{le_z}
use mir.Syntax.{w64}
use mir.Val.{to_z, of_z}
use mir.ValLaws.{to_z-of_z}
use Rattle.rounding.specs.laws.Order.{le_z_true}
use Rattle.contact_times.proofs.laws.ContactLaws.{phase-negative, phase-beyond, phase-within, as_natural}
use Rattle.contact_times.proofs.check_phase.Statement.{statement}
use Rattle.contact_times.proofs.check_phase.Tie as tie

-- the number is read back from its bits
read : (s : tie.Start) → to_z w64 (of_z w64 s.args.phase) ≡ s.args.phase
read s = to_z-of_z w64 s.args.phase s.ranges.phase

not_negative : (c : tie.Then-phase-ge0) → le_z (pos 0) c.args.phase ≡ true
not_negative c = subst (λ (z : ℤ). le_z (pos 0) z ≡ true) (read c.before.before) c.if-phase-ge0.true

cast-if2 : tie.Need-overflow_cast-phase
cast-if2 c =
    let s = c.before.before in
    as_natural s.args.phase s.ranges.phase (le_z_true (pos 0) s.args.phase (not_negative c))

returns : tie.Need-returns-then-phase-count
returns c =
    let b = c.before in
    let a = b.args in
    phase-within a.body a.phase (not_negative b) (omega (arith, c.if-phase-count.true, b.phase_count-count.ensures, ap nat_abs (read b.before.before)))

returns-2 : tie.Need-returns-else-phase-count
returns-2 c =
    let b = c.before in
    let a = b.args in
    phase-beyond a.body a.phase (not_negative b) (omega (arith, c.if-phase-count.false, b.phase_count-count.ensures, ap nat_abs (read b.before.before)))

returns-3 : tie.Need-returns-else-phase-ge0
returns-3 c =
    let s = c.before.before in
    phase-negative s.args.body s.args.phase (subst (λ (z : ℤ). le_z (pos 0) z ≡ false) (read s) c.if-phase-ge0.false)

pub check_phase_spec : {M : Type 1} → statement M
check_phase_spec = tie.close (tie.spec (λ c κs. search rules) cast-if2 returns returns-2 returns-3)

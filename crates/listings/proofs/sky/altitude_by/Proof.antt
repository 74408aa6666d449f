-- `listings::sky::altitude_by` meets its contract: by the sign; it is small, so its opposite fits.
use mathlib.Core.Path.{sym, ap, ◌∙◌}
use mathlib.Core.List.{[], ◌∷◌}
use native.Mathlib.Omega.{arith}
use lib.IntN.{ℤ, pos, nat_abs, ◌-ℤ◌}
use lib.Signed.{◌≤ℤ◌, ◌<ℤ◌}
use Rattle.rounding.specs.Parts.{is_self, is_minus}
use Rattle.rounding.specs.laws.Order.{zs, nonneg_nat_abs}
use Rattle.rounding.specs.laws.Code.{Code, arg, lit, sub, Within, whole, ends, ◌▹◌, fits, runs, unsigned, taken-<, left-<}
use Rattle.listings.specs.laws.SkyLaws.{below-is, above-is}
use Rattle.listings.proofs.sky.altitude_by.Statement.{statement}
use Rattle.listings.proofs.sky.altitude_by.Tie as tie

bounds : (c : tie.Start) → Within (whole c.args.altitude ∷ []) (900 ∷ [])
bounds c = c.requires ▹ ends

abbrev opposed : Code
opposed = sub (lit (pos 0)) (arg 0)

under : (c : tie.Then-altitude-lt0) → c.args.altitude <ℤ pos 0
under c = taken-< (bounds c.before) (arg 0) (lit (pos 0)) tt c.if-altitude-lt0.true

over : (c : tie.Else-altitude-lt0) → pos 0 ≤ℤ c.args.altitude
over c = left-< (bounds c.before) (arg 0) (lit (pos 0)) tt c.if-altitude-lt0.false

opposed-above : (z : ℤ) → z <ℤ pos 0 → pos 0 ≤ℤ (pos 0 -ℤ z)
opposed-above z h = omega (arith, zs, (is_minus (is_self (pos 0)) (is_self z)).is)

returns : tie.Need-returns-then-altitude-lt0
returns c =
    let b = bounds c.before in
    below-is _ _ (under c) (sym (nonneg_nat_abs _ (opposed-above _ (under c)) ∙ ap (λ z. pos (nat_abs z)) (sym (runs b opposed tt))))

returns-2 : tie.Need-returns
returns-2 c = above-is _ _ (over c) (ap nat_abs (runs (bounds c.before) (arg 0) tt))

pub altitude_by_spec : {M : Type 1} → statement M
altitude_by_spec = tie.close (tie.spec (λ c. fits (bounds c.before) opposed tt) (λ c. unsigned (bounds c.before) opposed tt (opposed-above _ (under c))) returns (λ c. unsigned (bounds c.before) (arg 0) tt (over c)) returns-2)

-- `sheet_format::kinds::seconds::store_second` meets its contract: a second of the window's range plus 10,800 is a
-- natural number.
use mathlib.Core.Path.{◌≡◌, sym, ap, ◌∙◌}
use mathlib.Core.List.{[], ◌∷◌}
use native.Mathlib.Omega.{arith}
use lib.IntN.{pos, neg_ℤ, nat_abs, ◌+ℤ◌}
use lib.Signed.{◌≤ℤ◌}
use Rattle.rounding.specs.Parts.{sum, opposite}
use Rattle.rounding.specs.laws.Order.{zs, neg_nat_abs}
use Rattle.rounding.specs.laws.Code.{Code, arg, lit, add, run, Within, whole, ends, ◌▹◌, fits, runs, within, unsigned}
use Rattle.sheet_format.specs.StoredSeconds.{stored}
use Rattle.sheet_format.specs.laws.StoredSecondLaws.{stored_is}
use Rattle.sheet_format.proofs.kinds.seconds.store_second.Statement.{statement}
use Rattle.sheet_format.proofs.kinds.seconds.store_second.Tie as tie

bounds : (c : tie.Start) → Within (whole c.args.second ∷ []) (10800 ∷ [])
bounds c = c.requires ▹ ends

abbrev shifted : Code
shifted = add (arg 0) (lit (pos 10800))

low : (c : tie.Start) → neg_ℤ (pos 10800) ≤ℤ c.args.second
low c = neg_nat_abs c.args.second c.requires

cast-result : tie.Need-overflow_cast-result
cast-result c =
    let h : pos 0 ≤ℤ (c.args.second +ℤ pos 10800) = omega (arith, zs, low c, (sum c.args.second (pos 10800)).is, (opposite (pos 10800)).is) in
    ((unsigned (bounds c) shifted tt h).0, record { fits = omega (arith, within (bounds c) shifted 21600 tt) })

returns : tie.Need-returns
returns c =
    let z : nat_abs (run (whole c.args.second ∷ []) shifted) ≡ stored c.args.second =
    ap nat_abs (runs (bounds c) shifted tt) ∙ sym (ap nat_abs (stored_is c.args.second (low c))) in
    (z, omega (arith, within (bounds c) shifted 21600 tt))

pub store_second_spec : {M : Type 1} → statement M
store_second_spec = tie.close (tie.spec (λ c. fits (bounds c) shifted tt) cast-result returns)

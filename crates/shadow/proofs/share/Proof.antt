-- `shadow::share` meets its contract: below 0 there is nothing, and elsewhere the machine's quotient is the floor.
use mathlib.Core.Path.{◌≡◌, refl, sym, ap, ◌∙◌}
use mathlib.Core.List.{[], ◌∷◌}
use native.Mathlib.Omega.{arith}
use lib.IntN.{ℤ, pos, negsuc, nat_abs, ◌*ℤ◌}
use lib.Signed.{◌≤ℤ◌, ◌<ℤ◌, quot_z}
use Rattle.rounding.specs.laws.Order.{zs}
use Rattle.rounding.specs.laws.Code.{Code, arg, lit, mul, quo, Within, whole, ends, ◌▹◌, fits, runs, above, unsigned, taken-<, left-<}
use Rattle.shadow_geometry.specs.Magnitude.{millionths}
use Rattle.shadow_geometry.proofs.laws.MagnitudeLaws.{millionths-neg}
use Rattle.shadow.proofs.share.Statement.{statement}
use Rattle.shadow.proofs.share.Tie as tie

bounds : (c : tie.Start) → Within (whole c.args.n ∷ whole c.args.d ∷ []) (2000000000 ∷ 2000000000 ∷ [])
bounds c = c.requires.0 ▹ c.requires.1 ▹ ends

abbrev product : Code
product = mul (lit (pos 1000000)) (arg 0)

abbrev quotient : Code
quotient = quo product (arg 1)

floor-is : (n d : ℤ) → pos 0 ≤ℤ n → pos 0 <ℤ d → quot_z (pos 1000000 *ℤ n) d ≡ pos (millionths n d)
floor-is (pos n) (pos d) h k = refl
floor-is (pos n) (negsuc d) h k = absurd (omega (arith, zs))
floor-is (negsuc n) d h k = absurd (omega (arith, zs))

quotient_is : (c : tie.Else-n-lt0) → quot_z (pos 1000000 *ℤ c.args.n) c.args.d ≡ pos (millionths c.args.n c.args.d)
quotient_is c = floor-is c.args.n c.args.d (left-< (bounds c.before) (arg 0) (lit (pos 0)) tt c.if-n-lt0.false) c.requires.2

returns : tie.Need-returns-then-n-lt0
returns c = sym (millionths-neg c.args.n c.args.d (taken-< (bounds c.before) (arg 0) (lit (pos 0)) tt c.if-n-lt0.true))

div-q : tie.Need-nonzero_div-q
div-q c = (above (bounds c.before) (arg 1) tt c.requires.2, fits (bounds c.before) quotient tt)

cast-result : tie.Need-overflow_cast-result
cast-result c =
    let w = bounds c.before in (
      (unsigned w quotient tt (rw (quotient_is c) (omega (arith, zs)))).0,
      record {
        fits = omega
            (arith, ap nat_abs (runs w quotient tt ∙ quotient_is c), c.requires.3);
      },
    )

returns-2 : tie.Need-returns
returns-2 c = ap nat_abs (runs (bounds c.before) quotient tt ∙ quotient_is c)

pub share_spec : {M : Type 1} → statement M
share_spec = tie.close (tie.spec returns (λ c. fits (bounds c.before) product tt) div-q cast-result returns-2)

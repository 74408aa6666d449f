-- `element_fits::least_squares::second` meets its contract: sums and multiples of seven values fit.
use mathlib.Core.Path.{ap}
use native.Mathlib.Omega.{arith}
use lib.IntN.{pos, nat_abs}
use Rattle.rounding.specs.laws.Code.{Code, arg, lit, add, sub, mul, fits, runs, sized}
use Rattle.element_fits.specs.LeastSquares.{second}
use Rattle.element_fits.proofs.least_squares.Bounds.{bounds}
use Rattle.element_fits.proofs.least_squares.second.Statement.{statement}
use Rattle.element_fits.proofs.least_squares.second.Tie as tie

abbrev all : Code
all = sub (sub (mul (lit (pos 5)) (add (arg 0) (arg 6))) (mul (lit (pos 3)) (add (arg 2) (arg 4)))) (mul (lit (pos 4)) (arg 3))

add-result : tie.Need-overflow_add-result
add-result c = fits (bounds c.requires) (add (arg 0) (arg 6)) tt

mul-result : tie.Need-overflow_mul-result
mul-result c = fits (bounds c.requires) (mul (lit (pos 5)) (add (arg 0) (arg 6))) tt

add-result-2 : tie.Need-overflow_add-result-2
add-result-2 c = fits (bounds c.requires) (add (arg 2) (arg 4)) tt

mul-result-2 : tie.Need-overflow_mul-result-2
mul-result-2 c = fits (bounds c.requires) (mul (lit (pos 3)) (add (arg 2) (arg 4))) tt

sub-result : tie.Need-overflow_sub-result
sub-result c = fits (bounds c.requires) (sub (mul (lit (pos 5)) (add (arg 0) (arg 6))) (mul (lit (pos 3)) (add (arg 2) (arg 4)))) tt

mul-result-3 : tie.Need-overflow_mul-result-3
mul-result-3 c = fits (bounds c.requires) (mul (lit (pos 4)) (arg 3)) tt

sub-result-2 : tie.Need-overflow_sub-result-2
sub-result-2 c = fits (bounds c.requires) (sub (sub (mul (lit (pos 5)) (add (arg 0) (arg 6))) (mul (lit (pos 3)) (add (arg 2) (arg 4)))) (mul (lit (pos 4)) (arg 3))) tt

returns : tie.Need-returns
unfolding second
returns c =
    let w = bounds c.requires in
    let e = runs w all tt in
    record { value = e; size = omega (arith, ap nat_abs e, sized w all) }

pub second_spec : {M : Type 1} → statement M
second_spec = tie.close (tie.spec add-result mul-result add-result-2 mul-result-2 sub-result mul-result-3 sub-result-2 returns)

-- `element_fits::least_squares::first` meets its contract: sums and multiples of seven values fit.
use mathlib.Core.Path.{ap}
use native.Mathlib.Omega.{arith}
use lib.IntN.{pos, nat_abs}
use Rattle.rounding.specs.laws.Code.{Code, arg, lit, add, sub, mul, fits, runs, sized}
use Rattle.element_fits.specs.LeastSquares.{first}
use Rattle.element_fits.proofs.least_squares.Bounds.{bounds}
use Rattle.element_fits.proofs.least_squares.first.Statement.{statement}
use Rattle.element_fits.proofs.least_squares.first.Tie as tie

abbrev all : Code
all = add (add (mul (lit (pos 3)) (sub (arg 6) (arg 0))) (mul (lit (pos 2)) (sub (arg 5) (arg 1)))) (sub (arg 4) (arg 2))

sub-result : tie.Need-overflow_sub-result
sub-result c = fits (bounds c.requires) (sub (arg 6) (arg 0)) tt

mul-result : tie.Need-overflow_mul-result
mul-result c = fits (bounds c.requires) (mul (lit (pos 3)) (sub (arg 6) (arg 0))) tt

sub-result-2 : tie.Need-overflow_sub-result-2
sub-result-2 c = fits (bounds c.requires) (sub (arg 5) (arg 1)) tt

mul-result-2 : tie.Need-overflow_mul-result-2
mul-result-2 c = fits (bounds c.requires) (mul (lit (pos 2)) (sub (arg 5) (arg 1))) tt

add-result : tie.Need-overflow_add-result
add-result c = fits (bounds c.requires) (add (mul (lit (pos 3)) (sub (arg 6) (arg 0))) (mul (lit (pos 2)) (sub (arg 5) (arg 1)))) tt

sub-result-3 : tie.Need-overflow_sub-result-3
sub-result-3 c = fits (bounds c.requires) (sub (arg 4) (arg 2)) tt

add-result-2 : tie.Need-overflow_add-result-2
add-result-2 c = fits (bounds c.requires) (add (add (mul (lit (pos 3)) (sub (arg 6) (arg 0))) (mul (lit (pos 2)) (sub (arg 5) (arg 1)))) (sub (arg 4) (arg 2))) tt

returns : tie.Need-returns
unfolding first
returns c =
    let w = bounds c.requires in
    let e = runs w all tt in
    record { value = e; size = omega (arith, ap nat_abs e, sized w all) }

pub first_spec : {M : Type 1} → statement M
first_spec = tie.close (tie.spec sub-result mul-result sub-result-2 mul-result-2 add-result sub-result-3 add-result-2 returns)

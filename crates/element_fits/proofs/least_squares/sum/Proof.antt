-- `element_fits::least_squares::sum` meets its contract: the sum of seven values fits.
use mathlib.Core.Path.{ap}
use native.Mathlib.Omega.{arith}
use lib.IntN.{nat_abs}
use Rattle.rounding.specs.laws.Code.{Code, arg, add, fits, runs, sized}
use Rattle.element_fits.specs.LeastSquares.{sum}
use Rattle.element_fits.proofs.least_squares.Bounds.{bounds}
use Rattle.element_fits.proofs.least_squares.sum.Statement.{statement}
use Rattle.element_fits.proofs.least_squares.sum.Tie as tie

abbrev all : Code
all = add (add (add (add (add (add (arg 0) (arg 1)) (arg 2)) (arg 3)) (arg 4)) (arg 5)) (arg 6)

add-result : tie.Need-overflow_add-result
add-result c = fits (bounds c.requires) (add (arg 0) (arg 1)) tt

add-result-2 : tie.Need-overflow_add-result-2
add-result-2 c = fits (bounds c.requires) (add (add (arg 0) (arg 1)) (arg 2)) tt

add-result-3 : tie.Need-overflow_add-result-3
add-result-3 c = fits (bounds c.requires) (add (add (add (arg 0) (arg 1)) (arg 2)) (arg 3)) tt

add-result-4 : tie.Need-overflow_add-result-4
add-result-4 c = fits (bounds c.requires) (add (add (add (add (arg 0) (arg 1)) (arg 2)) (arg 3)) (arg 4)) tt

add-result-5 : tie.Need-overflow_add-result-5
add-result-5 c = fits (bounds c.requires) (add (add (add (add (add (arg 0) (arg 1)) (arg 2)) (arg 3)) (arg 4)) (arg 5)) tt

add-result-6 : tie.Need-overflow_add-result-6
add-result-6 c = fits (bounds c.requires) (add (add (add (add (add (add (arg 0) (arg 1)) (arg 2)) (arg 3)) (arg 4)) (arg 5)) (arg 6)) tt

returns : tie.Need-returns
unfolding sum
returns c =
    let w = bounds c.requires in
    let e = runs w all tt in
    record { value = e; size = omega (arith, ap nat_abs e, sized w all) }

pub sum_spec : {M : Type 1} → statement M
sum_spec = tie.close (tie.spec add-result add-result-2 add-result-3 add-result-4 add-result-5 add-result-6 returns)

-- `element_fits::least_squares::third` meets its contract: differences of seven values fit.
use mathlib.Core.Path.{ap}
use native.Mathlib.Omega.{arith}
use lib.IntN.{nat_abs}
use Rattle.rounding.specs.laws.Code.{Code, arg, sub, fits, runs, sized}
use Rattle.element_fits.specs.LeastSquares.{third}
use Rattle.element_fits.proofs.least_squares.Bounds.{bounds}
use Rattle.element_fits.proofs.least_squares.third.Statement.{statement}
use Rattle.element_fits.proofs.least_squares.third.Tie as tie

abbrev all : Code
all = sub (sub (sub (arg 6) (arg 0)) (sub (arg 5) (arg 1))) (sub (arg 4) (arg 2))

sub-result : tie.Need-overflow_sub-result
sub-result c = fits (bounds c.requires) (sub (arg 6) (arg 0)) tt

sub-result-2 : tie.Need-overflow_sub-result-2
sub-result-2 c = fits (bounds c.requires) (sub (arg 5) (arg 1)) tt

sub-result-3 : tie.Need-overflow_sub-result-3
sub-result-3 c = fits (bounds c.requires) (sub (sub (arg 6) (arg 0)) (sub (arg 5) (arg 1))) tt

sub-result-4 : tie.Need-overflow_sub-result-4
sub-result-4 c = fits (bounds c.requires) (sub (arg 4) (arg 2)) tt

sub-result-5 : tie.Need-overflow_sub-result-5
sub-result-5 c = fits (bounds c.requires) (sub (sub (sub (arg 6) (arg 0)) (sub (arg 5) (arg 1))) (sub (arg 4) (arg 2))) tt

returns : tie.Need-returns
unfolding third
returns c =
    let w = bounds c.requires in
    let e = runs w all tt in
    record { value = e; size = omega (arith, ap nat_abs e, sized w all) }

pub third_spec : {M : Type 1} → statement M
third_spec = tie.close (tie.spec sub-result sub-result-2 sub-result-3 sub-result-4 sub-result-5 returns)

-- with i hours done, each of them has its difference
use Rattle.std.proofs.Common.{◌≡◌, ◌<◌, ℕ, pos, length, get_or}
use Rattle.elements.specs.Elements.{cubic_from}
use Rattle.fits.specs.Fits.{difference}
use Rattle.fits.proofs.differences.Given as goal

abbrev pub invariant-loop-i : goal.invariant-loop-i
invariant-loop-i l =
    record {
      seven : length l.all ≡ 7;
      done : (j : ℕ) → j < l.i → get_or l.all j (pos 0) ≡ difference (cubic_from l.coefficients 0) l.tabulated j;
    }

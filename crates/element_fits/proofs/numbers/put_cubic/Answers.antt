-- `element_fits::numbers::put_cubic` meets its contract: the part from `at` on is the four coefficients, each read back
-- from its bits.
use Rattle.std.proofs.Common.{◌≡◌, rules, refl}
use Rattle.besselian_rows.proofs.laws.TablesLaws.{pasted}
use Rattle.element_fits.specs.Numbers.{four_of}
use Rattle.element_fits.proofs.numbers.put_cubic.Goals as goal

pub returns : goal.returns
returns c =
    let e : c.copy_from_slice.new.self ≡ four_of c.args.c = search rules in
    pasted _ _ _ c.args.at 4 refl c.requires e

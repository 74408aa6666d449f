-- `element_fits::numbers::put_quadratic` meets its contract: the part from `at` on is the three coefficients, each read
-- back from its bits.
use Rattle.std.proofs.Common.{◌≡◌, rules, refl}
use Rattle.besselian_rows.proofs.laws.TablesLaws.{pasted}
use Rattle.element_fits.specs.Numbers.{three_of}
use Rattle.element_fits.proofs.numbers.put_quadratic.Goals as goal

pub returns : goal.returns
returns c =
    let e : c.copy_from_slice.new.self ≡ three_of c.args.q = search rules in
    pasted _ _ _ c.args.at 3 refl c.requires e

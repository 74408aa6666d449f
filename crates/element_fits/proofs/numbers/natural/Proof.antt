-- `element_fits::numbers::natural` meets its contract: the size is not negative.
use mathlib.Core.Path.{◌≡◌, ap, ◌∙◌}
use native.Mathlib.Omega.{arith}
use borrow.Author.Rules.{rules}
use lib.IntN.{ℤ, pos, nat_abs}
use Rattle.rounding.specs.laws.Order.{zs}
use Rattle.rounding.specs.laws.Code.{cast_unsigned, read_back, read_result}
use Rattle.element_fits.proofs.numbers.natural.Statement.{statement}
use Rattle.element_fits.proofs.numbers.natural.Tie as tie

size_is : (c : tie.After-abs) → c.abs.result ≡ pos (nat_abs c.args.z)
size_is c = c.abs.ensures ∙ ap (λ (z : ℤ). pos (nat_abs z)) (read_back c.args.z c.requires tt)

cast-result : tie.Need-overflow_cast-result
cast-result c = cast_unsigned c.abs.result (record { sfits = c.abs.type_inv }) (rw (size_is c) (omega (arith, zs)))

returns : tie.Need-returns
returns c = ap nat_abs (read_result c.abs.result c.abs.type_inv ∙ size_is c)

pub natural_spec : {M : Type 1} → statement M
natural_spec = tie.close (tie.spec (λ c κs. search rules) cast-result returns)

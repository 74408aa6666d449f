-- `element_fits::angles::natural_sine` meets its contract: up to 90 degrees the sine is a natural number.
use mathlib.Core.Path.{◌≡◌, sym, ap, ◌∙◌}
use native.Mathlib.Omega.{arith}
use lib.IntN.{ℤ, pos, nat_abs}
use Prim.Native.Nat.{ℕ, ◌≤◌}
use Rattle.rounding.specs.laws.Order.{zs}
use Rattle.rounding.specs.laws.Code.{cast_unsigned, read_result}
use Rattle.sine.specs.laws.FirstQuadrantLaws.{first-natural}
use Rattle.sine.specs.Sine.{sine}
use Rattle.sine.specs.laws.SineLaws.{sine-first}
use Rattle.element_fits.proofs.angles.natural_sine.Statement.{statement}
use Rattle.element_fits.proofs.angles.natural_sine.Tie as tie

natural : (a : ℕ) → a ≤ 45_000_000 → sine (pos a) ≡ pos (nat_abs (sine (pos a)))
natural a h =
    let e = sine-first a (omega arith) in
    e ∙ first-natural a (omega arith) ∙ ap (λ (z : ℤ). pos (nat_abs z)) (sym e)

sine-requires : tie.Need-sine-requires
sine-requires c κs = (c.requires.0, omega (arith, c.requires.1))

-- what `sine` gave
is : (c : tie.After-sine) → c.sine.result ≡ pos (nat_abs (sine (pos c.args.a)))
is c = c.sine.ensures.value ∙ natural c.args.a c.requires.1

cast-result : tie.Need-overflow_cast-result
cast-result c = cast_unsigned c.sine.result (record { sfits = c.sine.type_inv }) (rw (is c) (omega (arith, zs)))

returns : tie.Need-returns
returns c =
    ap (λ (z : ℤ). pos (nat_abs z)) (read_result c.sine.result c.sine.type_inv ∙ is c) ∙ sym (natural c.args.a c.requires.1)

pub natural_sine_spec : {M : Type 1} → statement M
natural_sine_spec = tie.close (tie.spec sine-requires cast-result returns)

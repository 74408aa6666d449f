-- `element_fits::off` meets its contract: the value of the cubic less v fits, and so does its size.
use mathlib.Core.Path.{◌≡◌, ap, ◌∙◌}
use mathlib.Core.List.{List, [], ◌∷◌}
use native.Mathlib.Omega.{arith}
use lib.IntN.{ℤ, pos, nat_abs}
use mir.Syntax.{w64}
use mir.Val.{to_z, of_z}
use Rattle.rounding.specs.laws.Order.{zs}
use Rattle.rounding.specs.laws.Code.{Slot, Code, arg, add, sub, mul, value, Within, whole, ends, ◌▹◌, fits, runs, within, cast_unsigned, read_result, sized}
use Rattle.element_fits.specs.Answers.{off}
use Rattle.element_fits.proofs.off.Statement.{statement}
use Rattle.element_fits.proofs.off.Tie as tie

module _ (c : tie.Start) where
  abbrev slots : List Slot
  slots =
      whole c.args.c.c0 ∷ whole c.args.c.c1 ∷ whole c.args.c.c2 ∷ whole c.args.c.c3 ∷ whole c.args.t ∷ whole c.args.v ∷ []

  bounds : Within slots (1_000_000_000_000 ∷ 1_000_000_000_000 ∷ 1_000_000_000_000 ∷ 1_000_000_000_000 ∷ 3 ∷ 100_000_000_000 ∷ [])
  bounds = c.requires.0.c0 ▹ c.requires.0.c1 ▹ c.requires.0.c2 ▹ c.requires.0.c3 ▹ c.requires.1 ▹ c.requires.2 ▹ ends

abbrev distance : Code
distance = sub (add (mul (add (mul (add (mul (arg 3) (arg 4)) (arg 2)) (arg 4)) (arg 1)) (arg 4)) (arg 0)) (arg 5)

mul-off : tie.Need-overflow_mul-off
mul-off c = fits (bounds c.before.before.before.before) (mul (arg 3) (arg 4)) tt

add-off : tie.Need-overflow_add-off
add-off c = fits (bounds c.before.before.before.before) (add (mul (arg 3) (arg 4)) (arg 2)) tt

mul-off-2 : tie.Need-overflow_mul-off-2
mul-off-2 c = fits (bounds c.before.before.before.before) (mul (add (mul (arg 3) (arg 4)) (arg 2)) (arg 4)) tt

add-off-2 : tie.Need-overflow_add-off-2
add-off-2 c = fits (bounds c.before.before.before.before) (add (mul (add (mul (arg 3) (arg 4)) (arg 2)) (arg 4)) (arg 1)) tt

mul-off-3 : tie.Need-overflow_mul-off-3
mul-off-3 c = fits (bounds c.before.before.before.before) (mul (add (mul (add (mul (arg 3) (arg 4)) (arg 2)) (arg 4)) (arg 1)) (arg 4)) tt

add-off-3 : tie.Need-overflow_add-off-3
add-off-3 c = fits (bounds c.before.before.before.before) (add (mul (add (mul (add (mul (arg 3) (arg 4)) (arg 2)) (arg 4)) (arg 1)) (arg 4)) (arg 0)) tt

sub-off : tie.Need-overflow_sub-off
sub-off c = fits (bounds c.before.before.before.before) distance tt

abs-requires : tie.Need-abs-requires
abs-requires c κs = within (bounds c.before.before.before.before) distance 9223372036854775807 tt

-- what `abs` gave
size_is : (c : tie.After-abs) → c.abs.result ≡ pos (nat_abs (value (slots c.before.before.before.before.before) distance))
size_is c = c.abs.ensures ∙ ap (λ (z : ℤ). pos (nat_abs z)) (runs (bounds c.before.before.before.before.before) distance tt)

cast-result : tie.Need-overflow_cast-result
cast-result c = cast_unsigned c.abs.result (record { sfits = c.abs.type_inv }) (rw (size_is c) (omega (arith, zs)))

returns : tie.Need-returns
unfolding off
returns c =
    let s = c.before.before.before.before.before in
    let e : nat_abs (to_z w64 (of_z w64 c.abs.result)) ≡ off s.args.c s.args.t s.args.v =
    ap nat_abs (read_result c.abs.result c.abs.type_inv ∙ size_is c) in
    (e, omega (arith, e, sized (bounds s) distance))

pub off_spec : {M : Type 1} → statement M
off_spec = tie.close (tie.spec mul-off add-off mul-off-2 add-off-2 mul-off-3 add-off-3 sub-off abs-requires cast-result returns)

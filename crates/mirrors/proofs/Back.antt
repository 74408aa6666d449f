-- The opposite of a number, passed and read back as bits.
use mathlib.Core.Path.{◌≡◌, ap, ◌∙◌}
use Prim.Native.Nat.{ℕ, ◌^◌, ◌≤◌, ◌<◌}
use native.Mathlib.Omega.{arith}
use native.Mathlib.Decide.{dec_lt}
use lib.IntN.{ℤ, nat_abs}
use lib.Signed.{mag}
use mir.Syntax.{w64}
use mir.Val.{to_z, of_z}
use Rattle.rounding.specs.laws.Order.{mag_nat_abs}
use Rattle.rounding.specs.laws.Code.{read_result}
use Rattle.requests.specs.Mirror.{opposite}
use Rattle.requests.specs.laws.MirrorLaws.{opposite-keeps, opposite-size}

-- it has a place in 64 bits, as the number has
opposite-fits : (most : ℕ) → most ≤ 9223372036854775807 → (z : ℤ) → mag z < 2 ^ 63 → mag (opposite most z) < 2 ^ 63
opposite-fits most m z h =
    elim (dec_lt most (nat_abs z)) [
      | yes g ↦ rw (opposite-keeps most z g) h
      | no g ↦ omega (arith, mag_nat_abs (opposite most z), opposite-size most z)
    ]

pub opposite_back : (most : ℕ) → most ≤ 9223372036854775807 → (z r : ℤ) → mag z < 2 ^ 63 → r ≡ opposite most (to_z w64 (of_z w64 z)) → to_z w64 (of_z w64 r) ≡ opposite most z
opposite_back most m z r h e =
    let q : r ≡ opposite most z = e ∙ ap (opposite most) (read_result z h) in
    rw q (read_result (opposite most z) (opposite-fits most m z h))

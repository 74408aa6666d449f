-- The magnitude at a second.
use Rattle.std.specs.Prelude.{Bool, true, false, cond, ℕ, ℤ, pos, nat_abs, ◌+ℤ◌, ◌-ℤ◌, ◌*ℤ◌}
use Rattle.sheet_types.specs.States.{State, inside, outside, unsure}
use Rattle.rounding.specs.Parts.{pos_p}
use Rattle.rounding.specs.Near.{floor_z}
use Rattle.rounding.specs.Root.{root}

-- "in millionths, rounded down: .. and 0 if that is negative": pos_p z is z, and 0 if z is negative
abbrev pub millionths : (n d : ℤ) → ℕ
millionths n d = pos_p (floor_z (pos 1000000 *ℤ n) d)

abbrev pub is_inside : State → Bool
is_inside inside = true
is_inside outside = false
is_inside unsure = false

-- "Magnitude in millionths, rounded down: (L1-L2)/(L1+L2) if central is inside; otherwise (L1-root(M))/(L1+L2), and 0
-- if that is negative.", of the state of central, L1, L2 with its sign, and M. Within the ranges L1+L2 is above 0
-- (MagnitudeLaws, sum-positive)
unfoldable pub magnitude : State → (L1 L2 M : ℤ) → ℕ
magnitude w L1 L2 M =
    cond (is_inside w) (millionths (L1 -ℤ L2) (L1 +ℤ L2))
    (millionths (L1 -ℤ pos (root (nat_abs M))) (L1 +ℤ L2))

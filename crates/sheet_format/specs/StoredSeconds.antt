-- "a second is stored plus 10,800": a second as it is stored, and the way back.
use Rattle.std.specs.Prelude.{ℕ, ℤ, pos, ◌+ℤ◌, ◌-ℤ◌}
use Rattle.rounding.specs.Parts.{pos_p}

unfoldable pub stored : ℤ → ℕ
stored τ = pos_p (τ +ℤ pos 10800)

abbrev pub second_of : ℕ → ℤ
second_of n = pos n -ℤ pos 10800

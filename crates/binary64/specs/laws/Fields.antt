-- A double's size in units by the fields of its bits. Definition only.
use Rattle.std.specs.Prelude.{ℕ, zero, suc, ◌+◌, ◌*◌, ◌^◌}
use Rattle.rounding.specs.Near.{half_up}

-- the exponent field and the digits t below the leading one: a field of 0 has no leading digit
unfoldable pub size_of : (scale field t : ℕ) → ℕ
size_of scale zero t = half_up (t * 2 ^ 0 * scale) (2 ^ 1074)
size_of scale (suc j) t = half_up ((2 ^ 52 + t) * 2 ^ j * scale) (2 ^ 1074)

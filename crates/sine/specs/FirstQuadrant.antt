-- The sine between the entries of table S, from 0 to 90 degrees. Angles are in units of 10^-6 degree, sines of 10^-8.
use Rattle.std.specs.Prelude.{cond, ℕ, ◌-◌, ◌*◌, ◌/◌, ◌%◌, ℤ, pos, ◌+ℤ◌, ◌-ℤ◌, ◌*ℤ◌}
use Rattle.std.specs.Int.Signed.{le_z}
use Rattle.rounding.specs.Near.{near}
use Rattle.sine_table.specs.Table.{S}

-- "Let r = near(b·17,453,293/10^7)": the arc of b millionths of a degree
unfoldable pub arc : ℕ → ℤ
arc b = near (pos (b * 17_453_293)) (pos 10_000_000)

-- "w = near(r²/(2·10^8))": how much the cosine of the arc r falls short of 1
unfoldable pub sag : ℤ → ℤ
sag r = near (r *ℤ r) (pos 200_000_000)

-- "The sine is S[k] + near((S[900-k]·r - S[k]·w)/10^8)"
unfoldable pub between : ℕ → ℤ → ℤ → ℤ
between k r w = pos (S k) +ℤ near (pos (S (900 - k)) *ℤ r -ℤ pos (S k) *ℤ w) (pos 100_000_000)

-- "and 10^8 if that is more"
unfoldable pub capped : ℤ → ℤ
capped z = cond (le_z z (pos 100_000_000)) z (pos 100_000_000)

-- "Between entries, for 0 to 90 degrees, both ends included: k tenths and b millionths over (b below 100,000)"
unfoldable pub first_quadrant : ℕ → ℤ
first_quadrant a =
    let k = a / 100_000 in
    let r = arc (a % 100_000) in
    capped (between k r (sag r))

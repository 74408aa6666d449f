-- The two series as polynomials in the angle: their coefficients.
use Rattle.std.specs.Prelude.{List, [], ◌∷◌, ℕ, ◌-◌, ◌*◌, ◌/◌, ◌^◌, ℤ, neg_ℤ, pos}
use Rattle.sine_table.specs.Table.{factorial}
use Rattle.sine_accuracy.specs.Series.{denominator}
use Rattle.sine_accuracy.specs.laws.Lists.{moved, turned}

-- the coefficient of a^n, but for its sign
unfoldable pub part : ℕ → ℕ
unfolding factorial denominator
part n = 314_159_265_358_979_323_846 ^ n * denominator ^ (21 - n) * (factorial 21 / factorial n)

abbrev pub up : ℕ → ℤ
up n = pos (part n)

abbrev pub down : ℕ → ℤ
down n = neg_ℤ (pos (part n))

unfoldable pub sines : List ℤ
unfolding part
sines =
    pos 0 ∷ up 1 ∷ pos 0 ∷ down 3 ∷ pos 0 ∷ up 5 ∷ pos 0 ∷ down 7 ∷ pos 0 ∷ up 9 ∷ pos 0 ∷ down 11
    ∷ pos 0 ∷ up 13 ∷ pos 0 ∷ down 15 ∷ pos 0 ∷ up 17 ∷ pos 0 ∷ down 19 ∷ pos 0 ∷ up 21 ∷ []

unfoldable pub cosines : List ℤ
unfolding part
cosines =
    up 0 ∷ pos 0 ∷ down 2 ∷ pos 0 ∷ up 4 ∷ pos 0 ∷ down 6 ∷ pos 0 ∷ up 8 ∷ pos 0 ∷ down 10 ∷ pos 0
    ∷ up 12 ∷ pos 0 ∷ down 14 ∷ pos 0 ∷ up 16 ∷ pos 0 ∷ down 18 ∷ pos 0 ∷ up 20 ∷ []

-- the cosine series in what the angle lacks of 90 degrees
unfoldable pub complements : List ℤ
unfolding cosines moved turned
complements = turned (moved (pos 90_000_000) cosines)

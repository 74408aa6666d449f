-- What is true of a sine: the sine series and the cosine series at an angle of whole millionths of a degree, over
-- whole numbers, as `Table` of sine has them at its tenths. Definitions only.
use Rattle.std.specs.Prelude.{ℕ, ◌-◌, ◌*◌, ◌/◌, ◌^◌, ℤ, pos, ◌+ℤ◌, ◌-ℤ◌}
use Rattle.sine_table.specs.Table.{factorial, numerator}

-- a millionths of a degree are a·π/180,000,000, "with π taken as 3.14159265358979323846": numerator a over denominator
unfoldable pub denominator : ℕ
denominator = 180_000_000 * 10 ^ 20

-- each term below is a whole number over `common`
unfoldable pub common : ℕ
unfolding factorial denominator
common = factorial 21 * denominator ^ 21

-- x^n/n! at x = a·π/180,000,000, over `common`
unfoldable pub term : ℕ → ℕ → ℤ
unfolding factorial numerator denominator
term a n = pos (numerator a ^ n * denominator ^ (21 - n) * (factorial 21 / factorial n))

-- "the sine series, summed to the 21st power": x - x^3/3! + x^5/5! - .. + x^21/21!, over `common`
unfoldable pub sine_series : ℕ → ℤ
unfolding term
sine_series a =
    term a 1 -ℤ term a 3 +ℤ term a 5 -ℤ term a 7 +ℤ term a 9 -ℤ term a 11
    +ℤ term a 13 -ℤ term a 15 +ℤ term a 17 -ℤ term a 19 +ℤ term a 21

-- and the cosine's: 1 - x^2/2! + x^4/4! - .. + x^20/20!, over `common`
unfoldable pub cosine_series : ℕ → ℤ
unfolding term
cosine_series a =
    term a 0 -ℤ term a 2 +ℤ term a 4 -ℤ term a 6 +ℤ term a 8 -ℤ term a 10
    +ℤ term a 12 -ℤ term a 14 +ℤ term a 16 -ℤ term a 18 +ℤ term a 20

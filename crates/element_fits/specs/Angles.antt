-- Angles, in units of 10^-6 degree, from sines and cosines, in units of 10^-8, by document 01's sine rule. These are
-- definitions.
use Rattle.std.specs.Prelude.{Bool, cond, ℕ, ◌+◌, ◌-◌, ◌%◌, leb, ℤ, pos, neg_ℤ, nat_abs}
use Rattle.std.specs.Int.Signed.{lt_z, le_z}
use Rattle.sine.specs.Sine.{sine}
use Rattle.element_fits.specs.Search.{largest}

-- whether the sine of an angle is at most s
abbrev pub reaches : ℕ → ℕ → Bool
reaches s a = le_z (sine (pos a)) (pos s)

-- the largest angle from 0 to 45 degrees whose sine is at most s
unfoldable pub arc : ℕ → ℕ
arc s = largest (reaches s) 45_000_000

-- the same with the sign of s
unfoldable pub arcsine : ℤ → ℤ
arcsine s = cond (lt_z s (pos 0)) (neg_ℤ (pos (arc (nat_abs s)))) (pos (arc (nat_abs s)))

-- the angle from 0 to 90 degrees whose cosine is p and whose sine is q: by the lesser of the two, which is the sine
-- of at most 45 degrees
unfoldable pub acute : (p q : ℕ) → ℕ
acute p q = cond (leb q p) (arc q) (90_000_000 - arc p)

-- the angle from 0 up to 360 degrees whose cosine is x and whose sine is y
unfoldable pub argument : (x y : ℤ) → ℕ
argument x y =
    let a = acute (nat_abs x) (nat_abs y) in
    cond (lt_z y (pos 0)) (cond (lt_z x (pos 0)) (180_000_000 + a) ((360_000_000 - a) % 360_000_000)) (cond (lt_z x (pos 0)) (180_000_000 - a) a)

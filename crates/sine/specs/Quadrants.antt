-- The four quadrants on one page: document 02, wish 12. Angles are in units of 10^-6 degree, sines and cosines of
-- 10^-8.
use Rattle.std.specs.Prelude.{◌≡◌, ℕ, ◌+◌, ◌-◌, ◌≤◌, ◌<◌, ℤ, pos, neg_ℤ}
use Rattle.sine.specs.Sine.{reduced, sine, cosine}

-- "with s and c the sine and cosine of the angle less 0, 90, 180 or 270 degrees, from 0 to 90,
-- the sine is s, c, -s, -c and the cosine c, -s, -c, s."
pub data Quadrant : Type 0 where
  first : Quadrant
  second : Quadrant
  third : Quadrant
  fourth : Quadrant

-- a row of the table: what is taken off the angle, and the sine and the cosine by s and c
pub record Row : Type 0 where
  pub less : ℕ
  pub sine : ℤ → ℤ → ℤ
  pub cosine : ℤ → ℤ → ℤ

abbrev pub row : Quadrant → Row
row first = record { less = 0; sine = λ s c. s; cosine = λ s c. c }
row second = record { less = 90_000_000; sine = λ s c. c; cosine = λ s c. neg_ℤ s }
row third = record { less = 180_000_000; sine = λ s c. neg_ℤ s; cosine = λ s c. neg_ℤ c }
row fourth = record { less = 270_000_000; sine = λ s c. neg_ℤ c; cosine = λ s c. s }

-- the angle a is in the quadrant q: a less 0, 90, 180 or 270 degrees is "from 0 to 90", both ends included
pub record In (q : Quadrant) (a : ℕ) : Type 0 where
  pub from : (row q).less ≤ a
  pub to : a ≤ (row q).less + 90_000_000

-- s and c
abbrev pub s : Quadrant → ℕ → ℤ
s q a = sine (pos (a - (row q).less))

abbrev pub c : Quadrant → ℕ → ℤ
c q a = cosine (pos (a - (row q).less))

-- sine and cosine of the angle a are those of q's row
pub record ByRow (q : Quadrant) (a : ℕ) : Type 0 where
  pub sine-is : sine (pos a) ≡ (row q).sine (s q a) (c q a)
  pub cosine-is : cosine (pos a) ≡ (row q).cosine (s q a) (c q a)

-- "That is proved for every angle, each end in both its quadrants." The proof: QuadrantLaws, `four_quadrants`.
pub record FourQuadrants : Type 0 where
  pub holds : (q : Quadrant) (a : ℕ) → In q a → ByRow q a
  pub every : (a : ℕ) → a ≤ 360_000_000 → (q : Quadrant) × In q a
  pub end_90 : In first 90_000_000 × In second 90_000_000
  pub end_180 : In second 180_000_000 × In third 180_000_000
  pub end_270 : In third 270_000_000 × In fourth 270_000_000
  pub end_360 : In fourth 360_000_000 × In first 0
  -- any angle is first reduced to one below 360 degrees
  pub any : (z : ℤ) → (reduced z < 360_000_000) × (sine z ≡ sine (pos (reduced z))) × (cosine z ≡ cosine (pos (reduced z)))

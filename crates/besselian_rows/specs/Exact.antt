-- Document 02, wish 2: what a row is refused for, the exact values of an accepted one, and what "within" means. This
-- is the page to believe.
--
-- The wish's formulas hold roots: with G from the Moon's centre to the Sun's, P = Gx² + Gy² and N = P + Gz² its length
-- squared,
--   cos a = Gx/√P,  sin a = Gy/√P       a: the axis' right ascension
--   cos d = √P/√N,  sin d = Gz/√N       d: its declination
--   x = Y cos a − X sin a               X, Y, Z: the Moon from the Earth's centre
--   y = Z cos d − (X cos a + Y sin a) sin d
--   z = Z sin d + (X cos a + Y sin a) cos d
--   sin f = S/√N, so tan f = S/√(N − S²) and 1/cos f = √N/√(N − S²)
--   l1 = z tan f1 + k1/cos f1, l2 = z tan f2 − k2/cos f2
-- Put in one another, with Q = X Gx + Y Gy and C = Q + Z Gz, each is one whole number over the root of another:
--   x = (Y Gx − X Gy)/√P                y = (Z P − Gz Q)/√(P N), for √P/√N = P/√(P N)
--   sin d = Gz/√N                       cos d = P/√(P N)
--   z = C/√N                            tan f = S/√(N − S²)
--   l1 = (C S1 + k1 N)/√(N (N − S1²))   l2 = (C S2 − k2 N)/√(N (N − S2²))
-- S1, S2, k1 and k2 come from the radii of Sun and Moon; document 02's are `document02`.
-- So everything is said by A and B, of A/√B, and squares are compared over whole numbers.
use Rattle.std.specs.Prelude.{Bool, ◌&&◌, ℕ, ◌+◌, ◌-◌, ◌≤◌, ℤ, pos, nat_abs, ◌+ℤ◌, ◌-ℤ◌, ◌*ℤ◌, ◌≤ℤ◌}
use Rattle.std.specs.Int.Signed.{le_z}
use Rattle.besselian_rows.specs.declared.besselian.Row.{Row}
use Rattle.besselian_rows.specs.declared.besselian.Radii.{Radii}
use Rattle.besselian_rows.specs.declared.besselian.Besselian.{Besselian}

infixl 80 ◌²
abbrev pub ◌² : ℤ → ℤ
a ² = a *ℤ a

-- 10^8 units: a radius of the Earth, a sine of 1
abbrev pub one : ℤ
one = pos 100000000

module _ (p : Row) where
  -- "The axis is reckoned from the Moon's centre to the Sun's"
  abbrev pub Gx : ℤ
  Gx = p.sunx -ℤ p.moonx

  abbrev pub Gy : ℤ
  Gy = p.suny -ℤ p.moony

  abbrev pub Gz : ℤ
  Gz = p.sunz -ℤ p.moonz

  abbrev pub P : ℤ
  P = Gx ² +ℤ Gy ²

  abbrev pub N : ℤ
  N = P +ℤ Gz ²

  -- "x east, y north and z along the axis are the Moon's coordinates from the Earth's centre"
  abbrev pub Q : ℤ
  Q = p.moonx *ℤ Gx +ℤ p.moony *ℤ Gy

  abbrev pub C : ℤ
  C = Q +ℤ p.moonz *ℤ Gz

-- ---- refusals

-- a distance from low to high, ends included, by squares
unfoldable pub between : (x y z low high : ℤ) → Bool
between x y z low high = le_z (low ²) (x ² +ℤ y ² +ℤ z ²) && le_z (x ² +ℤ y ² +ℤ z ²) (high ²)

-- the size of the sine of (x, y, z) above the equator is at most 0.43: 100² z² ≤ 43² (x² + y² + z²)
unfoldable pub level : (x y z : ℤ) → Bool
level x y z = le_z (pos 10000 *ℤ (z ²)) (pos 1849 *ℤ (x ² +ℤ y ² +ℤ z ²))

-- "where the Moon is not 55 to 65 radii off, the Sun not 23,000 to 24,000, or the size of the exact sine of d above
-- 0.43"
abbrev pub moon_distance : Row → Bool
moon_distance p = between p.moonx p.moony p.moonz (pos 5500000000) (pos 6500000000)

abbrev pub sun_distance : Row → Bool
sun_distance p = between p.sunx p.suny p.sunz (pos 2300000000000) (pos 2400000000000)

unfoldable pub accepted : Row → Bool
accepted p = moon_distance p && (sun_distance p && level (Gx p) (Gy p) (Gz p))

-- ---- exact values

-- "the solar radius is 109.04847 and the lunar one 0.272274 .., so the sines of the cone half-angles are 109.320744
-- and 108.776196 over the distance between the centres"
abbrev pub document02 : Radii
document02 = record { sun = 10904847000; penumbra = 27227400; central = 27227400 }

-- the radii that are taken: the Sun's "10,890,000,000 to 10,930,000,000; the Moon's for the penumbra and for the
-- central cone, 27,200,000 to 27,300,000 each"
pub record RadiiInRange (k : Radii) : Type 0 where
  pub sun_low : 10890000000 ≤ k.sun
  pub sun_high : k.sun ≤ 10930000000
  pub penumbra_low : 27200000 ≤ k.penumbra
  pub penumbra_high : k.penumbra ≤ 27300000
  pub central_low : 27200000 ≤ k.central
  pub central_high : k.central ≤ 27300000

-- "the sines of the cone half-angles" over the distance: the sum of the radii, and their difference
abbrev pub S1 : Radii → ℕ
S1 k = k.sun + k.penumbra

abbrev pub S2 : Radii → ℕ
S2 k = k.sun - k.central

-- a square with the sign of its number: it keeps the order, signed a ≤ signed b exactly if a ≤ b
abbrev pub signed : ℤ → ℤ
signed a = a *ℤ pos (nat_abs a)

-- v lies within e units of A/√B: (v − e) √B ≤ A ≤ (v + e) √B, "squares compared over whole numbers". `CloseMeaning`
-- proves that it is that where √B is whole.
pub record Close (e : ℕ) (v A B : ℤ) : Type 0 where
  pub some : pos 1 ≤ℤ B
  pub low : (signed (v -ℤ pos e) *ℤ B) ≤ℤ signed A
  pub high : signed A ≤ℤ (signed (v +ℤ pos e) *ℤ B)

-- "Against the exact value, squares compared over whole numbers, sines, cosines and tangents lie within 4 units and x,
-- y, l1, l2 within 1,000."
pub record Faithful (k : Radii) (p : Row) (b : Besselian) : Type 0 where
  pub x : Close 1000 b.x (p.moony *ℤ Gx p -ℤ p.moonx *ℤ Gy p) (P p)
  pub y : Close 1000 b.y (p.moonz *ℤ P p -ℤ Gz p *ℤ Q p) (P p *ℤ N p)
  pub sin_d : Close 4 b.sind (one *ℤ Gz p) (N p)
  pub cos_d : Close 4 b.cosd (one *ℤ P p) (P p *ℤ N p)
  pub tan_f1 : Close 4 b.tanf1 (one *ℤ pos (S1 k)) (N p -ℤ pos (S1 k) ²)
  pub tan_f2 : Close 4 b.tanf2 (one *ℤ pos (S2 k)) (N p -ℤ pos (S2 k) ²)
  -- "l1 is z·tan f1 + 0.272274/cos f1, l2 is z·tan f2 - 0.272274/cos f2"
  pub l1 : Close 1000 b.l1 (C p *ℤ pos (S1 k) +ℤ pos k.penumbra *ℤ N p) (N p *ℤ (N p -ℤ pos (S1 k) ²))
  pub l2 : Close 1000 b.l2 (C p *ℤ pos (S2 k) -ℤ pos k.central *ℤ N p) (N p *ℤ (N p -ℤ pos (S2 k) ²))

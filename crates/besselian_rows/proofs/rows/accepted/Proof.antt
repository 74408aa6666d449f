-- `besselian_rows::rows::accepted` meets its contract: the three tests one after the other, and the axis fits once the
-- first two hold.
use mathlib.Core.Path.{◌≡◌, sym, ap, ap₂, ◌∙◌}
use mathlib.Core.Bool.{Bool, true, ◌&&◌}
use mathlib.Core.List.{[], ◌∷◌}
use borrow.Author.Rules.{rules}
use Rattle.rounding.specs.laws.Code.{Code, arg, sub, Within, whole, ends, ◌▹◌, fits, runs, within, read_result}
use Rattle.besselian_rows.specs.declared.besselian.Row.{Row}
use Rattle.besselian_rows.specs.Exact.{Gx, Gy, Gz, level, moon_distance, sun_distance, accepted}
use Rattle.besselian_rows.specs.AcceptedLaws.{moon-sizes, sun-sizes}
use Rattle.besselian_rows.proofs.rows.accepted.Statement.{statement}
use Rattle.besselian_rows.proofs.rows.accepted.Tie as tie

-- the row, where the tests are known
abbrev row : tie.After-at_distance-moon → Row
row c = c.args.p

abbrev row2 : tie.After-at_distance-sun → Row
row2 c = row c.before.before.before.before.before

moon-is : (c : tie.After-at_distance-moon) → c.at_distance-moon.result ≡ moon_distance (row c)
moon-is c =
    let p = row c in
    let g = c.struct_told-3-1.given in
    rw (read_result p.moonx g.1.1.1.0.1, read_result p.moony g.1.1.1.1.0.1, read_result p.moonz g.1.1.1.1.1.0.1)
    at c.at_distance-moon.ensures

sun-is : (c : tie.After-at_distance-sun) → c.at_distance-sun.result ≡ sun_distance (row2 c)
sun-is c =
    let p = row2 c in
    let g = c.struct_told-6-1.given in
    rw (read_result p.sunx g.0.1, read_result p.suny g.1.0.1, read_result p.sunz g.1.1.0.1) at c.at_distance-sun.ensures

-- after the first test, and after the second
moon-held : (c : tie.Else-not-moon) → moon_distance (row c.before) ≡ true
moon-held c = sym (moon-is c.before) ∙ c.if-not-moon.false

moon-holds : (c : tie.After-at_distance-sun) → moon_distance (row2 c) ≡ true
moon-holds c = moon-held c.before.before.before.before

sun-holds : (c : tie.Else-not-sun) → sun_distance (row2 c.before) ≡ true
sun-holds c = sym (sun-is c.before) ∙ c.if-not-sun.false

-- the axis: the Sun's coordinates less the Moon's
module _ (c : tie.Else-not-sun) where
  abbrev p : Row
  p = row2 c.before

  xs : Within (whole p.sunx ∷ whole p.moonx ∷ []) (2400000000000 ∷ 6500000000 ∷ [])
  xs = (sun-sizes p (sun-holds c)).0 ▹ (moon-sizes p (moon-holds c.before)).0 ▹ ends

  ys : Within (whole p.suny ∷ whole p.moony ∷ []) (2400000000000 ∷ 6500000000 ∷ [])
  ys = (sun-sizes p (sun-holds c)).1 ▹ (moon-sizes p (moon-holds c.before)).1 ▹ ends

  zs : Within (whole p.sunz ∷ whole p.moonz ∷ []) (2400000000000 ∷ 6500000000 ∷ [])
  zs = (sun-sizes p (sun-holds c)).2 ▹ (moon-sizes p (moon-holds c.before)).2 ▹ ends

abbrev D : Code
D = sub (arg 0) (arg 1)

returns : tie.Need-returns-then-not-moon
unfolding accepted
returns c =
    let p = row c.before in
    let e = sym (moon-is c.before) ∙ c.if-not-moon.true in
    sym (ap (λ (s : Bool). s && (sun_distance p && level (Gx p) (Gy p) (Gz p))) e)

returns-2 : tie.Need-returns-then-not-sun
unfolding accepted
returns-2 c =
    let p = row2 c.before in
    let e = sym (sun-is c.before) ∙ c.if-not-sun.true in
    sym (ap₂ (λ (s t : Bool). s && (t && level (Gx p) (Gy p) (Gz p))) (moon-holds c.before) e)

sub-is-level-2 : tie.Need-overflow_sub-p-2
sub-is-level-2 c = fits (ys c.before.before.before.before) D tt

sub-is-level-3 : tie.Need-overflow_sub-p-3
sub-is-level-3 c = fits (zs c.before.before.before.before.before.before) D tt

is-level-requires : tie.Need-is_level-requires
is-level-requires c κs =
    let k = c.before.before.before.before.before.before in
    (within (xs k) D 2406500000000 tt, within (ys k) D 2406500000000 tt, within (zs k) D 2406500000000 tt)

returns-3 : tie.Need-returns
unfolding accepted
returns-3 c =
    let k = c.before.before.before.before.before.before.before in
    let p = row2 k.before in
    let e = rw (runs (xs k) D tt, runs (ys k) D tt, runs (zs k) D tt) at c.is_level.ensures in
    e ∙ sym (ap₂ (λ (s t : Bool). s && (t && level (Gx p) (Gy p) (Gz p))) (moon-holds k.before) (sun-holds k))

pub accepted_spec : {M : Type 1} → statement M
accepted_spec =
    tie.close
    (tie.spec (λ c κs. search rules) returns (λ c κs. search rules) returns-2
    (λ c. fits (xs c.before.before) D tt) sub-is-level-2 sub-is-level-3 is-level-requires returns-3)

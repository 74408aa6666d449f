-- `shadow::direction` meets its contract: the tests find the signs of u and v, and each case of the rule is a quarter
-- of their sizes. A quarter is at most 899, so the sums fit.
use mathlib.Core.Path.{◌≡◌, refl, sym, ap, ap₂, ◌∙◌}
use mathlib.Core.List.{[], ◌∷◌}
use Prim.Native.Nat.{ℕ, zero, suc, ◌+◌, ◌≤◌}
use native.Mathlib.Omega.{arith}
use lib.Dec.{T}
use lib.IntN.{ℤ, pos, negsuc, neg_ℤ, nat_abs}
use lib.Signed.{◌≤ℤ◌, ◌<ℤ◌, non_neg}
use mir.Syntax.{w16, w64}
use mir.Val.{Fits, to_z, of_z}
use Rattle.rounding.specs.laws.Order.{zs, <ℤ-≤, ≤ℤ_antisym, nonneg_nat_abs}
use Rattle.rounding.specs.laws.Code.{Code, arg, lit, Within, whole, ends, ◌▹◌, unsigned, taken-<, left-<, read_back, read-size}
use Rattle.sine_table.specs.Table.{S}
use Rattle.shadow_geometry.specs.Direction.{quarter, direction}
use Rattle.shadow_geometry.specs.laws.DirectionLaws.{quarter-le, direction-first, direction-second, direction-third, direction-fourth, direction-none}
use Rattle.shadow.proofs.directions.direction.Statement.{statement}
use Rattle.shadow.proofs.directions.direction.Tie as tie

-- ---- sizes
notabove : (z : ℤ) → z ≤ℤ pos 0 → pos (nat_abs z) ≡ neg_ℤ z
notabove (pos zero) h = refl
notabove (pos (suc n)) h = absurd (omega (arith, zs))
notabove (negsuc n) h = refl

-- what `abs` gave of z, as an unsigned number
module _ (z r : ℤ) (h : nat_abs z ≤ 1000000000) (e : r ≡ pos (nat_abs (to_z w64 (of_z w64 z)))) where
  size_is : r ≡ pos (nat_abs z)
  size_is = e ∙ ap (λ (y : ℤ). pos (nat_abs y)) (read_back z h tt)

  size-within : Within (whole r ∷ []) (1000000000 ∷ [])
  size-within = let k : nat_abs r ≤ 1000000000 = omega (arith, ap nat_abs size_is) in k ▹ ends

  size-cast : T (non_neg (to_z w64 (of_z w64 r))) × Fits w64 (nat_abs (to_z w64 (of_z w64 r)))
  size-cast = unsigned size-within (arg 0) tt (rw size_is (omega (arith, zs)))

  cast_is : nat_abs (to_z w64 (of_z w64 r)) ≡ nat_abs z
  cast_is = ap nat_abs (read_back r {m = 1000000000} (omega (arith, ap nat_abs size_is)) tt ∙ size_is)

-- ---- one quarter after another, of the sizes a and b of u and v
few : {r : ℕ} (n : ℕ) (x y : ℤ) → n ≤ 2700 → r ≡ quarter S x y → Fits w16 (n + r)
few n x y h e = record { fits = omega (arith, quarter-le S x y) }

module _ (u v : ℤ) {a b r : ℕ} (ea : a ≡ nat_abs u) (eb : b ≡ nat_abs v) where
  first : pos 0 ≤ℤ u → pos 0 <ℤ v → r ≡ quarter S (pos a) (pos b) → r ≡ direction S u v
  first h k e = e ∙ ap₂ (quarter S) (ap pos ea ∙ sym (nonneg_nat_abs u h)) (ap pos eb ∙ sym (nonneg_nat_abs v (<ℤ-≤ k))) ∙ sym (direction-first S h k)

  second : pos 0 <ℤ u → v ≤ℤ pos 0 → r ≡ quarter S (pos b) (pos a) → 900 + r ≡ direction S u v
  second h k e = ap (λ (n : ℕ). 900 + n) (e ∙ ap₂ (quarter S) (ap pos eb ∙ notabove v k) (ap pos ea ∙ sym (nonneg_nat_abs u (<ℤ-≤ h)))) ∙ sym (direction-second S h k)

  third : u ≤ℤ pos 0 → v <ℤ pos 0 → r ≡ quarter S (pos a) (pos b) → 1800 + r ≡ direction S u v
  third h k e = ap (λ (n : ℕ). 1800 + n) (e ∙ ap₂ (quarter S) (ap pos ea ∙ notabove u h) (ap pos eb ∙ notabove v (<ℤ-≤ k))) ∙ sym (direction-third S h k)

  fourth : u <ℤ pos 0 → pos 0 ≤ℤ v → r ≡ quarter S (pos b) (pos a) → 2700 + r ≡ direction S u v
  fourth h k e = ap (λ (n : ℕ). 2700 + n) (e ∙ ap₂ (quarter S) (ap pos eb ∙ sym (nonneg_nat_abs v k)) (ap pos ea ∙ notabove u (<ℤ-≤ h))) ∙ sym (direction-fourth S h k)

none : (u v : ℤ) → u ≡ pos 0 → v ≡ pos 0 → 65535 ≡ direction S u v
none u v e f = sym (ap₂ (direction S) e f ∙ direction-none S)

-- ---- the places
bounds : (c : tie.After-abs-b) → Within (whole c.args.u ∷ whole c.args.v ∷ [])
    (1000000000 ∷ 1000000000 ∷ [])
bounds c = c.requires.1 ▹ c.requires.2 ▹ ends

a-is : (c : tie.After-abs-b) → nat_abs (to_z w64 (of_z w64 c.abs-a.result)) ≡ nat_abs c.args.u
a-is c = cast_is c.args.u c.abs-a.result c.requires.1 c.abs-a.ensures

b-is : (c : tie.After-abs-b) → nat_abs (to_z w64 (of_z w64 c.abs-b.result)) ≡ nat_abs c.args.v
b-is c = cast_is c.args.v c.abs-b.result c.requires.2 c.abs-b.ensures

a-le : (c : tie.After-abs-b) → nat_abs (to_z w64 (of_z w64 c.abs-a.result)) ≤ 1000000000
a-le c = omega (arith, a-is c, c.requires.1)

b-le : (c : tie.After-abs-b) → nat_abs (to_z w64 (of_z w64 c.abs-b.result)) ≤ 1000000000
b-le c = omega (arith, b-is c, c.requires.2)

abbrev none_of : Code
none_of = lit (pos 0)

abs-requires : tie.Need-abs-a-requires
abs-requires c κs = read-size c.args.u 9223372036854775807 c.requires.1 tt

cast-a : tie.Need-overflow_cast-a
cast-a c = size-cast c.args.u c.abs-a.result c.requires.1 c.abs-a.ensures

abs-requires-2 : tie.Need-abs-b-requires
abs-requires-2 c κs = read-size c.args.v 9223372036854775807 c.requires.2 tt

cast-b : tie.Need-overflow_cast-b
cast-b c = size-cast c.args.v c.abs-b.result c.requires.2 c.abs-b.ensures

-- u below 0, v below 0
quarter-requires : tie.Need-quarter-requires
quarter-requires c κs = let s = c.before.before in (s.requires.0, a-le s, b-le s)

add-result : tie.Need-overflow_add-result
add-result c = few 1800 _ _ (omega arith) c.quarter.ensures

returns : tie.Need-returns-then-v-lt0
returns c =
    let s = c.before.before.before in
    let a = s.args in
    third a.u a.v (a-is s) (b-is s) (<ℤ-≤ (taken-< (bounds s) (arg 0) none_of tt c.if-u-lt0.true))
    (taken-< (bounds s) (arg 1) none_of tt c.if-v-lt0.true) c.quarter.ensures

-- u below 0, v not
quarter-requires-2 : tie.Need-quarter-requires-then-u-lt0
quarter-requires-2 c κs = let s = c.before.before in (s.requires.0, b-le s, a-le s)

add-result-2 : tie.Need-overflow_add-result-then-u-lt0
add-result-2 c = few 2700 _ _ (omega arith) c.quarter-then-u-lt0.ensures

returns-2 : tie.Need-returns-then-u-lt0
returns-2 c =
    let s = c.before.before.before in
    let a = s.args in
    fourth a.u a.v (a-is s) (b-is s) (taken-< (bounds s) (arg 0) none_of tt c.if-u-lt0.true)
    (left-< (bounds s) (arg 1) none_of tt c.if-v-lt0.false) c.quarter-then-u-lt0.ensures

-- u not below 0, v above 0
quarter-requires-3 : tie.Need-quarter-requires-then-v-gt0
quarter-requires-3 c κs = let s = c.before.before in (s.requires.0, a-le s, b-le s)

returns-3 : tie.Need-returns-then-v-gt0
returns-3 c =
    let s = c.before.before.before in
    let a = s.args in
    first a.u a.v (a-is s) (b-is s) (left-< (bounds s) (arg 0) none_of tt c.if-u-lt0.false)
    (taken-< (bounds s) none_of (arg 1) tt c.if-v-gt0.true) c.quarter-then-v-gt0.ensures

-- u above 0, v not
quarter-requires-4 : tie.Need-quarter-requires-then-u-gt0
quarter-requires-4 c κs = let s = c.before.before.before in (s.requires.0, b-le s, a-le s)

add-result-3 : tie.Need-overflow_add-result-then-u-gt0
add-result-3 c = few 900 _ _ (omega arith) c.quarter-then-u-gt0.ensures

returns-4 : tie.Need-returns-then-u-gt0
returns-4 c =
    let s = c.before.before.before.before in
    let a = s.args in
    second a.u a.v (a-is s) (b-is s) (taken-< (bounds s) none_of (arg 0) tt c.if-u-gt0.true)
    (left-< (bounds s) none_of (arg 1) tt c.if-v-gt0.false) c.quarter-then-u-gt0.ensures

-- u is 0, v below 0
quarter-requires-5 : tie.Need-quarter-requires-then-v-lt0-2
quarter-requires-5 c κs = let s = c.before.before.before.before in (s.requires.0, a-le s, b-le s)

add-result-4 : tie.Need-overflow_add-result-then-v-lt0-2
add-result-4 c = few 1800 _ _ (omega arith) c.quarter-then-v-lt0-2.ensures

returns-5 : tie.Need-returns-then-v-lt0-2
returns-5 c =
    let s = c.before.before.before.before.before in
    let a = s.args in
    third a.u a.v (a-is s) (b-is s) (left-< (bounds s) none_of (arg 0) tt c.if-u-gt0.false)
    (taken-< (bounds s) (arg 1) none_of tt c.if-v-lt0-2.true) c.quarter-then-v-lt0-2.ensures

-- both are 0
returns-6 : tie.Need-returns
returns-6 c =
    let s = c.before.before.before.before in
    let a = s.args in
    let w = bounds s in
    none a.u a.v (≤ℤ_antisym (left-< w none_of (arg 0) tt c.if-u-gt0.false) (left-< w (arg 0) none_of tt c.if-u-lt0.false))
    (≤ℤ_antisym (left-< w none_of (arg 1) tt c.if-v-gt0.false) (left-< w (arg 1) none_of tt c.if-v-lt0-2.false))

pub direction_spec : {M : Type 1} → statement M
direction_spec =
    tie.close
    (tie.spec abs-requires cast-a abs-requires-2 cast-b quarter-requires add-result returns quarter-requires-2
    add-result-2 returns-2 quarter-requires-3 returns-3 quarter-requires-4 add-result-3 returns-4
    quarter-requires-5 add-result-4 returns-5 returns-6)

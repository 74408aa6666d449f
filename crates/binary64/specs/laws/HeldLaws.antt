-- The number used in place of one too large for 64 bits does not matter to ranges that end within 10^9: both are out of
-- them.
--   stand_in_reading     what the code goes on with is the double's units, or what stands in for them
--   ranges-held          the search finds the same
--   in-ranges-held       in their ranges the numbers are themselves
--   in-ranges-sizes      and at most 10^9 in size
use Rattle.std.specs.Prelude.{◌≡◌, refl, Bool, true, false, ◌&&◌, ◌||◌, List, [], ◌∷◌, map, ◌⊎◌, ℕ, zero, suc, ◌^◌, ◌≤◌, ◌<◌, T, leb, ltb, ℤ, pos, negsuc, nat_abs, get_or, ◌≤ℤ◌, ◌<ℤ◌, Float}
use Rattle.std.proofs.Common.{sym, ap, ap₂, ◌∙◌, inl, inr, arith, ltb-true, ltb-false, lt-ltb, le-ltb, leb→le}
use Rattle.std.specs.Int.Signed.{lt_z}
use Rattle.std.proofs.Math.Facts.{and_yes}
use Rattle.std.specs.Float.{nan, inf, fin}
use Rattle.rounding.specs.Limits.{Row, row, out_of_range, first_out_of_range, EachInRange}
use Rattle.rounding.specs.laws.Order.{≤-parts, parts-<, nat_abs_parts, nat_abs_by}
use Rattle.binary64.specs.Doubles.{units_of, fitted, reading_of, stand_in, held}

pub stand_in_reading : (scale : ℕ) (x : Float) → stand_in (reading_of scale x) ≡ held (units_of scale x)
unfolding reading_of units_of fitted
stand_in_reading scale nan = refl
stand_in_reading scale (inf s) = refl
stand_in_reading scale (fin s m e) = refl

pub held_small : (z : ℤ) → nat_abs z < 2 ^ 63 → held z ≡ z
unfolding fitted
held_small z h = rw (lt-ltb (nat_abs z) (2 ^ 63) h)

held_large : (z : ℤ) → 2 ^ 63 ≤ nat_abs z → held z ≡ pos 9223372036854775807
unfolding fitted
held_large z h = rw (le-ltb (nat_abs z) (2 ^ 63) h)

-- ---- one range
abbrev pub held_row : Row → Row
held_row r = row (held r.value) r.low r.high

-- it ends within 10^9, either way
abbrev pub narrow : Row → Bool
narrow r = leb (nat_abs r.low) 1000000000 && leb (nat_abs r.high) 1000000000

ends : (r : Row) → T (narrow r) → (nat_abs r.low ≤ 1000000000) × (nat_abs r.high ≤ 1000000000)
ends r t =
    let p = and_yes (leb (nat_abs r.low) 1000000000) (leb (nat_abs r.high) 1000000000) t in
    (leb→le (nat_abs r.low) 1000000000 p.0, leb→le (nat_abs r.high) 1000000000 p.1)

either : (a b : Bool) → T a ⊎ T b → (a || b) ≡ true
either true b e = refl
either false true e = refl
either false false (inl e) = absurd e
either false false (inr e) = absurd e

out : (z l h : ℤ) → (z <ℤ l) ⊎ (h <ℤ z) → out_of_range (row z l h) ≡ true
out z l h (inl b) = either (lt_z z l) (lt_z h z) (inl b.lt)
out z l h (inr b) = either (lt_z z l) (lt_z h z) (inr b.lt)

-- a number of 2^63 or more is out of it, either way
large_out : (z l h : ℤ) → nat_abs l ≤ 1000000000 → nat_abs h ≤ 1000000000 → 9223372036854775807 ≤ nat_abs z → out_of_range (row z l h) ≡ true
large_out (pos n) l h a b g = out (pos n) l h (inr (parts-< (omega (arith, nat_abs_parts h))))
large_out (negsuc n) l h a b g = out (negsuc n) l h (inl (parts-< (omega (arith, nat_abs_parts l))))

pub row-held : (r : Row) → T (narrow r) → out_of_range (held_row r) ≡ out_of_range r
row-held r t = by (ltb (nat_abs r.value) (2 ^ 63)) refl
  where
    by : (b : Bool) → ltb (nat_abs r.value) (2 ^ 63) ≡ b → out_of_range (held_row r) ≡ out_of_range r
    by true e = ap (λ (z : ℤ). out_of_range (row z r.low r.high)) (held_small r.value (ltb-true (nat_abs r.value) (2 ^ 63) e))
    by false e =
        let g = ltb-false (nat_abs r.value) (2 ^ 63) e in
        let l = ends r t in
        ap (λ (z : ℤ). out_of_range (row z r.low r.high)) (held_large r.value g)
        ∙ large_out (pos 9223372036854775807) r.low r.high l.0 l.1 (omega arith)
        ∙ sym (large_out r.value r.low r.high l.0 l.1 (omega arith))

in-range-size : (r : Row) → T (narrow r) → (r.low ≤ℤ r.value) × (r.value ≤ℤ r.high) → nat_abs r.value ≤ 1000000000
in-range-size r t i =
    let l = ends r t in
    nat_abs_by r.value (omega (arith, ≤-parts i.1, nat_abs_parts r.high)) (omega (arith, ≤-parts i.0, nat_abs_parts r.low))

-- ---- several
abbrev pub all_narrow : List Row → Bool
all_narrow [] = true
all_narrow (r ∷ rs) = narrow r && all_narrow rs

pub ranges-held : (i : ℕ) (rs : List Row) → T (all_narrow rs) → first_out_of_range i (map held_row rs) ≡ first_out_of_range i rs
unfolding first_out_of_range
ranges-held i [] t = refl
ranges-held i (r ∷ rs) t =
    let n = and_yes (narrow r) (all_narrow rs) t in
    rw (row-held r n.0, ranges-held (suc i) rs n.1)

pub in-ranges-held : (rs : List Row) → T (all_narrow rs) → EachInRange rs → map held_row rs ≡ rs
in-ranges-held [] t e = refl
in-ranges-held (r ∷ rs) t e =
    let n = and_yes (narrow r) (all_narrow rs) t in
    let s = in-range-size r n.0 e.0 in
    ap₂ (λ (z : ℤ) (qs : List Row). row z r.low r.high ∷ qs) (held_small r.value (omega arith)) (in-ranges-held rs n.1 e.1)

pub in-ranges-sizes : (rs : List Row) → T (all_narrow rs) → EachInRange rs → (k : ℕ) → nat_abs (get_or (map (λ r. r.value) rs) k (pos 0)) ≤ 1000000000
in-ranges-sizes [] t e k = omega arith
in-ranges-sizes (r ∷ rs) t e zero = in-range-size r (and_yes (narrow r) (all_narrow rs) t).0 e.0
in-ranges-sizes (r ∷ rs) t e (suc k) = in-ranges-sizes rs (and_yes (narrow r) (all_narrow rs) t).1 e.1 k

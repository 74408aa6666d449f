-- Laws of a double's units. They depend on its value alone (`units_value`), which the fields of its bits give
-- (`units-fields`); and an exponent field of 2047 is that of what is not finite (`finite-fields`).
use Rattle.std.specs.Prelude.{◌≡◌, refl, Bool, true, false, not, cond, ℕ, zero, suc, ◌+◌, ◌*◌, ◌/◌, ◌%◌, ◌^◌, ◌≤◌, ◌<◌, T, leb, eqb, pos, neg_ℤ, nat_abs, Float, Ok, Err}
use Rattle.std.proofs.Math.Path.{sym}
use Rattle.std.proofs.Common.{ap, ◌∙◌, subst, arith, add-mul, mul_comm, mul_assoc, mul_left_comm, mul_right_comm, lt-ltb, le-ltb, pow_pos}
use Rattle.std.specs.Float.{nan, inf, fin}
use Rattle.std.specs.Float.Ieee.{up, down, binary64, odd, fits, of_fields, of_bits, to_bits, ne, is_nan}
use Rattle.std.specs.Float.Ieee.Compare.{differs_from_itself, nan_differs}
use Rattle.std.specs.Float.Ieee.Fits.{down_pos}
use Rattle.std.specs.Float.Ieee.Bits.{of_bits-to_bits}
use Rattle.std.specs.Float.Ieee.Exact.{HasValue, odd_sign}
use Rattle.std.specs.Float.Ieee.Nearest.{div_same}
use Rattle.std.specs.Float.Ieee.Scale.{finite}
use Rattle.binary64.specs.declared.NotUnits.TheVariants as NotUnits
use Rattle.rounding.specs.laws.Order.{parts-≤, nat_abs_opposite}
use Rattle.rounding.specs.Near.{half_up, near}
use Rattle.rounding.proofs.laws.NearLaws.{near-pos, near-opposite}
use Rattle.binary64.specs.Doubles.{signed, units_of, fitted, reading_of}
use Rattle.binary64.specs.laws.Fields.{size_of}

-- ---- a size and its sign
near-signed : (s : Bool) (n d : ℕ) → 0 < d → near (signed s n) (pos d) ≡ signed s (half_up n d)
near-signed false n d h = near-pos n d
near-signed true n d h = near-opposite (pos n) (pos d) (parts-≤ (omega arith)) ∙ ap neg_ℤ (near-pos n d)

pub signed-size : (s : Bool) (n : ℕ) → nat_abs (signed s n) ≡ n
signed-size false n = refl
signed-size true n = nat_abs_opposite (pos n)

pub fitted_small : (s : Bool) (n : ℕ) → n < 2 ^ 63 → fitted (signed s n) ≡ Ok (signed s n)
unfolding fitted
fitted_small s n h = rw (signed-size s n, lt-ltb n (2 ^ 63) h)

pub fitted_large : (s : Bool) (n : ℕ) → 2 ^ 63 ≤ n → fitted (signed s n) ≡ Err NotUnits.TooLarge
unfolding fitted
fitted_large s n h = rw (signed-size s n, le-ltb n (2 ^ 63) h)

-- ---- the units of a double of the sign s and the size a / c

pub twice_positive : (d : ℕ) → 0 < d → 0 < 2 * d
twice_positive d p = omega arith

-- equal fractions have the same nearest whole number
half_up-same : (n d m c : ℕ) → 0 < d → 0 < c → n * c ≡ m * d → half_up n d ≡ half_up m c
half_up-same n d m c D C e =
    div_same (2 * n + d) (2 * d) (2 * m + c) (2 * c) (twice_positive d D) (twice_positive c C)
    (cross n d c ∙ ap (λ (x : ℕ). 4 * x + 2 * (d * c)) e ∙ ap (λ (x : ℕ). 4 * (m * d) + 2 * x) (mul_comm d c) ∙ sym (cross m c d))
  where
    cross : (n d c : ℕ) → (2 * n + d) * (2 * c) ≡ 4 * (n * c) + 2 * (d * c)
    cross n d c =
        let a : (2 * n + d) * (2 * c) ≡ 2 * n * (2 * c) + d * (2 * c) = add-mul (2 * n) d (2 * c) in
        let b : 2 * n * (2 * c) ≡ 2 * (2 * n * c) = mul_left_comm (2 * n) 2 c in
        let e : 2 * n * c ≡ 2 * (n * c) = mul_assoc 2 n c in
        let f : d * (2 * c) ≡ 2 * (d * c) = mul_left_comm d 2 c in
        omega arith

pub units_value : (scale : ℕ) (x : Float) (s : Bool) (a c : ℕ) → 0 < c → HasValue x s a c → units_of scale x ≡ signed s (half_up (a * scale) c)
unfolding units_of
units_value scale nan s a c p v = absurd v
units_value scale (inf t) s a c p v = absurd v
units_value scale (fin t m e) s a c p v =
    near-signed t (m * up e * scale) (down e) (down_pos e)
    ∙ ap (λ (b : Bool). signed b (half_up (m * up e * scale) (down e))) v.0
    ∙ ap (λ (n : ℕ). signed s n)
    (half_up-same (m * up e * scale) (down e) (a * scale) c (down_pos e) p
    (mul_right_comm (m * up e) scale c ∙ ap (λ (n : ℕ). n * scale) v.1 ∙ mul_right_comm a (down e) scale))

-- ---- a NaN, and only that, differs from itself
pub is-nan : (x : Float) → ne x x ≡ true → x ≡ nan
is-nan x e = differs_from_itself x (subst T (sym e) tt)

pub no_nan : (x : Float) → ne x x ≡ false → T (not (is_nan x))
unfolding is_nan
no_nan nan e = subst (λ (b : Bool). T b) (sym nan_differs ∙ e) tt
no_nan (inf s) e = tt
no_nan (fin s m e) h = tt

pub finite_no_nan : (x : Float) → finite x ≡ true → T (not (is_nan x))
unfolding is_nan
finite_no_nan nan e = subst (λ (b : Bool). T b) (sym e) tt
finite_no_nan (inf s) e = tt
finite_no_nan (fin s m e) h = tt

-- ---- by the fields of the bits
finite_odd : (d : ℕ) (s : Bool) (q k l : ℕ) → finite (odd d s q k l) ≡ true
unfolding odd
finite_odd d s zero k l = refl
finite_odd d s (suc q) k l = refl

never : (s b : Bool) → finite (cond b (inf s) nan) ≡ false
never s true = refl
never s false = refl

of_fields_finite : (s : Bool) (f t : ℕ) → finite (of_fields binary64 s f t) ≡ not (eqb f 2047)
unfolding of_fields
of_fields_finite s zero t = finite_odd 53 s t 0 1074
of_fields_finite s (suc j) t = by (eqb (suc j) 2047)
  where
    by : (b : Bool) → finite (cond b (cond (eqb t 0) (inf s) nan) (odd 53 s (2 ^ 52 + t) j 1074)) ≡ not b
    by true = never s (eqb t 0)
    by false = finite_odd 53 s (2 ^ 52 + t) j 1074

of_fields_units : (scale : ℕ) (s : Bool) (f t : ℕ) → eqb f 2047 ≡ false → units_of scale (of_fields binary64 s f t) ≡ signed s (size_of scale f t)
unfolding of_fields size_of
of_fields_units scale s zero t n = units_value scale (odd 53 s t 0 1074) s (t * 2 ^ 0) (2 ^ 1074) (pow_pos 1074) (odd_sign 53 s t 0 1074)
of_fields_units scale s (suc j) t n =
    rw n (units_value scale (odd 53 s (2 ^ 52 + t) j 1074) s ((2 ^ 52 + t) * 2 ^ j) (2 ^ 1074) (pow_pos 1074) (odd_sign 53 s (2 ^ 52 + t) j 1074))

-- of a double that the format holds, which every `f64` is
module _ (x : Float) (F : T (fits binary64 x)) where
  abbrev bits : ℕ
  bits = to_bits binary64 x

  abbrev field : ℕ
  field = bits % 2 ^ 63 / 2 ^ 52

  fields-of : x ≡ of_fields binary64 (leb (2 ^ 63) bits) field (bits % 2 ^ 52)
  unfolding of_bits
  fields-of = sym (of_bits-to_bits binary64 x F)

  pub finite-fields : finite x ≡ not (eqb field 2047)
  finite-fields = ap finite fields-of ∙ of_fields_finite (leb (2 ^ 63) bits) field (bits % 2 ^ 52)

  pub units-fields : (scale : ℕ) → finite x ≡ true → units_of scale x ≡ signed (leb (2 ^ 63) bits) (size_of scale field (bits % 2 ^ 52))
  units-fields scale h =
      ap (λ (y : Float). units_of scale y) fields-of
      ∙ of_fields_units scale (leb (2 ^ 63) bits) field (bits % 2 ^ 52) (turned (eqb field 2047) (sym finite-fields ∙ h))
    where
      turned : (b : Bool) → not b ≡ true → b ≡ false
      turned true e = sym e
      turned false e = refl

-- ---- a reading by its ways
pub reading_none : (scale : ℕ) (x : Float) → finite x ≡ false → reading_of scale x ≡ Err NotUnits.NotFinite
unfolding reading_of
reading_none scale x h = rw h

pub reading-fits : (scale : ℕ) (x : Float) → finite x ≡ true → reading_of scale x ≡ fitted (units_of scale x)
unfolding reading_of
reading-fits scale x h = rw h

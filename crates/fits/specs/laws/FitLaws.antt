-- Laws of the answer: which list decides, and what the ranges give to those who compute on.
use Rattle.std.specs.Prelude.{◌≡◌, refl, List, ℕ, ◌≤◌, ◌<◌, ℤ, pos, neg_ℤ, nat_abs, ◌-ℤ◌, ◌≤ℤ◌, length, get_or, take, Err, Some, None, Ok}
use Rattle.std.proofs.Common.{arith}
use borrow.Author.Tests.{eq-eqb, ne_eqb}
use Rattle.rounding.specs.Parts.{is_self, is_minus}
use Rattle.rounding.specs.Limits.{first_out_of_range, EachInRange}
use Rattle.rounding.specs.laws.LimitsLaws.{each_in_range}
use Rattle.rounding.specs.Units.{hour}
use Rattle.rounding.specs.laws.Order.{nat_abs_by, nat_abs_le, nat_abs_between, nat_abs_product_le}
use Rattle.sheet_types.specs.Refusals.{refusal}
use Rattle.elements.specs.declared.Elements.{Elements}
use Rattle.elements.specs.Elements.{cubic_from, ranges}
use Rattle.fits.specs.Fits.{given_ranges, coefficient_ranges, hour_ranges, second, judged, fit_of}
use Rattle.fits.specs.Conditions.{InRanges}
use Rattle.fits.specs.laws.RangeLaws.{each-alike}

-- "the ranges of x" are those of the elements
pub ranges_of_x : (e : Elements) → take 4 (ranges e) ≡ coefficient_ranges e.axis.x
unfolding ranges coefficient_ranges
ranges_of_x e = refl

module _ (cs ts : List ℤ) (tolerance : ℤ) where
  pub fit-not-four : (length cs ≡ 4 → ⊥) → fit_of cs ts tolerance ≡ Err (refusal 10 0)
  unfolding fit_of
  fit-not-four h = rw (ne_eqb (length cs) 4 h)

  module _ (four : length cs ≡ 4) where
    pub fit-not-seven : (length ts ≡ 7 → ⊥) → fit_of cs ts tolerance ≡ Err (refusal 10 0)
    unfolding fit_of
    fit-not-seven h = rw (eq-eqb (length cs) 4 four, ne_eqb (length ts) 7 h)

    module _ (seven : length ts ≡ 7) where
      pub fit-judged : fit_of cs ts tolerance ≡ judged (cubic_from cs 0) ts tolerance
      unfolding fit_of
      fit-judged = rw (eq-eqb (length cs) 4 four, eq-eqb (length ts) 7 seven)

      pub fit-given : (i : ℕ) → first_out_of_range 0 (given_ranges tolerance ts) ≡ Some i → fit_of cs ts tolerance ≡ Err (refusal 18 i)
      unfolding judged
      fit-given i e = rw (fit-judged, e)

      module _ (given : first_out_of_range 0 (given_ranges tolerance ts) ≡ None) where
        given-in : EachInRange (given_ranges tolerance ts)
        given-in = each_in_range 0 (given_ranges tolerance ts) given

        pub stated : (pos 0 ≤ℤ tolerance) × (tolerance ≤ℤ pos 1000)
        unfolding given_ranges
        stated = given-in.0

        pub tolerance-size : nat_abs tolerance ≤ 1000
        tolerance-size = nat_abs_between tolerance 0 stated.0 stated.1

        pub fit-coefficient : (i : ℕ) → first_out_of_range 0 (coefficient_ranges (cubic_from cs 0)) ≡ Some i
            → fit_of cs ts tolerance ≡ Err (refusal 2 i)
        unfolding judged
        fit-coefficient i e = rw (fit-judged, given, e)

        module _ (proposed : first_out_of_range 0 (coefficient_ranges (cubic_from cs 0)) ≡ None) where
          pub fit-hour : (i : ℕ) → first_out_of_range 0 (hour_ranges (cubic_from cs 0) ts tolerance) ≡ Some i
              → fit_of cs ts tolerance ≡ Err (refusal 17 i)
          unfolding judged
          fit-hour i e = rw (fit-judged, given, proposed, e)

          pub fit-accepted : first_out_of_range 0 (hour_ranges (cubic_from cs 0) ts tolerance) ≡ None → fit_of cs ts tolerance ≡ Ok tt
          unfolding judged
          fit-accepted e = rw (fit-judged, given, proposed, e)

          pub in-ranges : InRanges cs ts
          unfolding given_ranges coefficient_ranges
          in-ranges =
              let c = cubic_from cs 0 in
              let x = each_in_range 0 (coefficient_ranges c) proposed in
              let t = each-alike (neg_ℤ (pos 1000000000)) (pos 1000000000) ts given-in.1 in
              record {
                four = four;
                of_x =
                    record {
                      c0 = nat_abs_le c.c0 x.0.0 x.0.1;
                      c1 = nat_abs_le c.c1 x.1.0.0 x.1.0.1;
                      c2 = nat_abs_le c.c2 x.1.1.0.0 x.1.1.0.1;
                      c3 = nat_abs_le c.c3 x.1.1.1.0.0 x.1.1.1.0.1;
                    };
                seven = seven;
                tabulated = λ i h. let at = t i (omega arith) in nat_abs_le (get_or ts i (pos 0)) at.0 at.1;
              }

-- the hours are within three of the reference instant
pub second-size : (i : ℕ) → i < 7 → nat_abs (second i) ≤ 10800
second-size i h =
    let m = (is_minus (is_self (pos i)) (is_self (pos 3))).is in
    nat_abs_product_le hour (pos i -ℤ pos 3) 3600 3 (omega arith) (nat_abs_by (pos i -ℤ pos 3) (omega arith) (omega arith))

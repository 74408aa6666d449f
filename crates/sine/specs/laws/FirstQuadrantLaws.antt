-- The rule between entries in natural numbers: r, w and what is added to the entry are never negative. `near` enters
-- by its laws alone.
--   arc_small, arc-square             r is at most 174,533, the arc of a tenth of a degree
--   Parts, taken, first-is            with r, w, S[k] and S[900-k] as natural numbers: S[k]·w is at most S[900-k]·r, and the sine is a sum
--   first-natural, first_small        the sine from 0 to 90 degrees is a natural number, and at most 10^8
--   first-least, first-most           it is at least entry k, and at most 174,533 more
--   first_zero                        at 0 it is 0
use Rattle.std.specs.Prelude.{◌≡◌, refl, Bool, true, false, cond, ◌⊎◌, ℕ, ◌+◌, ◌-◌, ◌*◌, ◌/◌, ◌%◌, ◌≤◌, ◌<◌, min, leb, ℤ, pos, neg_ℤ, nat_abs, ◌-ℤ◌}
use Rattle.std.proofs.Math.Path.{sym, ap}
use Rattle.std.proofs.Common.{◌∙◌, inl, inr, ⊎_elim, arith, mul-le-mul, mul-le-mul_left, mul-le-mul_right, eq-zero-or-pos, eq-or-lt_of_le, leb-true, leb-false}
use Rattle.std.specs.Int.Signed.{le_z_yes}
use Rattle.rounding.specs.Parts.{same, sum, opposite}
use Rattle.rounding.specs.Near.{near}
use Rattle.rounding.proofs.laws.NearLaws.{near-pos, near_zero}
use Rattle.sine_table.specs.Table.{S}
use Rattle.sine_table.specs.laws.TableLaws.{entry_0, entry_900, entry-small, entry-least}
use Rattle.sine.specs.FirstQuadrant.{arc, sag, between, capped, first_quadrant}

-- near of natural numbers, by its law
near_natural : {q : ℕ} (n k : ℕ) → pos q ≡ near (pos n) (pos k) → q ≡ (2 * n + k) / (2 * k)
near_natural n k e = ap nat_abs (e ∙ near-pos n k)

pos_minus : (m n : ℕ) → n ≤ m → pos m -ℤ pos n ≡ pos (m - n)
pos_minus m n h = same (pos m -ℤ pos n) (pos (m - n)) (omega (arith, (sum (pos m) (neg_ℤ (pos n))).is, (opposite (pos n)).is))

-- r and w, for b millionths of a degree
module _ {b r : ℕ} (below : b < 100_000) (r-is : pos r ≡ arc b) where
  r-by : r ≡ (2 * (b * 17_453_293) + 10_000_000) / 20_000_000
  unfolding arc
  r-by = near_natural (b * 17_453_293) 10_000_000 r-is

  pub arc_small : r ≤ 174_533
  arc_small = omega (arith, r-by)

  pub arc-square : r * r ≤ 174_533 * 174_533
  arc-square = mul-le-mul arc_small arc_small

  square : r * r ≤ r * 174_533
  square = mul-le-mul_left r arc_small

  module _ {w : ℕ} (w-is : pos w ≡ sag (pos r)) where
    w-by : w ≡ (2 * (r * r) + 200_000_000) / 400_000_000
    unfolding sag
    w-by = near_natural (r * r) 200_000_000 w-is

    sag-small : w ≤ 153
    sag-small = omega (arith, w-by, square, arc_small)

    -- w is to r at most as 174,533 to 10^8: it is 0 for r below 10,000, and the rounding is small against r from there
    -- on
    sag-low : r < 10_000 → w * 100_000_000 ≤ r * 174_533
    sag-low l =
        let q : r * r ≤ r * 9_999 = mul-le-mul_left r (omega arith) in
        let z : w ≡ 0 = omega (arith, w-by) in
        omega arith

    sag-high : 10_000 ≤ r → w * 100_000_000 ≤ r * 174_533
    sag-high l = omega (arith, w-by, square)

    sag-arc : w * 100_000_000 ≤ r * 174_533
    sag-arc = ⊎_elim (λ (z : 10_000 - r ≡ 0). sag-high (omega arith)) (λ (l : 0 < 10_000 - r). sag-low (omega arith)) (eq-zero-or-pos (10_000 - r))

cap : (m : ℕ) → capped (pos m) ≡ pos (min m 100_000_000)
unfolding capped
cap m = by (leb m 100_000_000) refl
  where
    by : (t : Bool) → leb m 100_000_000 ≡ t → cond (leb m 100_000_000) (pos m) (pos 100_000_000) ≡ pos (min m 100_000_000)
    by true q = rw q (ap pos (omega (arith, leb-true m 100_000_000 q)))
    by false q = rw q (ap pos (omega (arith, leb-false m 100_000_000 q)))

-- the numbers of the rule at the angle a: r, w, S[k] and S[900-k]
pub record Parts (a r w s c : ℕ) : Type 0 where
  pub r-is : pos r ≡ arc (a % 100_000)
  pub w-is : pos w ≡ sag (pos r)
  pub s-is : s ≡ S (a / 100_000)
  pub c-is : c ≡ S (900 - a / 100_000)

module _ {a r w s c : ℕ} (within : a ≤ 90_000_000) (p : Parts a r w s c) where
  over : a % 100_000 < 100_000
  over = omega arith

  r_small : r ≤ 174_533
  r_small = arc_small over p.r-is

  pub s-small : s ≤ 100_000_000
  s-small = rw p.s-is (entry-small (a / 100_000) (omega arith))

  pub c-small : c ≤ 100_000_000
  c-small = rw p.c-is (entry-small (900 - a / 100_000) (omega arith))

  pub cr-small : c * r ≤ 100_000_000 * 174_533
  cr-small = mul-le-mul c-small r_small

  pub sw-small : s * w ≤ 100_000_000 * 153
  sw-small = mul-le-mul s-small (sag-small over p.r-is p.w-is)

  -- no arc at 90 degrees, or an entry that is not entry 0
  either : (r ≡ 0) ⊎ (174_533 ≤ c)
  either =
      ⊎_elim (λ (e : a / 100_000 ≡ 900). inl (let o : a % 100_000 ≡ 0 = omega arith in omega (arith, r-by over p.r-is)))
      (λ (l : a / 100_000 < 900). inr (rw p.c-is (entry-least (900 - a / 100_000) (omega arith) (omega arith))))
      (eq-or-lt_of_le bound)
    where
      bound : a / 100_000 ≤ 900
      bound = omega arith

  -- what is taken away is not more than what it is taken from
  pub taken : s * w ≤ c * r
  taken =
      let up : s * w ≤ 100_000_000 * w = mul-le-mul_right w s-small in
      let ratio = sag-arc over p.r-is p.w-is in
      ⊎_elim (λ z. omega arith) (λ l. let down : 174_533 * r ≤ c * r = mul-le-mul_right r l in omega arith) either

  module _ {n : ℕ} (e : pos n ≡ near (pos (c * r - s * w)) (pos 100_000_000)) where
    pub step_small : n ≤ 174_533
    step_small = omega (arith, near_natural (c * r - s * w) 100_000_000 e, cr-small)

    between_is : between (a / 100_000) (arc (a % 100_000)) (sag (arc (a % 100_000))) ≡ pos (s + n)
    unfolding between
    between_is =
        rw (← p.r-is, ← p.w-is, ← p.s-is, ← p.c-is, pos_minus (c * r) (s * w) taken, ← e)

    pub first-is : first_quadrant a ≡ pos (min (s + n) 100_000_000)
    unfolding first_quadrant
    first-is = ap capped between_is ∙ cap (s + n)

-- ---- the sine of an angle from 0 to 90 degrees

-- it is entry k and a step, or 10^8
pub record First (a : ℕ) : Type 0 where
  pub step : ℕ
  pub step_small : step ≤ 174_533
  pub is : first_quadrant a ≡ pos (min (S (a / 100_000) + step) 100_000_000)

module _ (a : ℕ) (within : a ≤ 90_000_000) where
  pub first : First a
  unfolding arc sag
  first =
      let b = a % 100_000 in
      let r = (2 * (b * 17_453_293) + 10_000_000) / 20_000_000 in
      let w = (2 * (r * r) + 200_000_000) / 400_000_000 in
      let s = S (a / 100_000) in
      let c = S (900 - a / 100_000) in
      let p : Parts a r w s c
      = record {
        r-is = sym (near-pos (b * 17_453_293) 10_000_000);
        w-is = sym (near-pos (r * r) 200_000_000);
        s-is = refl;
        c-is = refl;
      } in
      let e = sym (near-pos (c * r - s * w) 100_000_000) in
      record { step = (2 * (c * r - s * w) + 100_000_000) / 200_000_000; step_small = step_small within p e; is = first-is within p e }

  pub first-natural : first_quadrant a ≡ pos (nat_abs (first_quadrant a))
  first-natural = first.is ∙ ap (λ (z : ℤ). pos (nat_abs z)) (sym first.is)

  size_is : nat_abs (first_quadrant a) ≡ min (S (a / 100_000) + first.step) 100_000_000
  size_is = ap nat_abs first.is

  pub first_small : nat_abs (first_quadrant a) ≤ 100_000_000
  first_small = omega (arith, size_is)

  -- at least the entry, and at most the arc of a tenth of a degree more
  pub first-least : S (a / 100_000) ≤ nat_abs (first_quadrant a)
  first-least = omega (arith, size_is, entry-small (a / 100_000) (omega arith))

  pub first-most : nat_abs (first_quadrant a) ≤ S (a / 100_000) + 174_533
  first-most = omega (arith, size_is, first.step_small)

pub first_zero : first_quadrant 0 ≡ pos 0
unfolding arc sag
first_zero =
    first-is (omega arith)
    (record {
      r-is = sym (near_zero (pos 10_000_000) (le_z_yes tt));
      w-is = sym (near_zero (pos 200_000_000) (le_z_yes tt));
      s-is = sym entry_0;
      c-is = sym entry_900;
    })
    (sym (near_zero (pos 100_000_000) (le_z_yes tt)))

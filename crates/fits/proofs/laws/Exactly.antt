-- "Accept a proposed fit exactly if ..": the answer is `Ok` exactly where every condition holds.
use Rattle.std.specs.Prelude.{◌≡◌, refl, Bool, true, false, cond, ◌&&◌, List, ℕ, ◌≤◌, ◌<◌, eqb, ℤ, pos, negsuc, neg_ℤ, nat_abs, ◌≤ℤ◌, length, get_or, Option, Result, Ok, None, Some, Err}
use Rattle.std.proofs.Common.{subst, arith}
use borrow.Author.Tests.{eqb-true}
use Rattle.rounding.specs.Limits.{first_out_of_range}
use Rattle.rounding.specs.laws.LimitsLaws.{each_in_range}
use Rattle.rounding.specs.laws.Order.{≤-parts, nat_abs_le, le_nat_abs, neg_nat_abs}
use Rattle.sheet_types.specs.declared.refusals.Refusal.{Refusal}
use Rattle.sheet_types.specs.Refusals.{refusal}
use Rattle.elements.specs.declared.Cubic.{Cubic}
use Rattle.elements.specs.Elements.{cubic_from}
use Rattle.fits.specs.Fits.{given_ranges, coefficient_ranges, difference, differences, hour_ranges, unless, judged, fit_of}
use Rattle.fits.specs.Conditions.{Acceptable, AcceptedExactlyIf}
use Rattle.fits.specs.laws.RangeLaws.{none_out, each-alike, alike-each, seven_at}
use Rattle.fits.specs.laws.FitLaws.{fit-accepted, in-ranges, stated}

-- ---- each decides that comes before the last
unless-accepted : (l : Option ℕ) (r : ℕ → Refusal) (next : Result Unit Refusal) → unless l r next ≡ Ok tt → (l ≡ None) × (next ≡ Ok tt)
unless-accepted None r next e = (refl, e)
unless-accepted (Some i) r next e = let z : ◌≡◌ {A = ℕ} 0 1 = cc in absurd (omega arith)

shape_accepted : (a b : Bool) (x : Result Unit Refusal) → cond (a && b) x (Err (refusal 10 0)) ≡ Ok tt → (a ≡ true) × (b ≡ true) × (x ≡ Ok tt)
shape_accepted true true x e = (refl, refl, e)
shape_accepted true false x e = let z : ◌≡◌ {A = ℕ} 0 1 = cc in absurd (omega arith)
shape_accepted false b x e = let z : ◌≡◌ {A = ℕ} 0 1 = cc in absurd (omega arith)

-- ---- a size and a range
abbrev In : ℤ → ℤ → Type 0
In t z = (neg_ℤ t ≤ℤ z) × (z ≤ℤ t)

range_size : (t z : ℤ) → pos 0 ≤ℤ t → In t z → pos (nat_abs z) ≤ℤ t
range_size (pos m) z h i = le_nat_abs (pos (nat_abs z)) (nat_abs_le z i.0 i.1)
range_size (negsuc m) z h i = absurd h.le

within : (z : ℤ) {m : ℕ} → nat_abs z ≤ m → In (pos m) z
within z h = (neg_nat_abs z h, le_nat_abs z h)

size_range : (t z : ℤ) → pos (nat_abs z) ≤ℤ t → In t z
size_range (pos m) z h = within z (omega (arith, ≤-parts h))
size_range (negsuc m) z h = absurd h.le

module _ (cs ts : List ℤ) (tolerance : ℤ) where
  abbrev c : Cubic
  c = cubic_from cs 0

  only : fit_of cs ts tolerance ≡ Ok tt → Acceptable cs ts tolerance
  unfolding fit_of judged hour_ranges difference
  only e =
      let s = shape_accepted (eqb (length cs) 4) (eqb (length ts) 7) (judged c ts tolerance) e in
      let four = eqb-true (length cs) 4 s.0 in
      let seven = eqb-true (length ts) 7 s.1 in
      let g = unless-accepted (first_out_of_range 0 (given_ranges tolerance ts)) (refusal 18) _ s.2 in
      let p = unless-accepted (first_out_of_range 0 (coefficient_ranges c)) (refusal 2) _ g.1 in
      let u = unless-accepted (first_out_of_range 0 (hour_ranges c ts tolerance)) (refusal 17) _ p.1 in
      let t = stated cs ts tolerance four seven g.0 in
      let each = each-alike (neg_ℤ tolerance) tolerance (differences c ts) (each_in_range 0 (hour_ranges c ts tolerance) u.0) in
      record {
        in-ranges = in-ranges cs ts tolerance four seven g.0 p.0;
        stated = t;
        close = λ k h. range_size tolerance (difference c ts k) t.0 (subst (In tolerance) (seven_at (difference c ts) k h) (each k h));
      }

  enough : Acceptable cs ts tolerance → fit_of cs ts tolerance ≡ Ok tt
  unfolding given_ranges coefficient_ranges hour_ranges difference
  enough a =
      let r = a.in-ranges in
      let x = r.of_x in
      let t = alike-each (neg_ℤ (pos 1000000000)) (pos 1000000000) ts (λ k h. within (get_or ts k (pos 0)) (r.tabulated k (omega (arith, r.seven)))) in
      let at : (k : ℕ) → k < 7 → In tolerance (get_or (differences c ts) k (pos 0)) =
      λ k h. rw (seven_at (difference c ts) k h) (size_range tolerance (difference c ts k) (a.close k h))
      in
      fit-accepted cs ts tolerance r.four r.seven
      (none_out 0 (given_ranges tolerance ts) (a.stated, t))
      (none_out 0 (coefficient_ranges c) (within c.c0 x.c0, (within c.c1 x.c1, (within c.c2 x.c2, (within c.c3 x.c3, tt)))))
      (none_out 0 (hour_ranges c ts tolerance) (alike-each (neg_ℤ tolerance) tolerance (differences c ts) at))

pub accepted_exactly_if : AcceptedExactlyIf
accepted_exactly_if cs ts tolerance = (only cs ts tolerance, enough cs ts tolerance)

-- Laws of units as doubles: the ways of an answer, what holds where the doubles are made, and what is promised then.
use Rattle.std.specs.Prelude.{◌≡◌, refl, Bool, true, false, List, ◌++◌, ℕ, zero, suc, ◌≤◌, ◌<◌, leb, eqb, ℤ, pos, length, drop, Float, Err, Ok, Result}
use Rattle.std.proofs.Common.{sym, ◌∙◌, arith}
use Rattle.std.proofs.Math.Path.{subst}
use borrow.Author.Tests.{leb-true, leb-false, le-leb, lt-leb, eqb-true, eqb-false, eq-eqb, ne_eqb}
use Rattle.std.proofs.Math.IntN.{nat_abs}
use Rattle.std.proofs.Math.ListN.{get_or}
use Rattle.rounding.specs.laws.LimitsLaws.{each_in_range}
use Rattle.sheet_types.specs.declared.refusals.Refusal.{Refusal}
use Rattle.sheet_types.specs.Refusals.{refusal}
use Rattle.sheet_types.specs.laws.RefusalLaws.{of_limits_within}
use Rattle.elements.specs.Elements as E
use Rattle.elements.specs.Elements.{elements_of, elements_checked}
use Rattle.elements.specs.laws.ElementsLaws.{spelled}
use Rattle.station.specs.Station as S
use Rattle.station.specs.Sizes.{station_sizes}
use Rattle.binary64.specs.laws.HeldLaws.{in-ranges-sizes}
use Rattle.float_requests.specs.Instrument.{scales}
use Rattle.float_requests.specs.Writing.{doubles_in, only_longitude, longitude_checked, answer_to, room_after, Claimed}
use Rattle.float_requests.specs.laws.ReadBackLaws.{InRanges, all-read-back}

-- ---- the ways of an answer
module _ (us : List ℤ) (room : ℕ) where
  pub answer-shape : (length us ≡ 23 → ⊥) → answer_to us room ≡ Err (refusal 10 0)
  unfolding answer_to
  answer-shape h = rw (ne_eqb (length us) 23 h)

  module _ (c : length us ≡ 23) where
    pub answer-element : (r : Refusal) → elements_checked (elements_of us) ≡ Err r → answer_to us room ≡ Err r
    unfolding answer_to
    answer-element r e = rw (eq-eqb (length us) 23 c, e)

    module _ (e : elements_checked (elements_of us) ≡ Ok tt) where
      pub answer-longitude : (r : Refusal) → longitude_checked (get_or us 22 (pos 0)) ≡ Err r → answer_to us room ≡ Err r
      unfolding answer_to
      answer-longitude r l = rw (eq-eqb (length us) 23 c, e, l)

      module _ (l : longitude_checked (get_or us 22 (pos 0)) ≡ Ok tt) where
        pub answer-room : room < 23 → answer_to us room ≡ Err (refusal 4 23)
        unfolding answer_to
        answer-room h = rw (eq-eqb (length us) 23 c, e, l, lt-leb 23 room h)

        pub answer-made : 23 ≤ room → answer_to us room ≡ Ok tt
        unfolding answer_to
        answer-made h = rw (eq-eqb (length us) 23 c, e, l, le-leb 23 room h)

-- ---- each unit in its range
spelled_at : (n : ℕ) (f : ℕ → ℤ) (k : ℕ) → k < n → get_or (spelled n f) k (pos 0) ≡ f k
spelled_at zero f k h = absurd (omega arith)
spelled_at (suc n) f zero h = refl
spelled_at (suc n) f (suc k) h = spelled_at n (λ i. f (suc i)) k (omega arith)

module _ (us : List ℤ) (e : elements_checked (elements_of us) ≡ Ok tt) (l : longitude_checked (get_or us 22 (pos 0)) ≡ Ok tt) where
  element-size : (k : ℕ) → k < 22 → nat_abs (get_or us k (pos 0)) ≤ 1000000000
  unfolding E.range_of E.ranges elements_of
  element-size k h =
      let i = each_in_range 0 (E.ranges (elements_of us)) (of_limits_within 2 (E.range_of (elements_of us)) e) in
      subst (λ (z : ℤ). nat_abs z ≤ 1000000000) (spelled_at 22 (λ j. get_or us j (pos 0)) k h) (in-ranges-sizes (E.ranges (elements_of us)) tt i k)

  longitude_size : nat_abs (get_or us 22 (pos 0)) ≤ 1000000000
  longitude_size =
      let station = only_longitude (get_or us 22 (pos 0)) in
      omega (arith, (station_sizes station (of_limits_within 3 (S.range_of station) l)).longitude)

  in-ranges : length us ≡ 23 → InRanges us
  in-ranges c = record { count = c; sizes = λ k h. by k h (leb (suc k) 22) refl }
    where
      by : (k : ℕ) → k < 23 → (b : Bool) → leb (suc k) 22 ≡ b → nat_abs (get_or us k (pos 0)) ≤ 1000000000
      by k h true t = element-size k (leb-true (suc k) 22 t)
      by k h false t =
          let same : 22 ≡ k = omega (arith, leb-false (suc k) 22 t) in
          subst (λ (j : ℕ). nat_abs (get_or us j (pos 0)) ≤ 1000000000) same longitude_size

-- ---- made: 23 units in their ranges, and a buffer that is long enough
pub record Good (us : List ℤ) (room : ℕ) : Type 0 where
  pub in-ranges : InRanges us
  pub enough : 23 ≤ room

abbrev IsMade : Result Unit Refusal → Type 0
IsMade (Ok tt) = Unit
IsMade (Err r) = ⊥

pub made_good : (us : List ℤ) (room : ℕ) → answer_to us room ≡ Ok tt → Good us room
made_good us room e = shape (eqb (length us) 23) refl
  where
    -- a refusal is no success
    no : {r : Result Unit Refusal} → answer_to us room ≡ r → IsMade r
    no f = subst IsMade (sym e ∙ f) tt

    fits : length us ≡ 23 → elements_checked (elements_of us) ≡ Ok tt → longitude_checked (get_or us 22 (pos 0)) ≡ Ok tt
        → (b : Bool) → leb 23 room ≡ b → Good us room
    fits c f l true h = record { in-ranges = in-ranges us f l c; enough = leb-true 23 room h }
    fits c f l false h = absurd (no (answer-room us room c f l (leb-false 23 room h)))

    longitude : length us ≡ 23 → elements_checked (elements_of us) ≡ Ok tt → (k : Result Unit Refusal) → longitude_checked (get_or us 22 (pos 0)) ≡ k → Good us room
    longitude c f (Ok tt) l = fits c f l (leb 23 room) refl
    longitude c f (Err r) l = absurd (no (answer-longitude us room c f r l))

    elements : length us ≡ 23 → (k : Result Unit Refusal) → elements_checked (elements_of us) ≡ k → Good us room
    elements c (Ok tt) f = longitude c f (longitude_checked (get_or us 22 (pos 0))) refl
    elements c (Err r) f = absurd (no (answer-element us room c r f))

    shape : (b : Bool) → eqb (length us) 23 ≡ b → Good us room
    shape true h = elements (eqb-true (length us) 23 h) (elements_checked (elements_of us)) refl
    shape false h = absurd (no (answer-shape us room (eqb-false (length us) 23 h)))

-- ---- what is promised
module _ (us : List ℤ) (old : List Float) where
  pub after-refused : {r : Refusal} → answer_to us (length old) ≡ Err r
      → (old ≡ room_after (answer_to us (length old)) us old) × Claimed (answer_to us (length old)) us old
  after-refused e = rw e (refl, tt)

  pub after-made : (new : List Float) → answer_to us (length old) ≡ Ok tt → new ≡ doubles_in scales us ++ drop 23 old
      → (new ≡ room_after (answer_to us (length old)) us old) × Claimed (answer_to us (length old)) us new
  after-made new e n =
      let g = made_good us (length old) e in
      rw e (n, subst (Claimed (Ok tt) us) (sym n) (all-read-back us g.in-ranges (drop 23 old)))

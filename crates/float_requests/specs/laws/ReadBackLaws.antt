-- "reading it back gives the same unit for every value in range": the doubles of 23 units in their ranges are read
-- back, all of them.
use Rattle.std.specs.Prelude.{◌≡◌, refl, true, List, [], ◌∷◌, ◌++◌, ℕ, zero, suc, ◌≤◌, ◌<◌, ℤ, pos, nat_abs, length, Float, Ok}
use Rattle.std.proofs.Common.{sym, subst, arith}
use Rattle.std.proofs.Math.Path.{ap}
use Rattle.std.proofs.Math.ListN.{get_or}
use Rattle.std.specs.Float.{nan}
use Rattle.std.specs.Float.Ieee.Scale.{finite}
use Rattle.elements.specs.Elements.{elements_of}
use Rattle.elements.specs.laws.ElementsLaws.{spelled}
use Rattle.binary64.specs.declared.Longitude.TheVariants.{Degrees}
use Rattle.binary64.specs.Doubles.{units_of, ReadsBack}
use Rattle.binary64.proofs.laws.ReadBack.{reads_back}
use Rattle.float_requests.specs.Instrument.{doubles_of, first_not_finite, scales, elements_in}
use Rattle.float_requests.specs.Writing.{doubles_in, ReadBack}
use Rattle.float_requests.specs.laws.ScaleLaws.{scale_in, doubles_at}
use Rattle.float_requests.specs.laws.SearchLaws.{finite-all}

-- 22 elements and a longitude, each small enough to be read back
pub record InRanges (us : List ℤ) : Type 0 where
  pub count : length us ≡ 23
  pub sizes : (k : ℕ) → k < 23 → nat_abs (get_or us k (pos 0)) ≤ 1000000000

-- ---- lists by what stands at each place
spelled_same : (n : ℕ) (f g : ℕ → ℤ) → ((k : ℕ) → k < n → f k ≡ g k) → spelled n f ≡ spelled n g
spelled_same zero f g h = refl
spelled_same (suc n) f g h = rw (h 0 (omega arith), spelled_same n (λ k. f (suc k)) (λ k. g (suc k)) (λ k l. h (suc k) (omega arith)))

abbrev spelled_doubles : ℕ → (ℕ → Float) → List Float
spelled_doubles zero f = []
spelled_doubles (suc n) f = f 0 ∷ spelled_doubles n (λ k. f (suc k))

none_found : (i n : ℕ) (f : ℕ → Float) → ((k : ℕ) → k < n → finite (f k) ≡ true) → first_not_finite i (spelled_doubles n f) ≡ Ok tt
unfolding first_not_finite
none_found i zero f h = refl
none_found i (suc n) f h = rw (h 0 (omega arith)) (none_found (suc i) n (λ k. f (suc k)) (λ k l. h (suc k) (omega arith)))

module _ (us : List ℤ) (r : InRanges us) (rest : List Float) where
  abbrev room : List Float
  room = doubles_in scales us ++ rest

  each : (k : ℕ) → k < 23 → ReadsBack (get_or scales k 0) (get_or us k (pos 0)) (get_or room k nan)
  each k h =
      let s = scale_in k h in
      let z = r.sizes k h in
      subst (λ (x : Float). ReadsBack (get_or scales k 0) (get_or us k (pos 0)) x) (sym (doubles_at scales us rest k h (omega (arith, r.count))))
      (reads_back (get_or scales k 0) (get_or us k (pos 0)) (omega arith) (omega arith) (omega arith))

  pub all-read-back : ReadBack us room
  unfolding elements_in elements_of
  all-read-back =
      record {
        all_finite =
            finite-all (doubles_of room) (Degrees (get_or room 22 nan)) (none_found 0 22 (λ k. get_or room k nan) (λ k h. (each k (omega arith)).is_finite))
            (each 22 (omega arith)).is_finite;
        elements =
            ap elements_of
            (spelled_same 22 (λ k. units_of (get_or scales k 0) (get_or room k nan)) (λ k. get_or us k (pos 0)) (λ k h. (each k (omega arith)).units));
        longitude = (each 22 (omega arith)).units;
      }

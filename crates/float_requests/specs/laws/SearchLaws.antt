-- Laws of the search for a double that is not finite.
use Rattle.std.specs.Prelude.{◌≡◌, refl, Bool, true, false, cond, List, [], ◌∷◌, ℕ, suc, ◌+◌, ◌<◌, length, get_or, drop, Float, Err, Ok, Result}
use Rattle.std.proofs.Common.{sym, ◌∙◌, add-one, drop-cons}
use Rattle.std.proofs.Math.Seq.{drop-length}
use Rattle.std.specs.Float.Ieee.{nan}
use Rattle.std.specs.Float.Ieee.Scale.{finite}
use Rattle.sheet_types.specs.declared.refusals.Refusal.{Refusal}
use Rattle.sheet_types.specs.Refusals.{refusal, andThen}
use Rattle.sheet_types.specs.laws.RefusalLaws.{not_within, refused_number}
use Rattle.binary64.specs.declared.Longitude.{Longitude}
use Rattle.binary64.specs.Doubles.{double_in}
use Rattle.float_requests.specs.declared.instrument.ElementDoubles.{ElementDoubles}
use Rattle.float_requests.specs.Instrument.{fields, first_not_finite, finite_checked}

-- ---- at place i
module _ (xs : List Float) (i : ℕ) (h : i < length xs) where
  here : first_not_finite i (drop i xs) ≡ cond (finite (get_or xs i nan)) (first_not_finite (i + 1) (drop (i + 1) xs)) (Err (refusal 12 i))
  unfolding first_not_finite
  here = rw (drop-cons xs i nan h, add-one)

  pub search-found : finite (get_or xs i nan) ≡ false → first_not_finite i (drop i xs) ≡ Err (refusal 12 i)
  search-found e = here ∙ rw e

  pub search-on : finite (get_or xs i nan) ≡ true → first_not_finite i (drop i xs) ≡ first_not_finite (i + 1) (drop (i + 1) xs)
  search-on e = here ∙ rw e

pub search-end : (xs : List Float) (i : ℕ) → i ≡ length xs → first_not_finite i (drop i xs) ≡ Ok tt
unfolding first_not_finite
search-end xs i e = rw (e, drop-length)

twelve_in : (i : ℕ) (xs : List Float) (r : Refusal) → first_not_finite i xs ≡ Err r → r.number ≡ 12
unfolding first_not_finite
twelve_in i [] r e = absurd (not_within (sym e))
twelve_in i (x ∷ xs) r e = by (finite x) e (twelve_in (suc i) xs r)
  where
    by : (b : Bool) → cond b (first_not_finite (suc i) xs) (Err (refusal 12 i)) ≡ Err r
        → (first_not_finite (suc i) xs ≡ Err r → r.number ≡ 12) → r.number ≡ 12
    by true f rest = rest f
    by false f rest = refused_number f

-- ---- the elements, then the longitude
module _ (d : ElementDoubles) (l : Longitude) where
  pub finite-element : (r : Refusal) → first_not_finite 0 (fields d) ≡ Err r → finite_checked d l ≡ Err r
  finite-element r e = rw e

  module _ (e : first_not_finite 0 (fields d) ≡ Ok tt) where
    pub finite-longitude : finite (double_in l) ≡ false → finite_checked d l ≡ Err (refusal 12 22)
    unfolding first_not_finite
    finite-longitude f = rw (e, f)

    pub finite-all : finite (double_in l) ≡ true → finite_checked d l ≡ Ok tt
    unfolding first_not_finite
    finite-all f = rw (e, f)

  -- nothing but 12 is refused
  pub twelve : (r : Refusal) → finite_checked d l ≡ Err r → r.number ≡ 12
  twelve r e = by (first_not_finite 0 (fields d)) refl e
    where
      by : (c : Result Unit Refusal) → first_not_finite 0 (fields d) ≡ c → andThen c (first_not_finite 22 (double_in l ∷ [])) ≡ Err r → r.number ≡ 12
      by (Ok tt) h f = twelve_in 22 (double_in l ∷ []) r f
      by (Err x) h f = twelve_in 0 (fields d) r (h ∙ f)

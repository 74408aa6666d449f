-- What callers use of checks.
use Rattle.std.specs.Prelude.{◌≡◌, refl, List, ℕ, ℤ, Result, Ok, Err, Option, None, Some}
use Rattle.std.proofs.Common.{sym, subst, ap, ◌∙◌}
use Rattle.rounding.specs.Limits.{first_out_of_range, rows}
use Rattle.sheet_types.specs.declared.refusals.Refusal.{Refusal}
use Rattle.sheet_types.specs.Refusals.{of_limits, andThen}

abbrev is_within : Result Unit Refusal → Type 0
is_within (Ok tt) = Unit
is_within (Err r) = ⊥

pub not_within : {r : Refusal} → ◌≡◌ {A = Result Unit Refusal} (Err r) (Ok tt) → ⊥
not_within e = subst is_within (sym e) tt

-- nothing is refused: every number is in its range
pub of_limits_within : (number : ℕ) (l : Option ℕ) → of_limits number l ≡ Ok tt → l ≡ None
of_limits_within number None e = refl
of_limits_within number (Some k) e = absurd (not_within e)

-- a refusal has the place of the number that is out of its range
pub of_limits_refused : (number : ℕ) (l : Option ℕ) (r : Refusal) → of_limits number l ≡ Err r → l ≡ Some r.place
of_limits_refused number None r e = absurd (not_within (sym e))
of_limits_refused number (Some k) r e = ap Some (ap place e)
  where
    place : Result Unit Refusal → ℕ
    place (Ok tt) = 0
    place (Err q) = q.place

-- one check, and another where it finds nothing
pub then_within : (c d : Result Unit Refusal) → c ≡ Ok tt → andThen c d ≡ d
then_within c d e = rw e

pub then_refused : (c d : Result Unit Refusal) (r : Refusal) → c ≡ Err r → andThen c d ≡ Err r
then_refused c d r e = rw e

-- nothing is refused by both
pub both-within : (c d : Result Unit Refusal) → andThen c d ≡ Ok tt → (c ≡ Ok tt) × (d ≡ Ok tt)
both-within (Ok tt) d e = (refl, e)
both-within (Err r) d e = absurd (not_within e)

-- the number that a check can give
abbrev pub number_in : Result Unit Refusal → ℕ
number_in (Ok tt) = 0
number_in (Err r) = r.number

pub refused_number : {c : Result Unit Refusal} {r : Refusal} → c ≡ Err r → r.number ≡ number_in c
refused_number {c} {r} e = sym (ap number_in e)

-- what is checked of values that are listed is what is checked of the list
pub ranges_listed : {c : Result Unit Refusal} {xs ys : List ℤ} (number : ℕ) (ls hs : List ℤ)
    → c ≡ of_limits number (first_out_of_range 0 (rows xs ls hs)) → xs ≡ ys
    → c ≡ of_limits number (first_out_of_range 0 (rows ys ls hs))
ranges_listed number ls hs e f = e ∙ ap (λ (zs : List ℤ). of_limits number (first_out_of_range 0 (rows zs ls hs))) f

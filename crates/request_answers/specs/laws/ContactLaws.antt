-- Laws of a contact and the buffer for its numbers.
use Rattle.std.specs.Prelude.{◌≡◌, refl, Bool, true, false, cond, List, ℕ, ◌≤◌, ◌<◌, leb, ℤ, Ok, Err, Result}
use Rattle.std.proofs.Common.{arith, leb-true, le-leb}
use Rattle.std.proofs.lemmas.Bool.{lt-leb}
use Rattle.requests.specs.declared.Occultation.{Occultation}
use Rattle.sheet_types.specs.declared.refusals.Refusal.{Refusal}
use Rattle.sheet_types.specs.Refusals.{refusal}
use Rattle.request_answers.specs.Contacts.{contact_asked, contact_sines_asked, contact_into}

module _ (k : ℕ) (a b : ℤ) where
  pub contact-short : k < 2 → contact_into k (Ok (a, b)) ≡ Err (refusal 4 2)
  contact-short h = rw (lt-leb 2 k h)

  pub contact-whole : 2 ≤ k → contact_into k (Ok (a, b)) ≡ Ok (a, b)
  contact-whole h = rw (le-leb 2 k h)

  -- a contact that was given fits its buffer
  pub contact-fits : (o : Result (ℤ × ℤ) Refusal) → contact_into k o ≡ Ok (a, b) → 2 ≤ k
  contact-fits (Err r) e = let z : ◌≡◌ {A = ℕ} 0 1 = cc in absurd (omega arith)
  contact-fits (Ok (p, q)) e = by (leb 2 k) refl e
    where
      by : (t : Bool) → leb 2 k ≡ t → cond {A = Result (ℤ × ℤ) Refusal} t (Ok (p, q)) (Err (refusal 4 2)) ≡ Ok (a, b) → 2 ≤ k
      by true h e = leb-true 2 k h
      by false h e = let z : ◌≡◌ {A = ℕ} 0 1 = cc in absurd (omega arith)

-- the same of equal numbers
module _ {i j : Result Occultation Refusal} {φ ψ f g t u : ℤ} (e : i ≡ j) (p : φ ≡ ψ) (h : f ≡ g) (k : t ≡ u) (sines : List ℕ) where
  pub asked-same : contact_asked i φ f t sines ≡ contact_asked j ψ g u sines
  asked-same = rw (e, p, h, k) refl

  pub sines-same : contact_sines_asked i φ f t sines ≡ contact_sines_asked j ψ g u sines
  sines-same = rw (e, p, h, k) refl

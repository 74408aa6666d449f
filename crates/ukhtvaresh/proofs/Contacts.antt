-- A contact that was given, as numbers.
use Rattle.std.specs.Prelude.{Result, ℤ}
use mathlib.Core.Path.{◌≡◌, ap, ◌∙◌}
use mathlib.Core.List.{List}
use Rattle.sheet_types.specs.declared.refusals.Refusal.{Refusal}
use Prim.Native.Nat.{ℕ}
use lib.IntN.{ℤ}
use Rattle.request_format.specs.declared.fields.Shape.{Shape}
use Rattle.request_answers.specs.Second.{wish}
use Rattle.request_answers.specs.Contacts.{contact_sines_asked, contact_given, contact_after}
use Rattle.ukhtvaresh.specs.declared.replies.Reply.{Reply}
use Rattle.ukhtvaresh.specs.Contacts.{contact_reply}

module _ (shape : Shape) (request sines : List ℕ) (old : List ℤ) where
  -- what was given, and what the two buffers hold
  abbrev Rooms : (φ from to : ℤ) (new : List ℤ) (left : List ℕ) → Type 0
  Rooms φ from to new left =
      (new ≡ contact_after (contact_given shape request φ from to sines old) old) × (left ≡ contact_sines_asked (wish shape request) φ from to sines)

  abbrev Given : (φ from to : ℤ) (given : Result (ℤ × ℤ) Refusal) (new : List ℤ) (left : List ℕ) → Type 0
  Given φ from to given new left = (given ≡ contact_given shape request φ from to sines old) × Rooms φ from to new left

  -- the same of equal numbers
  moved : {φ ψ f g t u : ℤ} (given : Result (ℤ × ℤ) Refusal) (new : List ℤ) (left : List ℕ) → φ ≡ ψ → f ≡ g → t ≡ u → Given φ f t given new left → Given ψ g u given new left
  moved given new left e h k p = rw (← e, ← h, ← k) p

  -- what an export promises, where the numbers are read back from their bits
  pub contact-replied : {φ ψ f g t u : ℤ} {given : Result (ℤ × ℤ) Refusal} {reply : Reply} {new : List ℤ} {left : List ℕ} → φ ≡ ψ → f ≡ g → t ≡ u
      → reply ≡ contact_reply given → Given φ f t given new left
      → (reply.number ≡ (contact_reply (contact_given shape request ψ g u sines old)).number)
      × ((reply.value ≡ (contact_reply (contact_given shape request ψ g u sines old)).value) × Rooms ψ g u new left)
  contact-replied {given = given} {new = new} {left = left} e h k is p =
      let q = moved given new left e h k p in
      let w = is ∙ ap contact_reply q.0 in
      (ap (λ (x : Reply). x.number) w, (ap (λ (x : Reply). x.value) w, q.1))

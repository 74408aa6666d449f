-- A second that was given, as numbers.
use Rattle.std.specs.Prelude.{Result}
use mathlib.Core.Path.{◌≡◌, subst, ap, ◌∙◌}
use mathlib.Core.List.{List}
use Rattle.shadow.specs.declared.Second.{Second}
use Rattle.sheet_types.specs.declared.refusals.Refusal.{Refusal}
use Prim.Native.Nat.{ℕ}
use lib.IntN.{ℤ}
use Rattle.request_format.specs.declared.fields.Shape.{Shape}
use Rattle.request_answers.specs.Second.{wish, sines_asked, second_given, numbers_after, GivenMeans}
use Rattle.ukhtvaresh.specs.declared.replies.Reply.{Reply}
use Rattle.ukhtvaresh.specs.Seconds.{second_reply}

module _ (shape : Shape) (request sines : List ℕ) (old : List ℤ) where
  -- what stands in the two buffers
  abbrev Rooms : ℤ → (new : List ℤ) (left : List ℕ) → Type 0
  Rooms τ new left =
      let given = second_given shape request τ sines old in
      (new ≡ numbers_after shape given old) × ((left ≡ sines_asked (wish shape request) τ sines) × GivenMeans shape request τ given new)

  -- what an export promises, where the second is read back from its bits
  pub second-replied : (count : ℕ) {t τ : ℤ} {given : Result Second Refusal} {reply : Reply} {new : List ℤ} {left : List ℕ} → t ≡ τ → reply ≡ second_reply count given
      → (given ≡ second_given shape request t sines old) × Rooms t new left
      → (reply.number ≡ (second_reply count (second_given shape request τ sines old)).number)
      × ((reply.value ≡ (second_reply count (second_given shape request τ sines old)).value) × Rooms τ new left)
  second-replied count {given = given} {reply = reply} {new = new} {left = left} e is p =
      let q = subst (λ (x : ℤ). (given ≡ second_given shape request x sines old) × Rooms x new left) e p in
      let f = is ∙ ap (second_reply count) q.0 in
      (ap (λ (x : Reply). x.number) f, (ap (λ (x : Reply). x.value) f, q.1))

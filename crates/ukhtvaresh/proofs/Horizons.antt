-- A horizon that was given, as numbers.
use Rattle.std.specs.Prelude.{Result}
use mathlib.Core.Path.{◌≡◌, subst, ap, ◌∙◌}
use mathlib.Core.List.{List}
use Rattle.horizon.specs.declared.Horizon.{Horizon}
use Rattle.sheet_types.specs.declared.refusals.Refusal.{Refusal}
use Prim.Native.Nat.{ℕ}
use lib.IntN.{ℤ}
use Rattle.request_format.specs.declared.fields.Shape.{Shape}
use Rattle.request_answers.specs.Second.{wish, sines_asked}
use Rattle.request_answers.specs.Horizons.{horizon_given, horizon_after}
use Rattle.ukhtvaresh.specs.declared.replies.Reply.{Reply}
use Rattle.ukhtvaresh.specs.Horizons.{horizon_reply}

module _ (shape : Shape) (request sines : List ℕ) (old : List ℤ) where
  -- what the two buffers hold
  abbrev Rooms : ℤ → (new : List ℤ) (left : List ℕ) → Type 0
  Rooms τ new left = (new ≡ horizon_after (horizon_given shape request τ sines old) old) × (left ≡ sines_asked (wish shape request) τ sines)

  -- what an export promises, where the second is read back from its bits
  pub horizon-replied : {t τ : ℤ} {given : Result Horizon Refusal} {reply : Reply} {new : List ℤ} {left : List ℕ} → t ≡ τ → reply ≡ horizon_reply given
      → (given ≡ horizon_given shape request t sines old) × Rooms t new left
      → (reply.number ≡ (horizon_reply (horizon_given shape request τ sines old)).number)
      × ((reply.value ≡ (horizon_reply (horizon_given shape request τ sines old)).value) × Rooms τ new left)
  horizon-replied {given = given} {reply = reply} {new = new} {left = left} e is p =
      let q = subst (λ (x : ℤ). (given ≡ horizon_given shape request x sines old) × Rooms x new left) e p in
      let f = is ∙ ap horizon_reply q.0 in
      (ap (λ (x : Reply). x.number) f, (ap (λ (x : Reply). x.value) f, q.1))

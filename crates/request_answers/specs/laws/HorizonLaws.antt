-- Laws of a horizon and the buffer for its numbers.
use Rattle.std.specs.Prelude.{◌≡◌, refl, Bool, true, false, cond, ℕ, ◌≤◌, ◌<◌, leb, Ok, Err, Result}
use Rattle.std.proofs.Common.{arith, leb-true, le-leb}
use Rattle.std.proofs.lemmas.Bool.{lt-leb}
use Rattle.sheet_types.specs.declared.refusals.Refusal.{Refusal}
use Rattle.sheet_types.specs.Refusals.{refusal}
use Rattle.horizon.specs.declared.Horizon.{Horizon}
use Rattle.request_answers.specs.Horizons.{horizon_into}

module _ (k : ℕ) (x : Horizon) where
  pub horizon-short : k < 3 → horizon_into k (Ok x) ≡ Err (refusal 4 3)
  horizon-short h = rw (lt-leb 3 k h)

  pub horizon-whole : 3 ≤ k → horizon_into k (Ok x) ≡ Ok x
  horizon-whole h = rw (le-leb 3 k h)

  -- a horizon that was given fits its buffer
  pub horizon-fits : (o : Result Horizon Refusal) → horizon_into k o ≡ Ok x → 3 ≤ k
  horizon-fits (Err r) e = let z : ◌≡◌ {A = ℕ} 0 1 = cc in absurd (omega arith)
  horizon-fits (Ok y) e = by (leb 3 k) refl e
    where
      by : (b : Bool) → leb 3 k ≡ b → cond b (Ok y) (Err (refusal 4 3)) ≡ Ok x → 3 ≤ k
      by true h e = leb-true 3 k h
      by false h e = let z : ◌≡◌ {A = ℕ} 0 1 = cc in absurd (omega arith)

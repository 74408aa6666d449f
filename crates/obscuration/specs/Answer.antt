-- The covered share at one second of a request, or the refusal. Definitions only.
use Rattle.std.specs.Prelude.{◌≡◌, List, ℕ, ℤ, Result, Ok, Err}
use Rattle.shadow.specs.declared.Second.{Second}
use Rattle.sheet_types.specs.declared.refusals.Refusal.{Refusal}
use Rattle.obscuration.specs.Share.{share}
use Rattle.requests.specs.declared.Request.{Request}
use Rattle.requests.specs.Requests.{of_eclipse}
use Rattle.seconds.specs.OneSecond.{second_answer}
use Rattle.obscuration.specs.Covered.{share_of, ShareMeans}

-- of what is answered of a second: the share of its shadow, or the same refusal
abbrev pub share_by : Result Second Refusal → Result ℕ Refusal
share_by (Ok x) = Ok (share x.shadow.l1 x.shadow.l2 x.shadow.m)
share_by (Err r) = Err r

unfoldable pub share_answer : Request → ℤ → (sines : List ℕ) → Result ℕ Refusal
share_answer q τ sines = share_by (second_answer (of_eclipse q) τ sines)

-- a share that is answered is the second's, and means what is said of it (Covered)
abbrev pub AnswerMeans : Request → ℤ → Result ℕ Refusal → Type 0
AnswerMeans q τ (Ok s) = (s ≡ share_of q τ) × ShareMeans q τ s
AnswerMeans q τ (Err r) = Unit

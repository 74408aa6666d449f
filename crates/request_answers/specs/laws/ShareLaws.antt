-- A second that is asked for has numbers of the share's sizes, and a share that is given means what it says.
use Rattle.std.specs.Prelude.{◌≡◌, refl, List, ℕ, ℤ, Result, Ok, Err}
use Rattle.std.proofs.Common.{subst}
use Rattle.sheet_types.specs.declared.refusals.Refusal.{Refusal}
use Rattle.requests.specs.declared.Request.{Request}
use Rattle.obscuration.specs.Answer.{share_answer, AnswerMeans}
use Rattle.obscuration.specs.AnswerLaws.{AnsweredSizes}
use Rattle.obscuration.proofs.AnswerLaws.{answered-sizes, means-answer}
use Rattle.request_format.specs.Input.{input_of, request_of, eclipse_asked}
use Rattle.request_format.specs.laws.InputLaws.{request-is}
use Rattle.request_answers.specs.Second.{second_asked}
use Rattle.request_answers.specs.Shares.{share_asked}

pub asked_sizes : (i : Result Request Refusal) (τ : ℤ) (sines : List ℕ) → AnsweredSizes (second_asked (eclipse_asked i) τ sines)
asked_sizes (Ok q) τ sines = answered-sizes q τ sines
asked_sizes (Err r) τ sines = tt

pub asked_means : (request : List ℕ) (τ : ℤ) (sines : List ℕ) → AnswerMeans (request_of request) τ (share_asked (input_of request) τ sines)
unfolding share_answer
asked_means request τ sines = by (input_of request) refl
  where
    by : (i : Result Request Refusal) → input_of request ≡ i → AnswerMeans (request_of request) τ (share_asked i τ sines)
    by (Ok q) e = subst (λ (x : Request). AnswerMeans x τ (share_answer q τ sines)) (request-is request q e) (means-answer q τ sines)
    by (Err r) e = tt

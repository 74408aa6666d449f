-- Laws of a second and the buffer for its numbers.
use Rattle.std.specs.Prelude.{◌≡◌, refl, List, Bool, true, false, cond, ℕ, ◌≤◌, ◌<◌, leb, ℤ, length, Ok, Err, Result}
use Rattle.std.proofs.Common.{subst, arith, leb-true, le-leb}
use Rattle.std.proofs.lemmas.Bool.{lt-leb}
use Rattle.shadow.specs.declared.Second.{Second}
use Rattle.sheet_types.specs.declared.refusals.Refusal.{Refusal}
use Rattle.sheet_types.specs.Refusals.{refusal}
use Rattle.requests.specs.declared.Occultation.{Occultation}
use Rattle.seconds.specs.OneSecond.{second_answer}
use Rattle.seconds.specs.Exact.{SecondMeans, AnswerMeans}
use Rattle.seconds.proofs.laws.SecondLaws.{means-answer}
use Rattle.request_format.specs.declared.fields.Shape.{Shape}
use Rattle.request_format.specs.declared.fields.Shape.TheVariants.{Eclipse, Star}
use Rattle.request_format.specs.Input.{input_of, request_of}
use Rattle.request_format.specs.laws.InputLaws.{request-is, shape_is, asked_is, asked-shape, star-request-is, star-shape-is}
use Rattle.request_answers.specs.Second.{wish, wished, second_asked, number_count, second_into, second_given, numbers_after, NumbersMean, GivenMeans}

module _ (n k : ℕ) (x : Second) where
  pub second_short : k < n → second_into n k (Ok x) ≡ Err (refusal 4 n)
  second_short h = rw (lt-leb n k h)

  pub second-whole : n ≤ k → second_into n k (Ok x) ≡ Ok x
  second-whole h = rw (le-leb n k h)

  -- a second that was given fits its buffer
  pub second_fits : (o : Result Second Refusal) → second_into n k o ≡ Ok x → n ≤ k
  second_fits (Err r) e = let z : ◌≡◌ {A = ℕ} 0 1 = cc in absurd (omega arith)
  second_fits (Ok y) e = by (leb n k) refl e
    where
      by : (b : Bool) → leb n k ≡ b → cond b (Ok y) (Err (refusal 4 n)) ≡ Ok x → n ≤ k
      by true h e = leb-true n k h
      by false h e = let z : ◌≡◌ {A = ℕ} 0 1 = cc in absurd (omega arith)

-- ---- what stands in the buffer means what the second that was given means

pub wish-is : (shape : Shape) (request : List ℕ) (o : Occultation) → wish shape request ≡ Ok o → o ≡ wished shape request
wish-is Eclipse request o e = asked_is (input_of request) (request_of request) (request-is request) o e
wish-is Star request o e = star-request-is request o e

-- what is not of the shape is refused with 10
pub wish_shape : (shape : Shape) (request : List ℕ) (r : Refusal) → wish shape request ≡ Err r → r ≡ refusal 10 0
wish_shape Eclipse request r e = asked-shape (input_of request) (shape_is request) r e
wish_shape Star request r e = star-shape-is request r e

numbers_mean : (shape : Shape) (request : List ℕ) (τ : ℤ) (x : Second) (old : List ℤ) → SecondMeans (wished shape request) τ x
    → NumbersMean shape request τ (numbers_after shape (Ok x) old)
numbers_mean Eclipse request τ x old m = record { penumbra = m.penumbra; central = m.central }
numbers_mean Star request τ x old m = record { state = m.penumbra }

-- a second in the buffer of that shape's numbers
abbrev into : Shape → (old : List ℤ) → Result Second Refusal → Result Second Refusal
into shape old s = second_into (number_count shape) (length old) s

pub given_means : (shape : Shape) (request : List ℕ) (τ : ℤ) (sines : List ℕ) (old room : List ℤ)
    → room ≡ numbers_after shape (second_given shape request τ sines old) old → GivenMeans shape request τ (second_given shape request τ sines old) room
unfolding second_given
given_means shape request τ sines old room e = rw e (by-wish (wish shape request) refl)
  where
    by-wish : (w : Result Occultation Refusal) → wish shape request ≡ w → GivenMeans shape request τ (into shape old (second_asked w τ sines)) (numbers_after shape (into shape old (second_asked w τ sines)) old)
    by-wish (Ok o) f = by-second (second_answer o τ sines) (subst (λ (p : Occultation). AnswerMeans p τ (second_answer o τ sines)) (wish-is shape request o f) (means-answer o τ sines))
      where
        by-second : (s : Result Second Refusal) → AnswerMeans (wished shape request) τ s → GivenMeans shape request τ (into shape old s) (numbers_after shape (into shape old s) old)
        by-second (Err r) m = tt
        by-second (Ok x) m = by-fit (leb (number_count shape) (length old))
          where
            by-fit : (b : Bool) → let s = cond b (Ok x) (Err (refusal 4 (number_count shape))) in GivenMeans shape request τ s (numbers_after shape s old)
            by-fit true = numbers_mean shape request τ x old m
            by-fit false = tt
    by-wish (Err r) f = tt

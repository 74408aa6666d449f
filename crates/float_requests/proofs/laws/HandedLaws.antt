-- Laws of a survey handed over as numbers: its ways, and what is promised of its sheet.
use Rattle.std.specs.Prelude.{◌≡◌, refl, Bool, true, false, cond, List, ℕ, zero, suc, ◌≤◌, ◌<◌, ℤ, length, Float, Ok, Result, Err}
use Rattle.std.proofs.Math.Path.{ap, subst}
use Rattle.std.proofs.Common.{arith}
use borrow.Author.Tests.{eq-eqb, ne_eqb, le-leb, lt-leb}
use Rattle.sheet_types.specs.declared.refusals.Refusal.{Refusal}
use Rattle.sheet_types.specs.Refusals.{refusal}
use Rattle.requests.specs.Requests.{of_eclipse}
use Rattle.circumstances.specs.Demand3.{Claimed}
use Rattle.binary64.specs.declared.Longitude.{Longitude}
use Rattle.binary64.specs.declared.Longitude.TheVariants.{Degrees, Hours}
use Rattle.float_requests.specs.declared.instrument.ElementDoubles.{ElementDoubles}
use Rattle.float_requests.specs.Instrument.{doubles_of}
use Rattle.float_requests.specs.declared.survey.Survey.{Survey}
use Rattle.float_requests.specs.Survey.{request_of}
use Rattle.float_requests.specs.Handed.{marked, number, survey_of, is_of_shape, handed_of, not_of_shape, answer_to, buffer_for, sines_for}
use Rattle.float_requests.proofs.laws.SurveyLaws.{SurveyPromised}

pub marked_degrees : (hours : ℕ) (x : Float) → hours ≡ 0 → Degrees x ≡ marked hours x
marked_degrees hours x e = rw e

pub marked-hours : (hours : ℕ) (x : Float) → (hours ≡ 0 → ⊥) → Hours x ≡ marked hours x
marked-hours zero x n = absurd (n refl)
marked-hours (suc k) x n = refl

-- a survey by its parts
pub by_parts : (xs : List Float) (x : Float) (hours : ℕ) (rest : List ℤ) {elements : ElementDoubles} {longitude : Longitude} {a b c d e f g : ℤ}
    → elements ≡ doubles_of xs → longitude ≡ marked hours x → a ≡ number rest 0 → b ≡ number rest 1 → c ≡ number rest 2 → d ≡ number rest 3
    → e ≡ number rest 4 → f ≡ number rest 5 → g ≡ number rest 6
    → ◌≡◌ {A = Survey}
    (record { elements = elements; longitude = longitude; number = a; latitude = b; height = c; deltat = d; window = record { first = e; last = f }; guard = g })
    (survey_of xs x hours rest)
unfolding survey_of
by_parts xs x hours rest p q i j k l m n o = rw (p, q, i, j, k, l, m, n, o)

-- ---- the ways
module _ (xs : List Float) (x : Float) (hours : ℕ) (rest : List ℤ) where
  pub not-22 : (length xs ≡ 22 → ⊥) → handed_of xs x hours rest ≡ not_of_shape
  unfolding handed_of
  not-22 n = rw (ne_eqb (length xs) 22 n)

  module _ (e : length xs ≡ 22) where
    pub not-7 : (length rest ≡ 7 → ⊥) → handed_of xs x hours rest ≡ not_of_shape
    unfolding handed_of
    not-7 n = rw (eq-eqb (length xs) 22 e, ne_eqb (length rest) 7 n)

    module _ (f : length rest ≡ 7) where
      pub not-marked : 1 < hours → handed_of xs x hours rest ≡ not_of_shape
      unfolding handed_of
      not-marked h = rw (eq-eqb (length xs) 22 e, eq-eqb (length rest) 7 f, lt-leb hours 1 h)

      pub of-shape : hours ≤ 1 → handed_of xs x hours rest ≡ Ok (survey_of xs x hours rest)
      unfolding handed_of
      of-shape h = rw (eq-eqb (length xs) 22 e, eq-eqb (length rest) 7 f, le-leb hours 1 h)

-- ---- what is promised
module _ (xs : List Float) (x : Float) (hours : ℕ) (rest : List ℤ) where
  abbrev handed : Result Survey Refusal
  handed = handed_of xs x hours rest

  -- a survey that is of the shape is that of the numbers, and the shape is refused with 10
  is-that : (b : Bool) (s : Survey) → cond b (Ok (survey_of xs x hours rest)) not_of_shape ≡ Ok s → s ≡ survey_of xs x hours rest
  is-that true s e = cc
  is-that false s e = let z : ◌≡◌ {A = ℕ} 0 1 = cc in absurd (omega arith)

  is-ten : (b : Bool) (r : Refusal) → cond b (Ok (survey_of xs x hours rest)) not_of_shape ≡ Err r → r ≡ refusal 10 0
  is-ten true r e = let z : ◌≡◌ {A = ℕ} 0 1 = cc in absurd (omega arith)
  is-ten false r e = cc

  abbrev pub HandedPromised : (sines old : List ℕ) → Result ℕ Refusal → (new room : List ℕ) → Type 0
  HandedPromised sines old r new room = (r ≡ answer_to handed sines old)
      × ((new ≡ buffer_for handed sines old) × ((room ≡ sines_for handed sines) × Claimed (of_eclipse (request_of (survey_of xs x hours rest))) r new))

  module _ (sines old : List ℕ) where
    pub of-survey : (s : Survey) (r : Result ℕ Refusal) (new room : List ℕ) → handed ≡ Ok s → SurveyPromised s sines old r new room
        → HandedPromised sines old r new room
    unfolding handed_of
    of-survey s r new room e p =
        rw e (p.0, (p.1.0, (p.1.1.0, subst (λ (y : Survey). Claimed (of_eclipse (request_of y)) r new) (is-that (is_of_shape xs hours rest) s e) p.1.1.1)))

    pub of-refusal : (r : Refusal) → handed ≡ Err r → HandedPromised sines old (Err r) old sines
    unfolding handed_of
    of-refusal r e =
        rw e (refl, (refl, (refl, λ four. absurd (ten (is-ten (is_of_shape xs hours rest) r e) four))))
      where
        ten : r ≡ refusal 10 0 → r.number ≡ 4 → ⊥
        ten f four = omega (arith, ap (λ (y : Refusal). y.number) f)

-- A survey handed over as numbers, and its sheet. Definitions only.
use Rattle.std.specs.Prelude.{Bool, cond, ◌&&◌, List, ℕ, zero, suc, leb, eqb, ℤ, pos, length, get_or, Float, Result, Err, Ok}
use Rattle.sheet_types.specs.declared.refusals.Refusal.{Refusal}
use Rattle.sheet_types.specs.Refusals.{refusal}
use Rattle.binary64.specs.declared.Longitude.{Longitude}
use Rattle.binary64.specs.declared.Longitude.TheVariants.{Degrees, Hours}
use Rattle.float_requests.specs.Instrument.{doubles_of}
use Rattle.float_requests.specs.declared.survey.Survey.{Survey}
use Rattle.float_requests.specs.Survey.{survey_answer, survey_buffer, survey_sines}

-- "a longitude comes either as degrees or as hours of time, each marked": 0 for degrees, 1 for hours
abbrev pub marked : (hours : ℕ) → Float → Longitude
marked zero x = Degrees x
marked (suc n) x = Hours x

abbrev pub number : List ℤ → ℕ → ℤ
number ns k = get_or ns k (pos 0)

-- 22 doubles, the longitude, and the rest: number, latitude, height, ΔT, first, last, guard
unfoldable pub survey_of : (elements : List Float) (longitude : Float) (hours : ℕ) (rest : List ℤ) → Survey
survey_of xs x hours rest =
    record {
      elements = doubles_of xs;
      longitude = marked hours x;
      number = number rest 0;
      latitude = number rest 1;
      height = number rest 2;
      deltat = number rest 3;
      window = record { first = number rest 4; last = number rest 5 };
      guard = number rest 6;
    }

-- of other lengths, and of another mark, document 01 has "10 | program input not of the shape below | 0"
abbrev pub not_of_shape : Result Survey Refusal
not_of_shape = Err (refusal 10 0)

abbrev pub is_of_shape : (elements : List Float) (hours : ℕ) (rest : List ℤ) → Bool
is_of_shape xs hours rest = eqb (length xs) 22 && eqb (length rest) 7 && leb hours 1

unfoldable pub handed_of : (elements : List Float) (longitude : Float) (hours : ℕ) (rest : List ℤ) → Result Survey Refusal
handed_of xs x hours rest = cond (is_of_shape xs hours rest) (Ok (survey_of xs x hours rest)) not_of_shape

-- "Requests: 10, 1, 2, 3, 4": the shape comes first
abbrev pub answer_to : Result Survey Refusal → (sines old : List ℕ) → Result ℕ Refusal
answer_to (Ok s) sines old = survey_answer s sines old
answer_to (Err r) sines old = Err r

abbrev pub buffer_for : Result Survey Refusal → (sines old : List ℕ) → List ℕ
buffer_for (Ok s) sines old = survey_buffer s sines old
buffer_for (Err r) sines old = old

abbrev pub sines_for : Result Survey Refusal → List ℕ → List ℕ
sines_for (Ok s) sines = survey_sines s sines
sines_for (Err r) sines = sines

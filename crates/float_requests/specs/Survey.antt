-- Document 02, wish 5: a survey, its request in whole units, and its sheet. Definitions only. Doubles in whole units:
-- instrument, Instrument.
use Rattle.std.specs.Prelude.{false, List, ℕ, Result, Err, Ok}
use Rattle.sheet_types.specs.declared.refusals.Refusal.{Refusal}
use Rattle.sheet_types.specs.Refusals.{andThen}
use Rattle.requests.specs.declared.Request.{Request}
use Rattle.requests.specs.Requests.{of_eclipse, window_checked, guard_checked}
use Rattle.circumstances.specs.Sheet.{sheet_answer, sheet_buffer, sheet_sines}
use Rattle.binary64.specs.Doubles.{longitude_of}
use Rattle.float_requests.specs.Instrument.{finite_checked, elements_in}
use Rattle.float_requests.specs.declared.survey.Survey.{Survey}

-- the request in whole units: each the nearest one exactly, however large. "One too large for 64 bits is outside its
-- range and meets 2 or 3" with it
unfoldable pub request_of : Survey → Request
request_of s =
    record {
      elements = elements_in s.elements;
      station = record { number = s.number; latitude = s.latitude; longitude = longitude_of s.longitude; height = s.height; deltat = s.deltat };
      window = s.window;
      guard = s.guard;
      share = false;
    }

-- "12 for a double that is not finite, .., after 1 and ahead of 2 and 3"
unfoldable pub survey_checked : Survey → Result Unit Refusal
survey_checked s = andThen (window_checked s.window) (andThen (guard_checked s.guard) (finite_checked s.elements s.longitude))

-- "Demands 2 and 3 start from the whole units": all else is the sheet of that request, its 2, 3 and 4 too
abbrev pub answer_by : Result Unit Refusal → Request → (sines old : List ℕ) → Result ℕ Refusal
answer_by (Err r) q sines old = Err r
answer_by (Ok tt) q sines old = sheet_answer (of_eclipse q) sines old

unfoldable pub survey_answer : Survey → (sines old : List ℕ) → Result ℕ Refusal
survey_answer s sines old = answer_by (survey_checked s) (request_of s) sines old

abbrev pub buffer_by : Result Unit Refusal → Request → (sines old : List ℕ) → List ℕ
buffer_by (Err r) q sines old = old
buffer_by (Ok tt) q sines old = sheet_buffer (of_eclipse q) sines old

unfoldable pub survey_buffer : Survey → (sines old : List ℕ) → List ℕ
survey_buffer s sines old = buffer_by (survey_checked s) (request_of s) sines old

abbrev pub sines_by : Result Unit Refusal → Request → List ℕ → List ℕ
sines_by (Err r) q sines = sines
sines_by (Ok tt) q sines = sheet_sines (of_eclipse q) sines

unfoldable pub survey_sines : Survey → List ℕ → List ℕ
survey_sines s sines = sines_by (survey_checked s) (request_of s) sines

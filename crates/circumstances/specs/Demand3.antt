-- Demand 3 of an occultation, of the Sun or of a star: its course (Sheet), its exact answers (seconds, Exact), and the
-- claim about both (local_circumstances, Demand3). Definitions only.
use Rattle.std.specs.Prelude.{◌≡◌, List, ℕ, Result, Ok, Err}
use Rattle.sheet_types.specs.declared.refusals.Refusal.{Refusal}
use Rattle.requests.specs.declared.Occultation.{Occultation}
use Rattle.seconds.specs.Exact.{ExactlyInside, WithinUnits}
use Rattle.local_circumstances.specs.Demand3.{ExactAnswers, EachSecond, Demand3}
use Rattle.local_circumstances.specs.Course.{course_of}

-- "From the same sines, cosines and station place, decide for each whole second of the window, with no rounding at all"
abbrev pub exact_answers : Occultation → ExactAnswers
exact_answers o = record { Inside = ExactlyInside o; WithinUnits = WithinUnits o }

-- what a caller has after a call that gave r and left these bytes. "Take any elements, station and window within the
-- limits": the refusals 1, 2, 3 claim nothing; "a request within the limits that is refused for room (4) has no sheet,
-- and there only its seconds are claimed"
abbrev pub Claimed : Occultation → Result ℕ Refusal → List ℕ → Type 0
Claimed o (Ok n) buffer = Demand3 (course_of o) (exact_answers o) n buffer
Claimed o (Err r) buffer = r.number ≡ 4 → EachSecond (course_of o) (exact_answers o)

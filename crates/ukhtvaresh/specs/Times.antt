-- What a caller from outside gets of a request and an instant: 0 and the length of the listing with clock times; or the
-- refusal's number and place, 4 with the length that the text needs.
use Rattle.std.specs.Prelude.{List, ℕ, length, Result}
use Rattle.sheet_types.specs.declared.refusals.Refusal.{Refusal}
use Rattle.listings.specs.Answers.{answered}
use Rattle.answers.specs.Timed.{instant_given, told_for}

abbrev pub times_given : (request instant sines sheet text : List ℕ) → Result ℕ Refusal
times_given request instant sines sheet text = answered (length text) (told_for (instant_given instant) request sines sheet)

-- A refusal by its number and its place in document 01's table, "No. | When | Place". Definitions only.
use Rattle.std.specs.Prelude.{ℕ, Option, Result, None, Ok, Some, Err}
use Rattle.sheet_types.specs.declared.refusals.Refusal.{Refusal}

abbrev pub refusal : (number place : ℕ) → Refusal
refusal number place = record { number = number; place = place }

-- "first such field": numbers against their ranges, refused under that number
abbrev pub of_limits : ℕ → Option ℕ → Result Unit Refusal
of_limits number None = Ok tt
of_limits number (Some place) = Err (refusal number place)

-- one check, and another where it finds nothing
abbrev pub andThen : Result Unit Refusal → Result Unit Refusal → Result Unit Refusal
andThen (Ok tt) next = next
andThen (Err r) next = Err r

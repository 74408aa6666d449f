-- A typed request: one `name value` a line, and the numbers that the lines give.
use Rattle.std.specs.Prelude.{ℕ, ◌+◌, ◌-◌, ◌≤◌, ◌<◌, cond, List, [], ◌∷◌, ◌++◌, eqb, ℤ, pos, nat_abs, get_or, set, take, replicate, Result, Ok, None, Err, Some, Option}
use Rattle.request_format.specs.declared.fields.Shape.{Shape}
use Rattle.request_format.specs.Fields.{countOf}
use Rattle.tokens.specs.Text.{lines_of}
use Rattle.request_text.specs.declared.Fault.{Fault}
use Rattle.request_text.specs.Lines.{number_in}

-- a line is taken, but not where its name was given before: a field that was given is marked 1
abbrev pub noted_of : Result (Option (ℕ × ℤ)) Fault → List ℕ → Result Unit Fault
noted_of (Ok None) marks = Ok tt
noted_of (Err f) marks = Err f
noted_of (Ok (Some (k, z))) marks = cond (eqb (get_or marks k 0) 0) (Ok tt) (Err (Fault.Twice k))

abbrev pub marks_after : Result (Option (ℕ × ℤ)) Fault → List ℕ → List ℕ
marks_after (Ok None) marks = marks
marks_after (Err f) marks = marks
marks_after (Ok (Some (k, z))) marks = cond (eqb (get_or marks k 0) 0) (set marks k 1) marks

abbrev pub numbers_after : Result (Option (ℕ × ℤ)) Fault → List ℕ → List ℤ → List ℤ
numbers_after (Ok None) marks ns = ns
numbers_after (Err f) marks ns = ns
numbers_after (Ok (Some (k, z))) marks ns = cond (eqb (get_or marks k 0) 0) (set ns k z) ns

-- "a name missing": the first field, from field k on, that is not marked
unfoldable pub missing : ℕ → List ℕ → Result Unit Fault
missing k [] = Ok tt
missing k (x ∷ marks) = cond (eqb x 0) (Err (Fault.Missing k)) (missing (k + 1) marks)

-- what a text is: the numbers of the request, or the first line that is refused, and why
pub data Typing : Type 0 where
  given : List ℤ → Typing
  refused : ℕ → Fault → Typing

abbrev pub onward : Result Unit Fault → ℕ → Typing → Typing
onward (Ok tt) i r = r
onward (Err f) i r = refused i f

-- the fields before the guard must be typed
abbrev pub required : Shape → ℕ
required shape = countOf shape - 1

-- the numbers where nothing is typed: the guard, the last, is 16 then
abbrev pub untyped : Shape → List ℤ
untyped shape = replicate (required shape) (pos 0) ++ pos 16 ∷ []

-- the lines from line i on; after the last, no field that must be typed may be missing
unfoldable pub read_lines : Shape → List (List ℕ) → ℕ → List ℤ → List ℕ → Typing
read_lines shape [] i ns marks = onward (missing 0 (take (required shape) marks)) i (given ns)
read_lines shape (l ∷ ls) i ns marks =
    let line = number_in shape l in
    onward (noted_of line marks) i (read_lines shape ls (i + 1) (numbers_after line marks ns) (marks_after line marks))

-- a text, as one that asks about an eclipse or about a star
unfoldable pub typing_of : Shape → List ℕ → Typing
typing_of shape text = read_lines shape (lines_of text) 1 (untyped shape) (replicate (countOf shape) 0)

abbrev pub answer_of : Typing → Result Unit (ℕ × Fault)
answer_of (given ns) = Ok tt
answer_of (refused i f) = Err (i, f)

-- on a refusal the caller's numbers are unchanged
abbrev pub numbers_from : Typing → List ℤ → List ℤ
numbers_from (given ns) old = ns
numbers_from (refused i f) old = old

-- a line that gives a number gives one of n, and of 32 bits
abbrev pub InRoom : ℕ → Result (Option (ℕ × ℤ)) Fault → Type 0
InRoom n (Ok None) = Unit {0}
InRoom n (Err f) = Unit {0}
InRoom n (Ok (Some (k, z))) = (k < n) × (nat_abs z ≤ 4294967296)

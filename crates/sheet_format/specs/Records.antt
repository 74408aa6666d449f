-- What stands in a list of bytes at a place: one record, by the table of kinds.
use Rattle.std.specs.Prelude.{ℕ, ◌+◌, List, cond, leb, ltb, length, get_or, Option, Some, None, Result, Err, Ok}
use Rattle.sheet_types.specs.declared.refusals.Refusal.{Refusal}
use Rattle.sheet_types.specs.Refusals.{refusal}
use Rattle.sheet_format.specs.declared.kinds.Kind.{Kind}
use Rattle.sheet_format.specs.declared.kinds.Entry.{Entry}
use Rattle.sheet_format.specs.Kinds.{kind_for, widths_of, bytes_in, size_of}
use Rattle.sheet_format.specs.Numbers.{number_at}

-- the byte at a place
unfoldable pub byte_at : List ℕ → ℕ → Option ℕ
byte_at s at = cond (ltb at (length s)) (Some (get_or s at 0)) None

-- the entry of that kind whose fields stand from a place on, each behind the one before it
abbrev pub entry_at : Kind → List ℕ → ℕ → Entry
entry_at k s at =
    let w = widths_of k in
    let at_b = at + bytes_in w.a in
    let at_c = at_b + bytes_in w.b in
    let at-d = at_c + bytes_in w.c in
    record { kind = k; a = number_at w.a s at; b = number_at w.b s at_b; c = number_at w.c s at_c; d = number_at w.d s at-d }

-- the entry of the record at a place, if the input does not end inside it
unfoldable pub bodyAt : Kind → List ℕ → ℕ → Option Entry
bodyAt k s at = cond (leb (at + size_of k) (length s)) (Some (entry_at k s (at + 1))) None

-- "6 | input ends inside a record .. | first byte of that record"
abbrev pub of_body : Kind → ℕ → Option Entry → Result (Entry × ℕ) Refusal
of_body k at None = Err (refusal 6 at)
of_body k at (Some e) = Ok (e, at + size_of k)

-- "5 | kind not in the table | first byte of that record"
abbrev pub of_kind : List ℕ → ℕ → Option Kind → Result (Entry × ℕ) Refusal
of_kind s at None = Err (refusal 5 at)
of_kind s at (Some k) = of_body k at (bodyAt k s at)

-- "6 | input ends .. before the end record | .. the input's length"
abbrev pub of_byte : List ℕ → ℕ → Option ℕ → Result (Entry × ℕ) Refusal
of_byte s at None = Err (refusal 6 (length s))
of_byte s at (Some x) = of_kind s at (kind_for x)

-- the record at a place, and the place after it, or 5 or 6
unfoldable pub record_at : List ℕ → ℕ → Result (Entry × ℕ) Refusal
record_at s at = of_byte s at (byte_at s at)

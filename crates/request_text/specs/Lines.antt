-- What a line of a typed request says: a number of the request and its value in whole units.
use Rattle.std.specs.Prelude.{ℕ, Bool, cond, ◌||◌, List, eqb, ℤ, pos, neg_ℤ, length, take, drop, Result, Ok, Some, Err, Option, None, Option}
use Rattle.request_text.specs.declared.Fault.{Fault}
use Rattle.request_format.specs.declared.fields.Shape.{Shape}
use Rattle.request_format.specs.declared.fields.Width.{Width}
use Rattle.request_format.specs.Fields.{holds}
use Rattle.request_format.specs.Rows.{letters, decimals_of, width_of}
use Rattle.tokens.specs.declared.Class.TheVariants as C
use Rattle.tokens.specs.Text.{run_of, all_of, start_of}
use Rattle.tokens.specs.Numbers.{is_number, is_whole, amount}
use Rattle.request_text.specs.Names.{names, named, find_in}

-- n, below zero where `minus` is 1
unfoldable pub with_sign : ℕ → ℕ → ℤ
with_sign minus n = cond (eqb minus 1) (neg_ℤ (pos n)) (pos n)

-- "as long as they fit their bytes": n units
unfoldable pub fitted : ℕ → Width → ℕ → ℕ → Result (Option (ℕ × ℤ)) Fault
fitted k w minus n = cond (holds w (with_sign minus n)) (Ok (Some (k, (with_sign minus n)))) (Err (Fault.Unfit k))

-- "a value that is no whole number of units is refused, not rounded"
unfoldable pub value_of : Shape → ℕ → List ℕ → Result (Option (ℕ × ℤ)) Fault
value_of shape k w =
    cond (is_number w)
    (cond (is_whole (decimals_of shape k) w) (fitted k (width_of shape k) (start_of C.Minus w) (amount (decimals_of shape k) w)) (Err (Fault.NotWhole k)))
    (Err (Fault.NotNumber k))

-- what follows a name: blanks, the value, and nothing but blanks
abbrev pub valued : List ℕ → List ℕ
valued s = drop (run_of C.Blank s) s

-- the first word of a text, empty where there is none, and what stands after it
abbrev pub word_in : List ℕ → List ℕ
word_in s = take (run_of C.Word (valued s)) (valued s)

abbrev pub after_word : List ℕ → List ℕ
after_word s = drop (run_of C.Word (valued s)) (valued s)

unfoldable pub of_value : Shape → ℕ → List ℕ → Result (Option (ℕ × ℤ)) Fault
of_value shape k s =
    cond (all_of C.Blank (drop (run_of C.Word s) s)) (value_of shape k (take (run_of C.Word s) s)) (Err (Fault.NotNumber k))

abbrev pub of_found : Shape → List ℕ → Option (ℕ × ℕ) → Result (Option (ℕ × ℤ)) Fault
of_found shape said None = Err Fault.Unknown
of_found shape said (Some (k, n)) = of_value shape k (valued (drop n said))

unfoldable pub of_name : Shape → List ℕ → Result (Option (ℕ × ℤ)) Fault
of_name shape said = of_found shape said (find_in (names shape) 0 said)

-- "`#` starts a comment"; "one `name value` a line"
abbrev pub content : List ℕ → List ℕ
content l = take (run_of C.Said l) l

abbrev pub said : List ℕ → List ℕ
said l = drop (run_of C.Blank (content l)) (content l)

unfoldable pub meaning_of : Shape → List ℕ → Result (Option (ℕ × ℤ)) Fault
meaning_of shape l = cond (eqb (length (said l)) 0) (Ok None) (of_name shape (said l))

-- a line named `instant` gives the date and time of second 0, one named `tai-utc` TAI less UTC then, which are no
-- numbers of the request: they are read by themselves (`instants`)
abbrev pub names_instant : List ℕ → Bool
names_instant l = named (letters "instant") (said l)

abbrev pub names_offset : List ℕ → Bool
names_offset l = named (letters "tai-utc") (said l)

abbrev pub names_clock : List ℕ → Bool
names_clock l = names_instant l || names_offset l

unfoldable pub number_in : Shape → List ℕ → Result (Option (ℕ × ℤ)) Fault
number_in shape l = cond (names_clock l) (Ok None) (meaning_of shape l)

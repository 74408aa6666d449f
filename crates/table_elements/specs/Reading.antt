-- Rows as they are typed: six whole numbers a line. Bytes are treated by their class (`words`); `#` starts a comment.
use Rattle.std.specs.Prelude.{ℕ, zero, suc, ◌+◌, ◌-◌, ◌*◌, Bool, cond, ◌&&◌, List, [], ◌∷◌, ◌++◌, eqb, ltb, ℤ, pos, ◌-ℤ◌, length, take, drop, Result, Err, Ok}
use Rattle.std.proofs.lemmas.List.Edits.{sets}
use Rattle.tokens.specs.declared.Class.TheVariants as C
use Rattle.tokens.specs.Text.{is_in, run_of, all_of, start_of, before}
use Rattle.table_elements.specs.declared.typed_rows.Fault.{Fault}
use Rattle.table_elements.specs.declared.typed_rows.Fault.TheVariants as F

-- ---- a number

-- digits written after a number
unfoldable pub appended : ℕ → List ℕ → ℕ
appended n [] = n
appended n (x ∷ s) = appended (10 * n + (x - 48)) s

-- a whole number is digits, one at least, and perhaps a minus before them
abbrev pub digits_of : List ℕ → List ℕ
digits_of w = drop (start_of C.Minus w) w

abbrev pub is_whole : List ℕ → Bool
is_whole w = ltb 0 (length (digits_of w)) && all_of C.Digit (digits_of w)

abbrev pub with_sign : ℕ → ℕ → ℤ
with_sign minus n = cond (eqb minus 1) (pos 0 -ℤ pos n) (pos n)

-- it is taken up to 2^63 - 1, with either sign
unfoldable pub number_of : List ℕ → Result ℤ Fault
number_of w =
    let n = appended 0 (digits_of w) in
    cond (is_whole w) (cond (ltb 9223372036854775807 n) (Err F.TooLarge) (Ok (with_sign (start_of C.Minus w) n))) (Err F.NotWhole)

-- ---- a line

-- the words between its blanks. `fuel` bounds them.
unfoldable pub words_of : ℕ → List ℕ → List (List ℕ)
words_of zero s = []
words_of (suc fuel) s =
    let t = drop (run_of C.Blank s) s in
    let n = run_of C.Word t in
    cond (eqb n 0) [] (take n t ∷ words_of fuel (drop n t))

-- what a line says: nothing, the six numbers of a row, or a fault
pub data Said : Type 0 where
  nothing : Said
  row : List ℤ → Said
  faulty : Fault → Said

abbrev pub whole : List ℤ → Said
whole ns = cond (eqb (length ns) 0) nothing (cond (eqb (length ns) 6) (row ns) (faulty F.Fewer))

-- a further number of a line
abbrev pub further : Result ℤ Fault → List ℤ → (List ℤ → Said) → Said
further (Err f) ns go = faulty f
further (Ok z) ns go = cond (ltb (length ns) 6) (go (ns ++ (z ∷ []))) (faulty F.More)

-- the words of a line after some numbers of it
unfoldable pub said_by : List ℤ → List (List ℕ) → Said
said_by ns [] = whole ns
said_by ns (w ∷ ws) = further (number_of w) ns (λ longer. said_by longer ws)

abbrev pub content_of : List ℕ → List ℕ
content_of line = take (run_of C.Said line) line

unfoldable pub line_of : List ℕ → Said
line_of line = said_by [] (words_of (suc (length (content_of line))) (content_of line))

-- the numbers after a line: the six of a row are stored from place `start` on; any other line leaves them as they were
abbrev pub numbers_after : Said → (start : ℕ) (old : List ℤ) → List ℤ
numbers_after (row ns) start old = sets old start ns
numbers_after nothing start old = old
numbers_after (faulty f) start old = old

-- ---- a text

-- its lines: a newline ends one, and the text's end the last
unfoldable pub lines_of : List ℕ → List (List ℕ)
lines_of [] = [] ∷ []
lines_of (x ∷ s) = cond (is_in C.Line x) (before x (lines_of s)) ([] ∷ lines_of s)

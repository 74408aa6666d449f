-- How long a message is at most: its word is a part of the text.
use Rattle.std.specs.Prelude.{ℕ, zero, suc, ◌+◌, ◌-◌, ◌≤◌, ◌<◌, ◌≡◌, refl, Bool, true, false, cond, ◌&&◌, List, [], ◌∷◌, ◌++◌, T, leb, length, get_or, take}
use Rattle.std.proofs.Common.{arith, leb-true, length-append, length-drop}
use Rattle.request_format.specs.declared.fields.Field.{Field}
use Rattle.request_format.specs.declared.fields.Shape.{Shape}
use Rattle.request_format.specs.declared.fields.Shape.TheVariants as S
use Rattle.request_format.specs.Rows.{rows, rowAt, name_of, none}
use Rattle.tokens.specs.declared.Class.TheVariants as C
use Rattle.tokens.specs.Text.{run_of, is_in, before, lines_of}
use Rattle.request_text.specs.declared.Fault.{Fault}
use Rattle.request_text.specs.Lines.{content, said}
use Rattle.decimal_text.specs.Decimals.{decimal}
use Rattle.decimal_text.specs.laws.DecimalLaws.{decimal_64}
use Rattle.decimal_text.specs.Texts.{letters}
use Rattle.request_text.specs.Messages.{line_of, word_of, name_at, fault_text, message_of}

-- ---- a word

take_le : (n : ℕ) (l : List ℕ) → length (take n l) ≤ length l
take_le zero l = omega arith
take_le (suc n) [] = omega arith
take_le (suc n) (x ∷ l) = omega (arith, take_le n l)

line_le : (s : List ℕ) (k : ℕ) → length (get_or (lines_of s) k []) ≤ length s
unfolding lines_of
line_le [] k = omega arith
line_le (x ∷ s) k = by (is_in C.Line x) (lines_of s) (line_le s) k
  where
    by : (b : Bool) (ls : List (List ℕ)) → ((j : ℕ) → length (get_or ls j []) ≤ length s) → (j : ℕ)
        → length (get_or (cond b (before x ls) ([] ∷ ls)) j []) ≤ suc (length s)
    by true [] h zero = omega arith
    by true [] h (suc j) = omega arith
    by true (l ∷ ls) h zero = omega (arith, h 0)
    by true (l ∷ ls) h (suc j) = omega (arith, h (suc j))
    by false ls h zero = omega arith
    by false ls h (suc j) = omega (arith, h j)

word_le : (l : List ℕ) → length (word_of l) ≤ length l
unfolding word_of
word_le l =
    omega (arith, take_le (run_of C.Word (said l)) (said l), length-drop (run_of C.Blank (content l)) (content l), take_le (run_of C.Said l) l)

-- ---- a name

allShort : List Field → Bool
allShort [] = true
allShort (f ∷ fs) = leb (length (name_of f)) 9 && allShort fs

short : (l : List Field) (k : ℕ) → T (allShort l) → length (name_of (get_or l k none)) ≤ 9
unfolding allShort
short [] k t = omega arith
short (f ∷ fs) k t = by (leb (length (name_of f)) 9) refl (λ j u. short fs j u) k t
  where
    by : (b : Bool) → leb (length (name_of f)) 9 ≡ b → ((j : ℕ) → T (allShort fs) → length (name_of (get_or fs j none)) ≤ 9) → (j : ℕ)
        → T (b && allShort fs) → length (name_of (get_or (f ∷ fs) j none)) ≤ 9
    by true e h zero u = leb-true (length (name_of f)) 9 e
    by true e h (suc j) u = h j u
    by false e h j u = absurd u

all_short : (shape : Shape) → T (allShort (rows shape))
unfolding rows allShort
all_short S.Eclipse = tt
all_short S.Star = tt

name_le : (shape : Shape) (k : ℕ) → length (name_at shape k) ≤ 9
unfolding name_at rowAt
name_le shape k = short (rows shape) k (all_short shape)

-- ---- a message

of_le : (shape : Shape) (k : ℕ) (wrong l : List ℕ) → length wrong ≤ 50 → length (name_at shape k ++ wrong) ≤ 59 + length l
of_le shape k wrong l h = omega (arith, length-append (name_at shape k) wrong, name_le shape k)

fault_le : (shape : Shape) (f : Fault) (l : List ℕ) → length (fault_text shape f l) ≤ 59 + length l
unfolding fault_text
fault_le shape Fault.Unknown l = omega (arith, length-append (letters "unknown name ") (word_of l), word_le l)
fault_le shape (Fault.NotNumber k) l = of_le shape k (letters " is not a number") l (omega arith)
fault_le shape (Fault.NotWhole k) l = of_le shape k (letters " has too many decimals for a whole number of units") l (omega arith)
fault_le shape (Fault.Unfit k) l = of_le shape k (letters " is too large for its bytes") l (omega arith)
fault_le shape (Fault.Twice k) l = of_le shape k (letters " is given twice") l (omega arith)
fault_le shape (Fault.Missing k) l = of_le shape k (letters " is missing") l (omega arith)

pub message_le : (shape : Shape) (text : List ℕ) (i : ℕ) (f : Fault) → i < 18446744073709551616 → length (message_of shape text i f) ≤ 87 + length text
unfolding message_of
message_le shape text i f h =
    let number = letters "line " ++ decimal i in
    let start = number ++ letters ": " in
    let wrong = fault_text shape f (line_of text i) in
    omega (
      arith,
      length-append (letters "line ") (decimal i),
      length-append number (letters ": "),
      length-append start wrong,
      length-append (start ++ wrong) (letters "\n"),
      decimal_64 i h,
      fault_le shape f (line_of text i),
      line_le text (i - 1),
    )

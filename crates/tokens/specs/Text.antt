-- Text: bytes by their class, and lines.
use Rattle.std.specs.Prelude.{ℕ, suc, Bool, cond, not, ◌&&◌, ◌||◌, List, [], ◌∷◌, leb, eqb, length}
use Prim.Native.Char.{Char, code}
use Rattle.tokens.specs.declared.Class.{Class}
use Rattle.tokens.specs.declared.Class.TheVariants as C

-- a character's byte
abbrev is : ℕ → Char → Bool
is x c = eqb x (code c)

abbrev pub is_blank : ℕ → Bool
is_blank x = is x " " || is x "\t" || is x "\r"

abbrev pub is_in : Class → ℕ → Bool
is_in C.Line x = not (is x "\n")
is_in C.Said x = not (is x "#")
is_in C.Blank x = is_blank x
is_in C.Word x = not (is_blank x)
is_in C.Digit x = leb (code "0") x && leb x (code "9")
is_in C.Zero x = is x "0"
is_in C.Sign x = is x "+" || is x "-"
is_in C.Minus x = is x "-"
is_in C.Point x = is x "."

-- how many bytes of a class a text begins with
unfoldable pub run_of : Class → List ℕ → ℕ
run_of c [] = 0
run_of c (x ∷ s) = cond (is_in c x) (suc (run_of c s)) 0

-- all its bytes are of the class
abbrev pub all_of : Class → List ℕ → Bool
all_of c s = eqb (run_of c s) (length s)

-- 1 where it begins with a byte of the class
abbrev pub start_of : Class → List ℕ → ℕ
start_of c [] = 0
start_of c (x ∷ s) = cond (is_in c x) 1 0

-- a line ends at its newline, the last one also at the text's end
abbrev pub before : ℕ → List (List ℕ) → List (List ℕ)
before x [] = (x ∷ []) ∷ []
before x (l ∷ ls) = (x ∷ l) ∷ ls

unfoldable pub lines_of : List ℕ → List (List ℕ)
lines_of [] = []
lines_of (x ∷ s) = cond (is_in C.Line x) (before x (lines_of s)) ([] ∷ lines_of s)

-- Decimal numbers, exact in whole units.
use Rattle.std.specs.Prelude.{ℕ, zero, suc, ◌+◌, ◌-◌, ◌*◌, Bool, cond, ◌&&◌, List, ltb, length, get_or, drop, Result, Ok, Err}
use Rattle.tokens.specs.declared.NotUnits.{NotUnits}
use Prim.Native.Char.{code}
use Rattle.tokens.specs.declared.Class.TheVariants as C
use Rattle.tokens.specs.Text.{run_of, all_of, start_of}

-- a digit written after a number
abbrev pub digit_after : ℕ → ℕ → ℕ
digit_after n x = 10 * n + (x - code "0")

-- the first digits of a text written after a number, 0 for those that it does not have
unfoldable pub appended : ℕ → ℕ → List ℕ → ℕ
appended n zero s = n
appended n (suc k) s = appended (digit_after n (get_or s 0 (code "0"))) k (drop 1 s)

-- a number is a sign or none, digits, and perhaps a point and digits: one digit at least
abbrev pub unsigned : List ℕ → List ℕ
unsigned w = drop (start_of C.Sign w) w

abbrev pub wholes : List ℕ → ℕ
wholes w = run_of C.Digit (unsigned w)

abbrev pub pointed : List ℕ → List ℕ
pointed w = drop (wholes w) (unsigned w)

abbrev pub decimals : List ℕ → List ℕ
decimals w = drop (start_of C.Point (pointed w)) (pointed w)

unfoldable pub is_number : List ℕ → Bool
is_number w = all_of C.Digit (decimals w) && ltb 0 (wholes w + length (decimals w))

-- "exact in whole units": a unit has its last digit at decimal `places`, and all after that are 0
unfoldable pub is_whole : ℕ → List ℕ → Bool
is_whole places w = all_of C.Zero (drop places (decimals w))

-- its units, without the sign: the point moved by that many places
unfoldable pub amount : ℕ → List ℕ → ℕ
amount places w = appended (appended 0 (wholes w) (unsigned w)) places (decimals w)

-- numbers above the largest that any field holds need not be told apart
unfoldable pub capped : ℕ → ℕ
capped n = cond (ltb n 4294967296) n 4294967296

unfoldable pub units_of : ℕ → List ℕ → Result ℕ NotUnits
units_of places w = cond (is_number w) (cond (is_whole places w) (Ok (capped (amount places w))) (Err NotUnits.NotWhole)) (Err NotUnits.NotNumber)

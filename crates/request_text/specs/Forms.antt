-- The form of a word, and the numbers at its places.
use Rattle.std.specs.Prelude.{ℕ, ◌+◌, ◌-◌, ◌*◌, Bool, true, false, cond, ◌&&◌, List, [], ◌∷◌, eqb, get_or}
use Prim.Native.Char.{code}
use Rattle.tokens.specs.declared.Class.TheVariants as C
use Rattle.tokens.specs.Text.{is_in}

-- in a form `0` stands for any digit, every other character for itself
abbrev pub fits : ℕ → ℕ → Bool
fits p x = cond (eqb p (code "0")) (is_in C.Digit x) (eqb x p)

-- a word has as many characters as its form, and each fits
unfoldable pub has_form : List ℕ → List ℕ → Bool
has_form [] [] = true
has_form [] (x ∷ w) = false
has_form (p ∷ ps) [] = false
has_form (p ∷ ps) (x ∷ w) = fits p x && has_form ps w

-- the digit at a place of a word, 0 where the word ends before
abbrev pub digit_at : List ℕ → ℕ → ℕ
digit_at w k = get_or w k (code "0") - code "0"

-- two digits as a number
unfoldable pub two_at : List ℕ → ℕ → ℕ
two_at w k = 10 * digit_at w k + digit_at w (k + 1)

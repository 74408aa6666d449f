-- The lines of a text, read one after the other.
use Rattle.std.specs.Prelude.{◌≡◌, Bool, true, false, List, [], ◌∷◌, ℕ, suc, ◌+◌, ◌-◌, ◌≤◌, ◌<◌, length, take, drop}
use Rattle.std.proofs.Math.Path.{refl}
use Rattle.std.proofs.Common.{sym, ap, ◌∙◌, arith, length-drop, drop-drop}
use Rattle.tokens.specs.declared.Class.TheVariants as C
use Rattle.tokens.specs.Text.{is_in, run_of, before, lines_of}
use Rattle.tokens.specs.laws.TextLaws.{line-next, lines-nil}

-- the first line of a text, and those after it
pub first-line : (s : List ℕ) (n : ℕ) → 0 < length s → n ≡ run_of C.Line s → lines_of s ≡ take n s ∷ lines_of (drop (n + 1) s)
first-line s n h e =
    let a : 0 + n - 0 ≡ n = omega arith in
    let b : 0 + n + 1 ≡ n + 1 = omega arith in
    rw (a, b) at (line-next s 0 n h e)

pub no-lines : (s : List ℕ) → length s ≡ 0 → lines_of s ≡ []
no-lines [] e = lines-nil
no-lines (x ∷ s) e = absurd (omega arith)

-- what follows a line: without its newline, or nothing
none-alike : (a b : List ℕ) → length a ≡ 0 → length b ≡ 0 → a ≡ b
none-alike [] [] e q = refl
none-alike [] (x ∷ b) e q = absurd (omega arith)
none-alike (x ∷ a) b e q = absurd (omega arith)

module _ (s others : List ℕ) (n : ℕ) (o : others ≡ drop n s) where
  pub after-newline : (x : ℕ) (next : List ℕ) → others ≡ x ∷ next → next ≡ drop (n + 1) s
  after-newline x next e = ap (drop 1) (sym e ∙ o) ∙ drop-drop 1 n s

  pub after-end : length others ≡ 0 → others ≡ drop (n + 1) s
  after-end e = none-alike others (drop (n + 1) s) e (omega (arith, e, ap (λ (l : List ℕ). length l) o, length-drop n s, length-drop (n + 1) s))

-- a text has at most as many lines as bytes
line-in : (x : ℕ) (s : List ℕ) → is_in C.Line x ≡ true → lines_of (x ∷ s) ≡ before x (lines_of s)
unfolding lines_of
line-in x s e = rw e

line-out : (x : ℕ) (s : List ℕ) → is_in C.Line x ≡ false → lines_of (x ∷ s) ≡ [] ∷ lines_of s
unfolding lines_of
line-out x s e = rw e

one-more : (x : ℕ) (ls : List (List ℕ)) → length (before x ls) ≤ suc (length ls)
one-more x [] = omega arith
one-more x (l ∷ ls) = omega arith

pub few-lines : (s : List ℕ) → length (lines_of s) ≤ length s
few-lines [] = rw lines-nil (omega arith)
few-lines (x ∷ s) = by (is_in C.Line x) refl (few-lines s)
  where
    by : (b : Bool) → is_in C.Line x ≡ b → length (lines_of s) ≤ length s → length (lines_of (x ∷ s)) ≤ suc (length s)
    by true e h = rw (line-in x s e) (omega (arith, one-more x (lines_of s), h))
    by false e h = rw (line-out x s e) (omega (arith, h))

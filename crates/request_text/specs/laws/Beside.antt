-- A line that names the instant or TAI-UTC changes no number: a text gives the same ones, and is of the same shape, as with that
-- line empty.
use Rattle.std.specs.Prelude.{◌≡◌, Bool, true, false, cond, List, [], ◌∷◌, map, ℕ, ◌+◌, ℤ, replicate, Ok, None, Result, Option}
use Rattle.std.proofs.Math.Path.{refl}
use Rattle.std.proofs.Common.{sym, ap, ◌∙◌, arith}
use Rattle.request_text.specs.declared.Fault.{Fault}
use Rattle.request_format.specs.declared.fields.Shape.{Shape}
use Rattle.request_format.specs.Fields.{countOf}
use Rattle.request_format.specs.Rows.{letters}
use Rattle.tokens.specs.Text.{run_of, lines_of}
use Rattle.request_text.specs.Names.{named}
use Rattle.request_text.specs.Lines.{said, meaning_of, names_clock, number_in}
use Rattle.request_text.specs.laws.LineLaws.{number-none}
use Rattle.request_text.specs.Shapes.{shape_in, shape_of}
use Rattle.request_text.specs.laws.ShapeLaws.{shape-miss}
use Rattle.request_text.specs.laws.OneShape.{no_clock}
use Rattle.request_text.specs.Typing.{noted_of, marks_after, numbers_after, onward, untyped, read_lines, typing_of}
use Rattle.request_text.specs.laws.TypingLaws.{read-line}

-- a line that names the instant or TAI-UTC, empty
abbrev pub emptied : List ℕ → List ℕ
emptied l = cond (names_clock l) [] l

-- and it names none then
pub emptied_not : (l : List ℕ) → names_clock (emptied l) ≡ false
unfolding named run_of
emptied_not l = by (names_clock l) refl
  where
    by : (b : Bool) → names_clock l ≡ b → names_clock (cond b [] l) ≡ false
    by true e = refl
    by false e = e

module _ (shape : Shape) where
  empty-line : number_in shape [] ≡ Ok None
  unfolding number_in meaning_of named run_of
  empty-line = refl

  line-emptied : (l : List ℕ) → number_in shape (emptied l) ≡ number_in shape l
  line-emptied l = by (names_clock l) refl
    where
      by : (b : Bool) → names_clock l ≡ b → number_in shape (cond b [] l) ≡ number_in shape l
      by true e = empty-line ∙ number-none shape l e
      by false e = refl

  lines-emptied : (ls : List (List ℕ)) (i : ℕ) (ns : List ℤ) (marks : List ℕ) → read_lines shape (map emptied ls) i ns marks ≡ read_lines shape ls i ns marks
  lines-emptied [] i ns marks = refl
  lines-emptied (l ∷ ls) i ns marks =
      let m = number_in shape l in
      read-line shape (emptied l) (map emptied ls) i ns marks
      ∙ ap (λ (x : Result (Option (ℕ × ℤ)) Fault). onward (noted_of x marks) i (read_lines shape (map emptied ls) (i + 1) (numbers_after x marks ns) (marks_after x marks))) (line-emptied l)
      ∙ ap (onward (noted_of m marks) i) (lines-emptied ls (i + 1) (numbers_after m marks ns) (marks_after m marks))
      ∙ sym (read-line shape l ls i ns marks)

  -- of two texts, the one with the lines of the other, those that name the instant or TAI-UTC empty: both mean the same
  pub typing-emptied : (text other : List ℕ) → lines_of other ≡ map emptied (lines_of text) → typing_of shape other ≡ typing_of shape text
  unfolding typing_of
  typing-emptied text other e = rw e (lines-emptied (lines_of text) 1 (untyped shape) (replicate (countOf shape) 0))

-- ---- which request it is

empty_shape : (ls : List (List ℕ)) → shape_in ([] ∷ ls) ≡ shape_in ls
unfolding shape_in named run_of
empty_shape ls = refl

-- a line that names the instant or TAI-UTC does not name the radius
no_radius : (l : List ℕ) → names_clock l ≡ true → named (letters "radius") (said l) ≡ false
no_radius l e = by (named (letters "radius") (said l)) refl
  where
    by : (b : Bool) → named (letters "radius") (said l) ≡ b → b ≡ false
    by true q = let n = no_clock (said l) q in let z : ◌≡◌ {A = ℕ} 0 1 = cc in absurd (omega arith)
    by false q = refl

same_start : (l : List ℕ) (a b : List (List ℕ)) → shape_in a ≡ shape_in b → shape_in (l ∷ a) ≡ shape_in (l ∷ b)
unfolding shape_in
same_start l a b h = rw h

shapes_emptied : (ls : List (List ℕ)) → shape_in (map emptied ls) ≡ shape_in ls
shapes_emptied [] = refl
shapes_emptied (l ∷ ls) = by (names_clock l) refl (shapes_emptied ls)
  where
    by : (b : Bool) → names_clock l ≡ b → shape_in (map emptied ls) ≡ shape_in ls → shape_in (cond b [] l ∷ map emptied ls) ≡ shape_in (l ∷ ls)
    by true e h = empty_shape (map emptied ls) ∙ h ∙ sym (shape-miss l ls (no_radius l e))
    by false e h = same_start l (map emptied ls) ls h

pub shape_emptied : (text other : List ℕ) → lines_of other ≡ map emptied (lines_of text) → shape_of other ≡ shape_of text
unfolding shape_of
shape_emptied text other e = rw e (shapes_emptied (lines_of text))

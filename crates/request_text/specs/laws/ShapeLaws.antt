-- A text asks about a star where some line names the radius.
use Rattle.std.specs.Prelude.{◌≡◌, refl, Bool, true, false, cond, List, [], ◌∷◌, ℕ, ◌+◌, ◌≤◌, ◌<◌, length, drop}
use Rattle.std.specs.List.{list_any}
use Rattle.std.proofs.Common.{◌∙◌, sym, ap, arith}
use Rattle.request_format.specs.declared.fields.Shape.TheVariants as S
use Rattle.request_format.specs.Rows.{letters}
use Rattle.tokens.specs.Text.{lines_of, run_of}
use Rattle.request_text.specs.Names.{named}
use Rattle.request_text.specs.Lines.{said}
use Rattle.request_text.specs.Shapes.{shape_in, shape_of}
use Rattle.tokens.specs.declared.Class.TheVariants as C
use Rattle.tokens.specs.laws.TextLaws.{line_at, line-within, line-next, lines_end}

pub shape_none : shape_in [] ≡ S.Eclipse
unfolding shape_in
shape_none = refl

module _ (l : List ℕ) (ls : List (List ℕ)) where
  pub shape-hit : named (letters "radius") (said l) ≡ true → shape_in (l ∷ ls) ≡ S.Star
  unfolding shape_in
  shape-hit e = rw e

  pub shape-miss : named (letters "radius") (said l) ≡ false → shape_in (l ∷ ls) ≡ shape_in ls
  unfolding shape_in
  shape-miss e = rw e

-- a line names it
abbrev pub names_it : List ℕ → Bool
names_it l = named (letters "radius") (said l)

shape-any : (ls : List (List ℕ)) → shape_in ls ≡ cond (list_any names_it ls) S.Star S.Eclipse
shape-any [] = shape_none
shape-any (l ∷ ls) = by (names_it l) refl (shape-any ls)
  where
    by : (b : Bool) → names_it l ≡ b → shape_in ls ≡ cond (list_any names_it ls) S.Star S.Eclipse → shape_in (l ∷ ls) ≡ cond (list_any names_it (l ∷ ls)) S.Star S.Eclipse
    by true e h = rw e (shape-hit l ls e)
    by false e h = rw e (shape-miss l ls e ∙ h)

pub shape-by : (text : List ℕ) → shape_of text ≡ cond (list_any names_it (lines_of text)) S.Star S.Eclipse
unfolding shape_of
shape-by text = shape-any (lines_of text)

-- ---- the lines of a text one after the other, up to one that names it

-- the lines before byte `at` do not name it
pub record Passed (text : List ℕ) (at : ℕ) : Type 0 where
  pub others : shape_of text ≡ shape_in (lines_of (drop at text))
  pub place : at ≤ length text + 1

pub passed_none : (text : List ℕ) → Passed text 0
unfolding shape_of
passed_none text = record { others = refl; place = omega arith }

module _ (text : List ℕ) (at : ℕ) (p : Passed text at) where
  pub passed-all : length text ≤ at → S.Eclipse ≡ shape_of text
  passed-all h = sym (p.others ∙ ap shape_in (lines_end text at h) ∙ shape_none)

  module _ (n : ℕ) (h : at < length text) (e : n ≡ run_of C.Line (drop at text)) where
    here : shape_of text ≡ shape_in (line_at text at n h e ∷ lines_of (drop (at + n + 1) text))
    here = p.others ∙ ap shape_in (line-next text at n h e)

    pub passed-hit : named (letters "radius") (said (line_at text at n h e)) ≡ true → S.Star ≡ shape_of text
    passed-hit y = sym (here ∙ shape-hit (line_at text at n h e) (lines_of (drop (at + n + 1) text)) y)

    pub passed-more : named (letters "radius") (said (line_at text at n h e)) ≡ false → Passed text (at + n + 1)
    passed-more y =
        record {
          others = here ∙ shape-miss (line_at text at n h e) (lines_of (drop (at + n + 1) text)) y;
          place = omega (arith, line-within text at n h e);
        }

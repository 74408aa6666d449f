-- Which request a typed text is.
use Rattle.std.specs.Prelude.{cond, List, [], ◌∷◌, ℕ}
use Rattle.request_format.specs.declared.fields.Shape.{Shape}
use Rattle.request_format.specs.declared.fields.Shape.TheVariants as S
use Rattle.request_format.specs.Rows.{letters}
use Rattle.tokens.specs.Text.{lines_of}
use Rattle.request_text.specs.Names.{named}
use Rattle.request_text.specs.Lines.{said}

-- a star's, if a line names the radius, which an eclipse does not have; else an eclipse's
unfoldable pub shape_in : List (List ℕ) → Shape
shape_in [] = S.Eclipse
shape_in (l ∷ ls) = cond (named (letters "radius") (said l)) S.Star (shape_in ls)

unfoldable pub shape_of : List ℕ → Shape
shape_of text = shape_in (lines_of text)

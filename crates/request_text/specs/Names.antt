-- The names of a request's numbers, and which of them a line says.
-- The numbers: request_format, Fields.
use Rattle.std.specs.Prelude.{ℕ, ◌+◌, Bool, true, false, cond, ◌&&◌, List, [], ◌∷◌, map, eqb, length, Option, None, Some}
use Rattle.request_format.specs.declared.fields.Shape.{Shape}
use Rattle.request_format.specs.Fields.{Number, layout_of, numbers_of}
use Rattle.request_format.specs.Rows.{letters}
use Rattle.tokens.specs.declared.Class.TheVariants as C
use Rattle.tokens.specs.Text.{is_in}

unfoldable pub names : Shape → List (List ℕ)
names shape = map (λ (n : Number). letters n.name) (numbers_of (layout_of shape))

-- what is said begins with the name, and a blank or nothing follows it
unfoldable pub named : List ℕ → List ℕ → Bool
named [] [] = true
named [] (x ∷ s) = is_in C.Blank x
named (n ∷ ns) [] = false
named (n ∷ ns) (x ∷ s) = eqb x n && named ns s

-- the first of some names, from name k on, that is said, and its length
unfoldable pub find_in : List (List ℕ) → ℕ → List ℕ → Option (ℕ × ℕ)
find_in [] k said = None
find_in (n ∷ ns) k said = cond (named n said) (Some (k, (length n))) (find_in ns (k + 1) said)

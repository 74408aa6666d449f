-- The lines of a listing, as bytes: document 01, "The hand-worked sheet". In a pattern # stands for a number. Up to
-- `text_of` a line has no end.
use Rattle.std.specs.Prelude.{ℕ, cond, List, [], ◌∷◌, ◌++◌, pos}
use Prim.Native.String.{String}
use Rattle.sheet_types.specs.declared.phases.Phase.{Phase}
use Rattle.sheet_types.specs.declared.phases.Phase.TheVariants.{Penumbra, Central, Star}
use Rattle.sheet_format.specs.declared.kinds.Kind.{Kind}
use Rattle.sheet_format.specs.declared.kinds.Kind.TheVariants.{Head, Enter, Leave, Graze, Open, Closest, Share, End}
use Rattle.sheet_format.specs.declared.kinds.Entry.{Entry}
use Rattle.sheet_format.specs.Kinds.{is_end}
use Rattle.sheet_format.specs.StoredSeconds.{second_of}
use Rattle.decimal_text.specs.Decimals.{decimal}
use Rattle.decimal_text.specs.Texts.{letters}
use Rattle.decimal_text.specs.Patterns.{filled}

-- the phase's word; that of a star (document 02, wish 7) as the others have it
abbrev pub name_of : Phase → String
name_of Penumbra = "penumbra"
name_of Central = "central"
name_of Star = "star"

-- "a head line": the station and its window
abbrev pub head_line : ℕ → ℕ → ℕ → List ℕ
head_line station first last = filled (pos station ∷ second_of first ∷ second_of last ∷ []) 0 (letters "station # from # to #")

-- "then each entry with from, to, direction"
abbrev pub contact_line : List ℕ → Phase → ℕ → ℕ → ℕ → List ℕ
contact_line word φ from to direction = word ++ letters (name_of φ) ++ filled (second_of from ∷ second_of to ∷ pos direction ∷ []) 0 (letters " # # #")

-- "The words `graze` and `open` replace `enter` with no direction."
abbrev pub unsure_line : List ℕ → Phase → ℕ → ℕ → List ℕ
unsure_line word φ from to = word ++ letters (name_of φ) ++ filled (second_of from ∷ second_of to ∷ []) 0 (letters " # #")

-- "last the closest second with magnitude"
abbrev pub closest_line : ℕ → ℕ → List ℕ
closest_line second magnitude = filled (second_of second ∷ pos magnitude ∷ []) 0 (letters "closest # #")

-- document 02, wish 4, as the others have it: a word and the share
abbrev pub share_line : ℕ → List ℕ
share_line covered = filled (pos covered ∷ []) 0 (letters "share #")

-- the text of a kind's line with its first three fields; the end record has none
abbrev pub text_for : Kind → ℕ → ℕ → ℕ → List ℕ
text_for Head a b c = head_line a b c
text_for (Enter φ) a b c = contact_line (letters "enter ") φ a b c
text_for (Leave φ) a b c = contact_line (letters "leave ") φ a b c
text_for (Graze φ) a b c = unsure_line (letters "graze ") φ a b
text_for (Open φ) a b c = unsure_line (letters "open ") φ a b
text_for Closest a b c = closest_line a b
text_for Share a b c = share_line a
text_for End a b c = []

unfoldable pub text_of : Entry → List ℕ
text_of e = text_for e.kind e.a e.b e.c

-- the end of a kind's line; the end record has no line
unfoldable pub end_for : Kind → List ℕ
end_for k = cond (is_end k) [] (letters "\n")

-- the line of an entry
unfoldable pub line_of : Entry → List ℕ
line_of e = text_of e ++ end_for e.kind

-- the lines of some entries
unfoldable pub lines_of : List Entry → List ℕ
lines_of [] = []
lines_of (e ∷ es) = line_of e ++ lines_of es

-- a word and two numbers
abbrev pub numbered : List ℕ → ℕ → ℕ → List ℕ
numbered word x y = word ++ decimal x ++ letters " " ++ decimal y

-- "A refusal prints `refused`, number, place."
unfoldable pub refusal_text : ℕ → ℕ → List ℕ
refusal_text number place = numbered (letters "refused ") number place

unfoldable pub refusal_line : ℕ → ℕ → List ℕ
refusal_line number place = refusal_text number place ++ letters "\n"

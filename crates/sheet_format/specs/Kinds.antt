-- The table of kinds of document 01: a row for each kind, and what is read off it.
use Rattle.std.specs.Prelude.{ℕ, ◌+◌, List, [], ◌∷◌, Bool, true, false, cond, ◌&&◌, eqb, Option, None, Some}
use Rattle.sheet_types.specs.declared.phases.Phase.{Phase}
use Rattle.sheet_types.specs.declared.phases.Phase.TheVariants.{Penumbra, Central, Star}
use Rattle.sheet_format.specs.declared.kinds.Kind.{Kind}
use Rattle.sheet_format.specs.declared.kinds.Kind.TheVariants as K
use Rattle.sheet_format.specs.declared.kinds.Width.{Width}
use Rattle.sheet_format.specs.declared.kinds.Width.TheVariants.{Absent, Two, Four}
use Rattle.sheet_format.specs.declared.kinds.Widths.{Widths}
use Rattle.sheet_format.specs.declared.kinds.Stage.{Stage}
use Rattle.sheet_format.specs.declared.kinds.Stage.TheVariants as S
use Rattle.sheet_format.specs.declared.kinds.Progress.{Progress}
use Rattle.sheet_format.specs.declared.kinds.Entry.{Entry}
use Rattle.sheet_format.specs.FieldRules.{head_holds, span_holds, open_holds, is_direction, closest_holds, shareHolds}

-- a row: the byte of the kind, the widths of its fields a, b, c, d, its stage in the order, and the rule of its fields
pub record Row : Type 0 where
  pub code : ℕ
  pub widths : Widths
  pub stage : Stage
  pub rule : Progress → Entry → Bool

abbrev pub row : ℕ → Widths → Stage → (Progress → Entry → Bool) → Row
row code widths stage rule = record { code = code; widths = widths; stage = stage; rule = rule }

abbrev pub fields : Width → Width → Width → Width → Widths
fields a b c d = record { a = a; b = b; c = c; d = d }

-- "10, 11 enter, leave penumbra; 20, 21 central": a phase's first kind. Document 02, wish 7: "Sheets use kinds 40 to
-- 43 where eclipses use 10 to 13, and closest carries magnitude 0."
abbrev pub base : Phase → ℕ
base Penumbra = 0x10
base Central = 0x20
base Star = 0x40

-- "01 head: station, first, last (2 bytes each)", and at its end, by document 02, wish 9, "a guard of 16 to 1,000, two
-- bytes"; "10, 11 enter, leave penumbra; 20, 21 central: from, to, direction (2 each)"; "12, 13 graze, open penumbra;
-- 22, 23 central: from, to (2 each)"; "30 closest: second (2), magnitude (4)"; "7F end: none". Wish 4: "A new kind 31
-- with a 4-byte body stands once, directly after closest".
abbrev pub table : Kind → Row
table K.Head = row 0x01 (fields Two Two Two Two) S.Head (λ p e. head_holds e.a e.b e.c e.d)
table (K.Enter φ) = row (base φ) (fields Two Two Two Absent) (S.Phase φ) (λ p e. span_holds p e.a e.b && is_direction e.c)
table (K.Leave φ) = row (base φ + 1) (fields Two Two Two Absent) (S.Phase φ) (λ p e. span_holds p e.a e.b && is_direction e.c)
table (K.Graze φ) = row (base φ + 2) (fields Two Two Absent Absent) (S.Phase φ) (λ p e. span_holds p e.a e.b)
table (K.Open φ) = row (base φ + 3) (fields Two Two Absent Absent) (S.Phase φ) (λ p e. open_holds p e.a e.b)
table K.Closest = row 0x30 (fields Two Four Absent Absent) S.Closest (λ p e. closest_holds p e.a e.b)
table K.Share = row 0x31 (fields Four Absent Absent Absent) S.Share (λ p e. shareHolds e.a)
table K.End = row 0x7f (fields Absent Absent Absent Absent) S.End (λ p e. true)

abbrev pub kinds : List Kind
kinds =
    K.Head ∷ K.Enter Penumbra ∷ K.Leave Penumbra ∷ K.Graze Penumbra ∷ K.Open Penumbra
    ∷ K.Enter Central ∷ K.Leave Central ∷ K.Graze Central ∷ K.Open Central ∷ K.Closest ∷ K.Share
    ∷ K.Enter Star ∷ K.Leave Star ∷ K.Graze Star ∷ K.Open Star ∷ K.End ∷ []

abbrev pub code_of : Kind → ℕ
code_of k = (table k).code

abbrev pub widths_of : Kind → Widths
widths_of k = (table k).widths

-- "kind not in the table": the kind that a number names, the first of some kinds whose byte it is
abbrev pub among : ℕ → List Kind → Option Kind
among x [] = None
among x (k ∷ ks) = cond (eqb x (code_of k)) (Some k) (among x ks)

abbrev pub kind_for : ℕ → Option Kind
kind_for x = among x kinds

-- "one byte of kind, then a body whose length the kind fixes"
abbrev pub bytes_in : Width → ℕ
bytes_in Absent = 0
bytes_in Two = 2
bytes_in Four = 4

abbrev pub size_of : Kind → ℕ
size_of k = let w = widths_of k in 1 + (bytes_in w.a + (bytes_in w.b + (bytes_in w.c + bytes_in w.d)))

abbrev pub is_end : Kind → Bool
is_end K.Head = false
is_end (K.Enter φ) = false
is_end (K.Leave φ) = false
is_end (K.Graze φ) = false
is_end (K.Open φ) = false
is_end K.Closest = false
is_end K.Share = false
is_end K.End = true

-- a number that the kind does not use is 0
abbrev pub unused : Width → ℕ → Bool
unused Absent x = eqb x 0
unused Two x = true
unused Four x = true

unfoldable pub plain : Entry → Bool
plain e = let w = widths_of e.kind in unused w.a e.a && unused w.b e.b && unused w.c e.c && unused w.d e.d

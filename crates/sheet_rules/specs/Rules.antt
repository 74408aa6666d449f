-- What the rules say of an entry, by what came before it. Reader and writer both use these.
use Rattle.std.specs.Prelude.{ℕ, Bool, cond, ◌&&◌, ◌||◌, not, leb, Result, Err}
use Rattle.sheet_types.specs.declared.refusals.Refusal.{Refusal}
use Rattle.sheet_types.specs.declared.phases.Phase.{Phase}
use Rattle.sheet_types.specs.Refusals.{refusal}
use Rattle.sheet_format.specs.declared.kinds.Kind.{Kind}
use Rattle.sheet_format.specs.declared.kinds.Kind.TheVariants as K
use Rattle.sheet_format.specs.declared.kinds.Stage.{Stage}
use Rattle.sheet_format.specs.declared.kinds.Stage.TheVariants as S
use Rattle.sheet_format.specs.declared.kinds.Crossing.{Crossing}
use Rattle.sheet_format.specs.declared.kinds.Crossing.TheVariants as C
use Rattle.sheet_format.specs.declared.kinds.Progress.{Progress}
use Rattle.sheet_format.specs.declared.kinds.Entry.{Entry}
use Rattle.sheet_rules.specs.declared.rules.OrderRule.{OrderRule}
use Rattle.sheet_rules.specs.declared.rules.OrderRule.TheVariants as O
use Rattle.sheet_rules.specs.declared.rules.FieldRule.{FieldRule}
use Rattle.sheet_rules.specs.declared.rules.FieldRule.TheVariants as F
use Rattle.sheet_format.specs.Kinds.{table, plain}
use Rattle.sheet_format.specs.FieldRules.{is_within}
use Rattle.sheet_rules.specs.Order.{may_come, closest_after, repeats}

-- ---- how far a sheet has come

-- an entry of no phase came, in the window first to last
abbrev pub reached : Stage → ℕ → ℕ → Progress
reached stage first last = record { stage = stage; first = first; last = last; until = 0; crossing = C.Neither }

-- nothing has come
abbrev pub start : Progress
start = reached S.Start 0 0

-- an entry of a phase came, with that `to` and that crossing
abbrev pub passed : Progress → Phase → ℕ → Crossing → Progress
passed p φ to crossing = record { stage = S.Phase φ; first = p.first; last = p.last; until = to; crossing = crossing }

-- "grazes and opens passed over": the crossing that stands when one of the phase came
abbrev pub crossing_kept : Progress → Phase → Crossing
crossing_kept p φ = cond (is_within p.stage φ) p.crossing C.Neither

abbrev pub after_kind : Progress → Entry → Kind → Progress
after_kind p e K.Head = reached S.Head e.b e.c
after_kind p e (K.Enter φ) = passed p φ e.b C.Enter
after_kind p e (K.Leave φ) = passed p φ e.b C.Leave
after_kind p e (K.Graze φ) = passed p φ e.b (crossing_kept p φ)
after_kind p e (K.Open φ) = passed p φ e.b (crossing_kept p φ)
after_kind p e K.Closest = reached (closest_after p.stage) p.first p.last
after_kind p e K.Share = reached S.Share p.first p.last
after_kind p e K.End = reached S.End p.first p.last

-- how far the sheet has come after an entry
abbrev pub after_of : Progress → Entry → Progress
after_of p e = after_kind p e e.kind

-- ---- the two rules

-- "each from at least the previous to of its family, and no enter next to an enter or leave next to a leave in that
-- family, grazes and opens passed over": both only after an entry of the same phase
abbrev pub phase_in_order : Progress → Phase → Crossing → ℕ → Bool
phase_in_order p φ crossing from =
    may_come p.stage (S.Phase φ) && (not (is_within p.stage φ) || (leb p.until from && not (repeats p.crossing crossing)))

abbrev pub kind_in_order : Progress → Entry → Kind → Bool
kind_in_order p e K.Head = may_come p.stage S.Head
kind_in_order p e (K.Enter φ) = phase_in_order p φ C.Enter e.a
kind_in_order p e (K.Leave φ) = phase_in_order p φ C.Leave e.a
kind_in_order p e (K.Graze φ) = phase_in_order p φ C.Neither e.a
kind_in_order p e (K.Open φ) = phase_in_order p φ C.Neither e.a
kind_in_order p e K.Closest = may_come p.stage S.Closest
kind_in_order p e K.Share = may_come p.stage S.Share
kind_in_order p e K.End = may_come p.stage S.End

abbrev pub inOrder : Progress → Entry → Bool
inOrder p e = kind_in_order p e e.kind

-- "a field breaks a reader's rule": the rule of the table, and 0 where the kind uses none
abbrev pub fields_hold : Progress → Entry → Bool
fields_hold p e = plain e && (table e.kind).rule p e

-- ---- the answers

-- whether an entry keeps the order
unfoldable pub order_of : Progress → Entry → OrderRule
order_of p e = cond (inOrder p e) O.Kept O.Broken

-- whether its fields keep their rules, where it is known whether it is plain
unfoldable pub fields_as : Bool → Progress → Entry → FieldRule
fields_as is_plain p e = cond (is_plain && (table e.kind).rule p e) F.Kept F.Broken

abbrev pub fields_of : Progress → Entry → FieldRule
fields_of p e = fields_as (plain e) p e

-- "7 | a field breaks a reader's rule | as 5": "first byte of that record", which stands at `at`
abbrev pub of_fields : ℕ → Result (Entry × ℕ) Refusal → FieldRule → Result (Entry × ℕ) Refusal
of_fields at given F.Kept = given
of_fields at given F.Broken = Err (refusal 7 at)

-- "8 | order broken | as 5"
abbrev pub of_order : ℕ → Result (Entry × ℕ) Refusal → OrderRule → Result (Entry × ℕ) Refusal
of_order at given O.Kept = given
of_order at given O.Broken = Err (refusal 8 at)

-- Entries that make a sheet: the rules of document 01, folded over a list of entries.
-- WellFormedLaws builds one up from a head, phases, closest and end.
use Rattle.std.specs.Prelude.{ℕ, ◌≡◌, List, [], ◌∷◌, true, false, cond}
use Rattle.sheet_types.specs.declared.phases.Phase.{Phase}
use Rattle.sheet_format.specs.declared.kinds.Entry.{Entry}
use Rattle.sheet_format.specs.declared.kinds.Stage.TheVariants as S
use Rattle.sheet_format.specs.declared.kinds.Crossing.{Crossing}
use Rattle.sheet_format.specs.declared.kinds.Progress.{Progress}
use Rattle.sheet_format.specs.Kinds.{is_end}
use Rattle.sheet_rules.specs.Rules.{inOrder, fields_hold, after_of}

-- each entry keeps the order and its fields the rules, by what came before it; the first end entry is the last
unfoldable pub WellFormed : Progress → List Entry → Type 0
WellFormed p [] = ⊥
WellFormed p (e ∷ es) = (inOrder p e ≡ true) × (fields_hold p e ≡ true) × cond (is_end e.kind) (es ≡ []) (WellFormed (after_of p e) es)

-- in the phase φ, in the window f to l, with the previous `to` u and the last crossing t
abbrev pub within : Phase → ℕ → ℕ → ℕ → Crossing → Progress
within φ f l u t = record { stage = S.Phase φ; first = f; last = l; until = u; crossing = t }

-- an entry may come at p, and the sheet has then come to q
pub record Step (p : Progress) (e : Entry) (q : Progress) : Type 0 where
  pub order : inOrder p e ≡ true
  pub fields : fields_hold p e ≡ true
  pub goes_on : is_end e.kind ≡ false
  pub comes_to : after_of p e ≡ q

-- The station that is named: the first in the list of those with the smallest "to" (`named-at`, `first-smallest`); 0
-- where none enters (`named_none`).
use Rattle.std.specs.Prelude.{◌≡◌, refl, List, [], ◌∷◌, ℕ, zero, suc, ◌≤◌, length, get_or}
use Rattle.std.proofs.Common.{sym, ◌∙◌, subst, arith}
use Rattle.std.proofs.Math.Path.{ap}
use Rattle.std.proofs.Math.IntN.{nat_abs}
use Rattle.std.proofs.lemmas.List.{length-map}
use Rattle.std.proofs.Math.ListN.{get_or-map}
use Rattle.clock_network.specs.laws.First.{First}
use Rattle.clock_network.specs.Steps.{Smallest}
use Rattle.clock_network.specs.Defined.{earliestOf}
use Rattle.clock_network.specs.laws.DefinedLaws.{earliest-of}
use Rattle.clock_network.specs.declared.stations.Node.{Node}
use Rattle.clock_network.specs.Held.{blank_node}
use Rattle.clock_network.specs.Nodes.{number_of}
use Rattle.networks.specs.Enters.{never}
use Rattle.clock_network.specs.declared.checks.Eclipse.{Eclipse}
use Rattle.networks.specs.Network.{to_of, tos_of, named}

past : {A : Type 0} (l : List A) (i : ℕ) (d : A) → length l ≤ i → get_or l i d ≡ d
past [] i d h = refl
past (x ∷ l) zero d h = absurd (omega arith)
past (x ∷ l) (suc i) d h = past l i d (omega arith)

module _ (e : Eclipse) (l : List Node) where
  abbrev place : ℕ
  place = earliestOf (tos_of e l) never

  -- the first of the smallest, or the list's length where none enters
  pub first-smallest : First (Smallest (tos_of e l) never) (length l) place
  first-smallest = subst (λ (n : ℕ). First (Smallest (tos_of e l) never) n place) (length-map l (to_of e)) (earliest-of (tos_of e l) never)

  pub named-at : (p : ℕ) → p ≡ place → named e l ≡ nat_abs (get_or l p blank_node).station.number
  unfolding named
  named-at p h = ap nat_abs (get_or-map number_of l place blank_node ∙ ap (λ (i : ℕ). (get_or l i blank_node).station.number) (sym h))

  pub named_none : (p : ℕ) → p ≡ place → length l ≤ p → named e l ≡ 0
  named_none p h b = named-at p h ∙ ap (λ (n : Node). nat_abs n.station.number) (past l p blank_node b)

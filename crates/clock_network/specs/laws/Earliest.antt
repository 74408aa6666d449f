-- The search for the first of the smallest numbers below a bound, place by place.
use Rattle.std.specs.Prelude.{◌≡◌, ◌⊎◌, ℕ, ◌<◌, ◌≤◌, List, length, get_or}
use Rattle.std.proofs.Common.{⊎_elim, arith}
use Rattle.clock_network.specs.laws.First.{First}
use Rattle.clock_network.specs.Steps.{Smallest}

-- the smallest so far is `low`, and stands first at `best`; or none is below the bound
abbrev pub Where : List ℕ → ℕ → ℕ → ℕ → ℕ → Type 0
Where ts never i low best = ((low ≡ never) × (best ≡ length ts)) ⊎ ((low < never) × ((best < i) × ((get_or ts best 0 ≡ low) × ((k : ℕ) → k < best → low < get_or ts k 0))))

pub record SoFar (ts : List ℕ) (never i low best : ℕ) : Type 0 where
  pub within : i ≤ length ts
  pub bound : low ≤ never
  pub least : (k : ℕ) → k < i → low ≤ get_or ts k 0
  pub stands : Where ts never i low best

pub far-end : (ts : List ℕ) (never i low best : ℕ) → SoFar ts never i low best → length ts ≤ i → First (Smallest ts never) (length ts) best
far-end ts never i low best f h = ⊎_elim none some f.stands
  where
    none : (low ≡ never) × (best ≡ length ts) → First (Smallest ts never) (length ts) best
    none w = let e : low ≡ never = w.0 in let d : best ≡ length ts = w.1 in record {
      within = omega arith;
      before = λ k l s. let a : get_or ts k 0 < never = s.0 in let c : low ≤ get_or ts k 0 = f.least k (omega arith) in omega arith;
      found = λ l. absurd (omega arith);
    }

    some : (low < never) × ((best < i) × ((get_or ts best 0 ≡ low) × ((k : ℕ) → k < best → low < get_or ts k 0))) → First (Smallest ts never) (length ts) best
    some w = let a : low < never = w.0 in let c : best < i = w.1.0 in let g : i ≤ length ts = f.within in let e : get_or ts best 0 ≡ low = w.1.1.0 in record {
      within = omega arith;
      before = λ k l s. let p : low < get_or ts k 0 = w.1.1.1 k l in let q : get_or ts k 0 ≤ get_or ts best 0 = s.1 best (omega arith) in omega arith;
      found = λ _. (omega arith, λ k l. let p : low ≤ get_or ts k 0 = f.least k (omega arith) in omega arith);
    }

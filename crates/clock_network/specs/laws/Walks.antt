-- Lists walked place by place: the first place of a property, the smallest so far, a number that repeats or that names no
-- station, and a copy of something of each node.
use Rattle.std.specs.Prelude.{◌≡◌, refl, ℕ, ◌+◌, ◌<◌, ◌≤◌, List, map, length, get_or, take, ℤ, pos}
use Rattle.std.proofs.Common.{sym, ◌∙◌, subst, inl, inr, ⊎_elim, arith, take_all}
use Rattle.std.proofs.Math.Decide.{dec_lt}
use Rattle.std.proofs.lemmas.List.{length-map}
use Rattle.clock_network.specs.declared.stations.Node.{Node}
use Rattle.clock_network.specs.Steps.{At, Repeats, Stray}
use Rattle.clock_network.specs.laws.First.{First}
use Rattle.clock_network.specs.laws.Earliest.{SoFar}

-- ---- the first place of a property

-- there is none
pub none_below : {P : ℕ → Type 0} {n r : ℕ} → First P n r → n ≤ r → First P n n
none_below {P} {n} {r} p l = let h : r ≤ n = p.within in let e : r ≡ n = omega arith in subst (λ (k : ℕ). First P n k) e p

-- ---- the smallest so far

pub far_start : (ts : List ℕ) (never : ℕ) → SoFar ts never 0 never (length ts)
far_start ts never = record { within = omega arith; bound = omega arith; least = λ k l. absurd (omega arith); stands = inl (refl, refl) }

module _ (ts : List ℕ) (never i low best : ℕ) (f : SoFar ts never i low best) (b : i < length ts) where
  least_more : (m : ℕ) → m ≤ low → m ≤ get_or ts i 0 → (k : ℕ) → k < i + 1 → m ≤ get_or ts k 0
  least_more m a c k l = elim (dec_lt k i) [
    | yes h ↦ let g : low ≤ get_or ts k 0 = f.least k h in omega arith
    | no h ↦ let e : i ≡ k = omega (arith, h) in subst (λ (x : ℕ). m ≤ get_or ts x 0) e c
  ]

  pub far-smaller : get_or ts i 0 < low → SoFar ts never (i + 1) (get_or ts i 0) i
  far-smaller h = let g : low ≤ never = f.bound in record {
    within = omega arith;
    bound = omega arith;
    least = least_more (get_or ts i 0) (omega arith) (omega arith);
    stands = inr (omega arith, (omega arith, (refl, λ k l. omega (arith, f.least k l))));
  }

  pub far-other : low ≤ get_or ts i 0 → SoFar ts never (i + 1) low best
  far-other h = record {
    within = omega arith;
    bound = f.bound;
    least = least_more low (omega arith) h;
    stands = ⊎_elim (λ w. inl w) (λ w. let g : best < i = w.1.0 in inr (w.0, (omega arith, w.1.1))) f.stands;
  }

-- ---- a number that repeats, and one that names no station

module _ (ns : List ℤ) (i j : ℕ) (p : First (At ns (get_or ns i (pos 0))) (length ns) j) where
  pub repeats-yes : j < i → i < length ns → Repeats ns i
  repeats-yes l b = (j, (l, p.found (omega arith)))

  pub repeats-no : i ≤ j → Repeats ns i → ⊥
  repeats-no l r = let h : r.0 < i = r.1.0 in p.before r.0 (omega arith) r.1.1

module _ (ns cs : List ℤ) (i j : ℕ) (p : First (At ns (get_or cs i (pos 0))) (length ns) j) (z : get_or cs i (pos 0) ≡ pos 0 → ⊥) where
  pub stray-yes : j ≡ length ns → Stray ns cs i
  stray-yes e = (z, λ k l. p.before k (omega arith))

  in_list : (j ≡ length ns → ⊥) → j < length ns
  in_list n = let h : j ≤ length ns = p.within in omega (arith, n)

  pub stray-no : (j ≡ length ns → ⊥) → Stray ns cs i → ⊥
  stray-no n s = s.1 j (in_list n) (p.found (in_list n))

-- ---- a copy

module _ {A : Type 0} (f : Node → A) (l : List Node) (a : List A) where
  pub copy_done : length a ≡ 64 → length l ≡ 64 → take 64 a ≡ take 64 (map f l) → a ≡ map f l
  copy_done b c h = sym (take_all 64 a (omega arith)) ∙ (h ∙ take_all 64 (map f l) (rw length-map (omega arith)))

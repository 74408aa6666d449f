-- Laws of the list's clocks: the steps are one number (`steps-one`), a search that finds nothing more has determined
-- every station whose chain reaches the antenna (`quiet-lost`), and what one pass of the search preserves.
use Rattle.std.specs.Prelude.{◌≡◌, refl, ℕ, zero, suc, ◌+◌, ◌<◌, ◌≤◌, List, [], ◌∷◌, length, get_or, set, replicate, ℤ, pos}
use Rattle.std.proofs.Common.{sym, ap, ◌∙◌, subst, add-one, arith, get_or-set_same, get_or-set_other, ext_get_or, SFits, to_z, of_z}
use Rattle.std.proofs.Math.Decide.{dec_lt, ℕ_discrete}
use Rattle.std.specs.Int.{w64}
use Rattle.clock_network.specs.laws.Bits.{read_back}
use Rattle.clock_network.specs.laws.First.{First, first-same}
use Rattle.clock_network.specs.Steps.{At, Repeats, Distinct, Steps, antenna, follows, Lost, StepsAre, Zero}
use Rattle.clock_network.specs.laws.Search.{Sound, zeros, Small, Untold, NextIs}

-- ---- numbers that are used once
pub distinct_one : (ns : List ℤ) (j k : ℕ) → Distinct ns → j < length ns → k < length ns → get_or ns j (pos 0) ≡ get_or ns k (pos 0) → j ≡ k
distinct_one ns j k d lj lk e =
    elim (dec_lt j k) [
      | yes l ↦ absurd (d k lk (j, (l, e)))
      | no a ↦ elim (dec_lt k j) [
        | yes l ↦ absurd (d j lj (k, (l, sym e)))
        | no b ↦ omega (arith, a, b)
      ]
    ]

pub steps_place : {ns cs : List ℤ} {i n : ℕ} → Steps ns cs i n → i < length ns
steps_place (antenna l e) = l
steps_place (follows l e lj ej s) = l

-- each station has at most one number of steps
pub steps-one : {ns cs : List ℤ} {i m n : ℕ} → Distinct ns → Steps ns cs i m → Steps ns cs i n → m ≡ n
steps-one d (antenna l e) (antenna l' e') = refl
steps-one d (antenna l e) (follows l' z lj ej s) = absurd (z e)
steps-one d (follows l z lj ej s) (antenna l' e') = absurd (z e')
steps-one {ns} {cs} d (follows {j = j} l z lj ej s) (follows {j = k} {n = n} l' z' lk ek t) =
    ap suc (steps-one d s (subst (λ (p : ℕ). Steps ns cs p n) (distinct_one ns k j d lk lj (ek ∙ sym ej)) t))

-- ---- a search that determines nothing more
module _ (ns cs : List ℤ) (st : List ℕ) (quiet : (i : ℕ) → i < length ns → get_or st i 0 ≡ 0 → Untold ns cs st i) where
  told : {i n : ℕ} → Steps ns cs i n → get_or st i 0 ≡ 0 → ⊥
  told {i} (antenna l e) h = (quiet i l h).0 e
  told {i} (follows {j = j} l z lj ej s) h = told s ((quiet i l h).1 j lj ej)

  pub quiet-lost : (i : ℕ) → get_or st i 0 ≡ 0 → Lost ns cs i
  quiet-lost i h n s = told s h

-- ---- one turn of the search
pub zeros-set : (l : List ℕ) (i s : ℕ) → i < length l → get_or l i 0 ≡ 0 → (s ≡ 0 → ⊥) → zeros (set l i s) + 1 ≡ zeros l
unfolding zeros
zeros-set [] i s b z n = absurd (omega arith)
zeros-set (zero ∷ l) zero zero b z n = absurd (n refl)
zeros-set (zero ∷ l) zero (suc s) b z n = add-one (zeros l)
zeros-set (suc x ∷ l) zero s b z n = absurd (omega arith)
zeros-set (zero ∷ l) (suc i) s b z n = let h : zeros (set l i s) + 1 ≡ zeros l = zeros-set l i s (omega arith) z n in omega arith
zeros-set (suc x ∷ l) (suc i) s b z n = zeros-set l i s (omega arith) z n

-- a property of each number of a list, with its place, after a store
pub at_set : (P : ℕ → ℕ → Type 0) (l : List ℕ) (i s : ℕ) → i < length l → P i s → ((k : ℕ) → P k (get_or l k 0)) → (k : ℕ) → P k (get_or (set l i s) k 0)
at_set P l i s b p f k =
    elim (ℕ_discrete k i) [
      | yes e ↦ subst (λ (x : ℕ). P x (get_or (set l i s) x 0)) (sym e) (rw (get_or-set_same l i s 0 b) p)
      | no n ↦ rw (get_or-set_other l i k s 0 n) (f k)
    ]

pub sound_set : (ns cs : List ℤ) (st : List ℕ) (i s : ℕ) → i < length st → Steps ns cs i s → Sound ns cs st → Sound ns cs (set st i s)
sound_set ns cs st i s b t f = at_set (λ k x. (x ≡ 0 → ⊥) → Steps ns cs k x) st i s b (λ _. t) f

pub small_set : (st : List ℕ) (i s : ℕ) → i < length st → get_or st i 0 ≡ 0 → (s ≡ 0 → ⊥) → s + zeros st ≤ 65 → Small st → Small (set st i s)
small_set st i s b z n h f =
    let e : zeros (set st i s) + 1 ≡ zeros st = zeros-set st i s b z n in
    at_set (λ k x. x + zeros (set st i s) ≤ 64) st i s b (omega arith) (λ k. let g : get_or st k 0 + zeros st ≤ 64 = f k in omega arith)

-- ---- at the start
pub all_zero : (n i : ℕ) → ◌≡◌ {A = ℕ} (get_or (replicate n 0) i 0) 0
all_zero zero i = refl
all_zero (suc n) zero = refl
all_zero (suc n) (suc i) = all_zero n i

pub sound_start : (ns cs : List ℤ) → Sound ns cs (replicate 64 0)
sound_start ns cs i h = absurd (h (all_zero 64 i))

pub small_start : Small (replicate 64 0)
unfolding zeros
small_start k = rw (all_zero 64 k) (omega arith)

-- ---- what `place` says, where x was read from a list: its bits are read back
pub placed : (l : List ℤ) (n r : ℕ) (x : ℤ) → SFits w64 x → First (At l (to_z w64 (of_z w64 x))) n r → First (At l x) n r
placed l n r x f p = subst (λ (z : ℤ). First (At l z) n r) (read_back f) p

module _ (ns cs : List ℤ) (i j : ℕ) (p : First (At ns (get_or cs i (pos 0))) (length ns) j) (z : get_or cs i (pos 0) ≡ pos 0 → ⊥) where
  in_list : (j ≡ length ns → ⊥) → j < length ns
  in_list n = let h : j ≤ length ns = p.within in omega (arith, n)

  module _ (st : List ℕ) (small : Small st) where
    zeros-64 : zeros st ≤ 64
    zeros-64 = let h : get_or st 0 0 + zeros st ≤ 64 = small 0 in omega arith

    pub next-nowhere : j ≡ length ns → NextIs ns cs st i 0
    next-nowhere e = record {
      told = λ n. absurd (n refl);
      untold = λ _. (z, λ k l a. absurd (p.before k (omega arith) a));
      small = let h : zeros st ≤ 64 = zeros-64 in omega arith;
    }

    pub next-unknown : Distinct ns → (j ≡ length ns → ⊥) → get_or st j 0 ≡ 0 → NextIs ns cs st i 0
    next-unknown d n e = record {
      told = λ n. absurd (n refl);
      untold = λ _. (z, λ k l a. subst (λ (q : ℕ). get_or st q 0 ≡ 0) (distinct_one ns j k d (in_list n) l (p.found (in_list n) ∙ sym a)) e);
      small = let h : zeros st ≤ 64 = zeros-64 in omega arith;
    }

    pub next_known : i < length ns → (j ≡ length ns → ⊥) → (get_or st j 0 ≡ 0 → ⊥) → NextIs ns cs st i (get_or st j 0 + 1)
    next_known b n e = record {
      told = λ _ f. rw (add-one (get_or st j 0)) (follows b z (in_list n) (p.found (in_list n)) (f j e));
      untold = λ a. absurd (omega arith);
      small = let h : get_or st j 0 + zeros st ≤ 64 = small j in omega arith;
    }

pub next_antenna : (ns cs : List ℤ) (st : List ℕ) (i : ℕ) → Small st → i < length ns → get_or cs i (pos 0) ≡ pos 0 → NextIs ns cs st i 1
next_antenna ns cs st i small b e = record {
  told = λ _ f. antenna b e;
  untold = λ a. absurd (omega arith);
  small = let h : get_or st 0 0 + zeros st ≤ 64 = small 0 in omega arith;
}

-- ---- for a caller: no number is repeated; and the places without steps are the lost ones
pub distinct_from : (ns : List ℤ) → First (Repeats ns) (length ns) (length ns) → Distinct ns
distinct_from ns p = p.before

pub lost_zero : (ns cs : List ℤ) (st : List ℕ) → StepsAre ns cs st → (i : ℕ) → Lost ns cs i → Zero st i
lost_zero ns cs st a i l = elim (ℕ_discrete (get_or st i 0) 0) [ yes e ↦ e | no n ↦ absurd (l _ (a.sound i n)) ]

pub zero_is-lost : (ns cs : List ℤ) (st : List ℕ) (n r : ℕ) → StepsAre ns cs st → First (Zero st) n r → First (Lost ns cs) n r
zero_is-lost ns cs st n r a p = first-same (Lost ns cs) (λ k _. a.lost k) (λ k _. lost_zero ns cs st a k) p

-- the steps are one list, of numbers that are used once
pub steps_are_one : (ns cs : List ℤ) (st tt' : List ℕ) → Distinct ns → StepsAre ns cs st → StepsAre ns cs tt' → st ≡ tt'
steps_are_one ns cs st tt' d a b = ext_get_or 0 st tt' (a.size ∙ sym b.size) (λ i _. same i)
  where
    same : (i : ℕ) → get_or st i 0 ≡ get_or tt' i 0
    same i =
        elim (ℕ_discrete (get_or st i 0) 0) [
          | yes e ↦ e ∙ sym (lost_zero ns cs tt' b i (a.lost i e))
          | no n ↦ elim (ℕ_discrete (get_or tt' i 0) 0) [
            | yes e ↦ absurd (n (lost_zero ns cs st a i (b.lost i e)))
            | no m ↦ steps-one d (a.sound i n) (b.sound i m)
          ]
        ]

-- The rule's own words of a list that 14, 15 and 16 accept, and of 16. Theorems, with their statements first.
--     accepted   "1 if it follows 0, else one more than the station it follows": each station has exactly one number of steps, 1 to 64, and it is
--                the one that comes back; "0 past the list"
--     sixteen    16 names exactly the first station whose chain never reaches 0
use Rattle.std.specs.Prelude.{◌≡◌, ℕ, suc, ◌<◌, ◌≤◌, List, length, get_or, ℤ, pos}
use Rattle.std.proofs.Common.{sym, subst, arith}
use Rattle.std.proofs.Math.Decide.{ℕ_discrete}
use Rattle.clock_network.specs.laws.First.{First}
use Rattle.clock_network.specs.Steps.{Steps, antenna, follows, Lost, StepsAre}
use Rattle.clock_network.specs.Defined.{firstRepeat, first_lost, steps_of}
use Rattle.clock_network.specs.laws.Laws.{steps-one, steps_place}
use Rattle.clock_network.specs.laws.DefinedLaws.{distinct, first-lost, steps-of-are, steps-bound}

pub record Accepted (ns cs : List ℤ) (st : List ℕ) : Type 0 where
  pub size : length st ≡ 64
  pub has : (i : ℕ) → i < length ns → Steps ns cs i (get_or st i 0)
  pub only : (i n : ℕ) → i < length ns → Steps ns cs i n → n ≡ get_or st i 0
  pub range : (i : ℕ) → i < length ns → (1 ≤ get_or st i 0) × (get_or st i 0 ≤ 64)
  pub follows_0 : (i : ℕ) → i < length ns → get_or cs i (pos 0) ≡ pos 0 → get_or st i 0 ≡ 1
  pub one_more : (i j : ℕ) → i < length ns → j < length ns → (get_or cs i (pos 0) ≡ pos 0 → ⊥) → get_or ns j (pos 0) ≡ get_or cs i (pos 0) → get_or st i 0 ≡ suc (get_or st j 0)
  pub past_list : (i : ℕ) → length ns ≤ i → get_or st i 0 ≡ 0

some : {ns cs : List ℤ} {i n : ℕ} → Steps ns cs i n → 1 ≤ n
some (antenna l e) = omega arith
some (follows l z lj ej s) = omega arith

module _ (ns cs : List ℤ) (once : firstRepeat ns ≡ length ns) where
  pub sixteen : First (Lost ns cs) (length ns) (first_lost ns cs)
  sixteen = first-lost ns cs once

  module _ (room : length ns ≤ 64) (reach : first_lost ns cs ≡ length ns) where
    abbrev st : List ℕ
    st = steps_of ns cs

    are : StepsAre ns cs st
    are = steps-of-are ns cs (distinct ns once) room

    has-steps : (i : ℕ) → i < length ns → Steps ns cs i (get_or st i 0)
    has-steps i l = are.sound i (λ e. (subst (First (Lost ns cs) (length ns)) reach sixteen).before i l (are.lost i e))

    only-steps : (i n : ℕ) → i < length ns → Steps ns cs i n → n ≡ get_or st i 0
    only-steps i n l s = steps-one (distinct ns once) s (has-steps i l)

    pub accepted : Accepted ns cs st
    accepted =
        record {
          size = are.size;
          has = has-steps;
          only = only-steps;
          range = λ i l. (some (has-steps i l), omega (arith, steps-bound ns cs (distinct ns once) (has-steps i l)));
          follows_0 = λ i l e. sym (only-steps i 1 l (antenna l e));
          one_more = λ i j l lj z e. sym (only-steps i (suc (get_or st j 0)) l (follows l z lj e (has-steps j lj)));
          past_list = past;
        }
      where
        past : (i : ℕ) → length ns ≤ i → get_or st i 0 ≡ 0
        past i h = elim (ℕ_discrete (get_or st i 0) 0) [ yes e ↦ e | no n ↦ let l : i < length ns = steps_place (are.sound i n) in absurd (omega arith) ]

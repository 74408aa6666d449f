-- The eclipse's numbers taken out of a request's: those before the station's five, and those after them.
use Rattle.std.specs.Prelude.{◌≡◌, List, [], ◌++◌, ℤ, length, take, drop, ℕ, suc, ◌+◌, ◌-◌, ◌≤◌, ◌<◌, Bool, cond, ◌∷◌, pos, set}
use Rattle.std.proofs.Common.{ap, ap₂, ◌∙◌, arith, drop-drop, drop_of_length-le, length-append, take_at, length-set, take-suc, take-suc-set, take_all, length-take-le}
use mathlib.Core.List.{append-nil}
use Rattle.network_text.specs.Typing.{eclipse_in}
use Rattle.std.proofs.Math.Path.{refl, sym}
use Rattle.std.proofs.Math.Bool.{true, false}
use borrow.Author.Tests.{lt-ltb, le-ltb, ltb-true, ltb-false}
use Rattle.std.proofs.Math.Dec.{ltb}
use Rattle.std.proofs.Math.ListN.{get_or, length-drop, get_or-append}
use Rattle.std.proofs.Math.Seq.{get_or-take, get_or-drop, get_or-append-add}

-- both parts stored over 25 numbers
pub eclipse-parts : (ns front back zeros : List ℤ) → length front ≡ 22 → length zeros ≡ 3 → front ≡ take 22 ns → back ≡ drop 27 ns
    → take 22 (front ++ zeros) ++ (back ++ drop 3 (drop 22 (front ++ zeros))) ≡ eclipse_in ns
unfolding eclipse_in
eclipse-parts ns front back zeros a b p q =
    let none : drop 3 (drop 22 (front ++ zeros)) ≡ [] =
    drop-drop 3 22 (front ++ zeros) ∙ drop_of_length-le (front ++ zeros) {i = 25} (omega (arith, length-append front zeros, a, b)) in
    ap₂ ◌++◌ (take_at front zeros 22 a ∙ p) (ap (λ (l : List ℤ). back ++ l) none ∙ append-nil back ∙ q)

-- ---- one number after the other

-- where the k-th of them stands in the request
abbrev pub place_of : ℕ → ℕ
place_of k = cond (ltb k 22) k (k + 5)

pub place_low : (k : ℕ) → k < 22 → k ≡ place_of k
place_low k h = rw (lt-ltb k 22 h)

pub place_high : (k : ℕ) → 22 ≤ k → k + 5 ≡ place_of k
place_high k h = rw (le-ltb k 22 h)

-- the first k numbers are stored
pub record Copied (ns out : List ℤ) (k : ℕ) : Type 0 where
  pub stored : take k out ≡ take k (eclipse_in ns)
  pub room : length out ≡ 25
  pub few : k ≤ 25

module _ (ns : List ℤ) (all : length ns ≡ 30) where
  first : length (take 22 ns) ≡ 22
  first = length-take-le 22 ns (omega (arith, all))

  eclipse-length : length (eclipse_in ns) ≡ 25
  unfolding eclipse_in
  eclipse-length = length-append (take 22 ns) (drop 27 ns) ∙ omega (arith, first, length-drop 27 ns, all)

  eclipse-at : (k : ℕ) → k < 25 → get_or ns (place_of k) (pos 0) ≡ get_or (eclipse_in ns) k (pos 0)
  unfolding eclipse_in
  eclipse-at k h = by (ltb k 22) refl
    where
      by : (b : Bool) → ltb k 22 ≡ b → get_or ns (place_of k) (pos 0) ≡ get_or (take 22 ns ++ drop 27 ns) k (pos 0)
      by true e =
          let l = ltb-true k 22 e in
          ap (λ (i : ℕ). get_or ns i (pos 0)) (sym (place_low k l))
          ∙ sym (get_or-append (take 22 ns) (drop 27 ns) (pos 0) k (omega (arith, first)) ∙ get_or-take 22 ns k (pos 0) l)
      by false e =
          let l = ltb-false k 22 e in
          let i : k + 5 ≡ 27 + (k - 22) = omega arith in
          let j : k ≡ length (take 22 ns) + (k - 22) = omega (arith, first) in
          ap (λ (i : ℕ). get_or ns i (pos 0)) (sym (place_high k l) ∙ i)
          ∙ sym (ap (λ (i : ℕ). get_or (take 22 ns ++ drop 27 ns) i (pos 0)) j ∙ get_or-append-add (take 22 ns) (drop 27 ns) (k - 22) (pos 0)
          ∙ get_or-drop 27 ns (k - 22) (pos 0))

  pub copied-start : (out : List ℤ) → length out ≡ 25 → Copied ns out 0
  copied-start out h = record { stored = refl; room = h; few = omega arith }

  pub copied-turn : (out : List ℤ) (k place : ℕ) → Copied ns out k → k < 25 → place ≡ place_of k → Copied ns (set out k (get_or ns place (pos 0))) (k + 1)
  copied-turn out k place c h e =
      let one : k + 1 ≡ suc k = omega arith in
      let z = get_or ns place (pos 0) in
      record {
        stored =
            ap (λ (i : ℕ). take i (set out k z)) one ∙ take-suc-set out k z (omega (arith, c.room))
            ∙ ap (λ (l : List ℤ). l ++ z ∷ []) c.stored
            ∙ ap (λ (x : ℤ). take k (eclipse_in ns) ++ x ∷ []) (ap (λ (i : ℕ). get_or ns i (pos 0)) e ∙ eclipse-at k h)
            ∙ sym (ap (λ (i : ℕ). take i (eclipse_in ns)) one ∙ take-suc (eclipse_in ns) k (pos 0) (omega (arith, eclipse-length)));
        room = length-set out k z ∙ c.room;
        few = omega arith;
      }

  pub copied_all : (out : List ℤ) (k : ℕ) → Copied ns out k → 25 ≤ k → out ≡ eclipse_in ns
  copied_all out k c h =
      sym (take_all k out (omega (arith, c.room))) ∙ c.stored ∙ take_all k (eclipse_in ns) (omega (arith, eclipse-length))

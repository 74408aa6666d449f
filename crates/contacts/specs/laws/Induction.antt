-- The one induction by which every law goes along the walk: what holds at the window's end, and at a second where it
-- holds after that second, holds of the entries. On the way it is known which sure second was the last, and that all
-- since are unsure.
use Rattle.std.specs.Prelude.{ℕ, suc, ◌+◌, ◌<◌, ◌≡◌, List, [], ◌∷◌, ◌++◌, length, get_or}
use Rattle.std.proofs.Common.{sym, ap, ◌∙◌, arith, add-zero, zero-add}
use Rattle.std.proofs.Math.Decide.{ℕ_discrete}
use Rattle.contacts.specs.declared.entries.Entry.{Entry}
use Rattle.contacts.specs.Entries.{State, sure, unsure, Last, none, last, state, state_at, at_second, passed, at_end, walk, entries}
use Rattle.contacts.specs.CalledFor.{OnlyUnsure}

-- the last sure second before i is l
abbrev pub Known : List ℕ → Last → ℕ → Type 0
Known s none i = OnlyUnsure s 0 i
Known s (last a f) i = (f < i) × (state_at s f ≡ sure a) × OnlyUnsure s (f + 1) i

-- the list is the window from second i on
abbrev Reads : List ℕ → ℕ → List ℕ → Type 0
Reads s i [] = i ≡ length s
Reads s i (y ∷ u) = (state y ≡ state_at s i) × (i < length s) × Reads s (i + 1) u

reads : (s : List ℕ) (i : ℕ) (u : List ℕ) → i + length u ≡ length s → ((k : ℕ) → k < length u → get_or u k 0 ≡ get_or s (i + k) 0) → Reads s i u
reads s i [] z h = omega arith
reads s i (y ∷ u) z h = (
  ap state (h 0 (omega arith) ∙ ap (λ n. get_or s n 0) (add-zero i)),
  omega arith,
  reads s (i + 1) u (omega arith) (λ k l. h (suc k) (omega arith) ∙ ap (λ n. get_or s n 0) (omega arith)),
)

module _ (s : List ℕ) where
  one_more : (f i : ℕ) → OnlyUnsure s f i → state_at s i ≡ unsure → OnlyUnsure s f (i + 1)
  one_more f i g u k l h = elim (ℕ_discrete k i) [ yes e ↦ rw e u | no n ↦ g k l (omega arith) ]

  known-passed : (l : Last) (m : State) (i : ℕ) → m ≡ state_at s i → Known s l i → Known s (passed l m i) (i + 1)
  known-passed none unsure i e g = one_more 0 i g (sym e)
  known-passed (last a f) unsure i e g = (omega (arith, g.0), g.1, one_more (f + 1) i g.2 (sym e))
  known-passed l (sure b) i e g = (omega arith, sym e, λ k p q. absurd (omega arith))

  module _ (P : Last → ℕ → List Entry → Type 0)
      (end : (l : Last) (i : ℕ) → i ≡ length s → Known s l i → P l i (at_end l i))
      (second : (l : Last) (m : State) (i : ℕ) (es : List Entry) → i < length s → m ≡ state_at s i → Known s l i
      → P (passed l m i) (i + 1) es → P l i (at_second l m i ++ es))
    where
      along : (l : Last) (i : ℕ) (u : List ℕ) → Reads s i u → Known s l i → P l i (walk l i u)
      along l i [] r g = end l i r g
      along l i (y ∷ u) r g =
          second l (state y) i (walk (passed l (state y) i) (i + 1) u) r.1 r.0 g
          (along (passed l (state y) i) (i + 1) u r.2 (known-passed l (state y) i r.0 g))

      pub along-walk : P none 0 (entries s)
      along-walk = along none 0 s (reads s 0 s (omega arith) (λ k l. rw zero-add)) (λ k p q. absurd (omega arith))

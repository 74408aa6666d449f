-- Demand 3 of the sheet of a sound course of which every second is said rightly. Why: the entries of a phase in the
-- sheet are those of contacts, counted from the stored first second (`entries-in-sheet`); what contacts proves of any
-- states that agree with exact answers then holds of them.
use Rattle.std.specs.Prelude.{◌≡◌, Bool, cond, ◌⊎◌, ℕ, ◌+◌, ◌-◌, ◌<◌, ℤ, pos, neg_ℤ, length, get_or, ◌≤ℤ◌}
use Rattle.std.proofs.Math.Path.{refl, ap, ap₂}
use Rattle.std.proofs.Common.{sym, subst, ◌∙◌, arith}
use Rattle.std.proofs.Math.Bool.{true, false}
use mathlib.Core.List.{List, [], ◌∷◌, ◌++◌, map, append-nil, append_assoc}
use Rattle.rounding.specs.Parts.{pos_p, neg_p, sum, opposite}
use Rattle.rounding.specs.laws.Order.{≤-parts}
use Rattle.sheet_types.specs.declared.phases.Phase.{Phase}
use Rattle.sheet_types.specs.Phases.{same, one_if, Listed, times}
use Rattle.sheet_types.specs.States.{SaidRightly, code}
use Rattle.sheet_types.specs.laws.PhaseLaws.{same-is, code_inside, code_outside}
use Rattle.requests.specs.Windows.{InWindow}
use Rattle.requests.specs.WindowLaws.{second-in, next-second, not_last}
use Rattle.contacts.specs.declared.entries.Entry as Contact
use Rattle.contacts.specs.declared.entries.Entry.TheVariants as C
use Rattle.contacts.specs.Entries.{entries, All}
use Rattle.contacts.specs.Exact.{Agrees, Change, how_many, ExactEnds, neither, Alternate}
use Rattle.contacts.specs.laws.ExactLaws.{agrees_by_bytes}
use Rattle.contacts.proofs.laws.Changes.{each_change_in_one}
use Rattle.contacts.proofs.laws.Ends.{each-end-exact}
use Rattle.contacts.proofs.laws.Alternate.{alternate}
use Rattle.contacts.specs.laws.Shifted.{shifted}
use Rattle.contacts.proofs.laws.Shifted.{how-many-shifted, alternate-shifted, ends-shifted}
use Rattle.sheet_format.specs.declared.kinds.Entry.{Entry}
use Rattle.sheet_format.specs.Entries.{end}
use Rattle.sheet_format.specs.StoredSeconds.{second_of}
use Rattle.sheet_format.specs.laws.StoredSecondLaws.{stored_is}
use Rattle.local_circumstances.specs.Courses.{Course, second, states_of, entry_of, phaseEntries, entriesOf, headEntry, closestEntry, shareEntry, closingEntries, sheetOf}
use Rattle.local_circumstances.specs.Demand3.{ExactAnswers, in_kind, entries_in, EachSecond, InsideAt}
use Rattle.local_circumstances.specs.Sound.{Sound}
use Rattle.local_circumstances.specs.laws.CourseLaws.{states_length, states-at, first, stored_at, second_at}

-- ---- the entries of a phase in a sheet
in-append : (φ : Phase) (xs ys : List Entry) → entries_in φ (xs ++ ys) ≡ entries_in φ xs ++ entries_in φ ys
in-append φ [] ys = refl
in-append φ (x ∷ xs) ys = ap (λ (r : List Contact.Entry). in_kind φ x.kind x.a x.b ++ r) (in-append φ xs ys) ∙ sym (append_assoc (in_kind φ x.kind x.a x.b) (entries_in φ xs) (entries_in φ ys))

module _ (c : Course) (s : Sound c) (φ : Phase) where
  -- an entry of the phase itself, and of another
  in-own : (ψ : Phase) → same φ ψ ≡ true → (e : Contact.Entry) → in_kind φ (entry_of c ψ e).kind (entry_of c ψ e).a (entry_of c ψ e).b ≡ shifted (first c s) e ∷ []
  in-own ψ o (C.Enter f t) = rw (o, stored_at c s f, stored_at c s t)
  in-own ψ o (C.Leave f t) = rw (o, stored_at c s f, stored_at c s t)
  in-own ψ o (C.Graze f t) = rw (o, stored_at c s f, stored_at c s t)
  in-own ψ o (C.Open f t) = rw (o, stored_at c s f, stored_at c s t)

  in-other : (ψ : Phase) → same φ ψ ≡ false → (e : Contact.Entry) → in_kind φ (entry_of c ψ e).kind (entry_of c ψ e).a (entry_of c ψ e).b ≡ []
  in-other ψ o (C.Enter f t) = rw o
  in-other ψ o (C.Leave f t) = rw o
  in-other ψ o (C.Graze f t) = rw o
  in-other ψ o (C.Open f t) = rw o

  all_own : (ψ : Phase) → same φ ψ ≡ true → (es : List Contact.Entry) → entries_in φ (map (entry_of c ψ) es) ≡ map (shifted (first c s)) es
  all_own ψ o [] = refl
  all_own ψ o (e ∷ es) = ap₂ ◌++◌ (in-own ψ o e) (all_own ψ o es)

  all-other : (ψ : Phase) → same φ ψ ≡ false → (es : List Contact.Entry) → entries_in φ (map (entry_of c ψ) es) ≡ []
  all-other ψ o [] = refl
  all-other ψ o (e ∷ es) = ap₂ ◌++◌ (in-other ψ o e) (all-other ψ o es)

  -- of phases that have it not, and that have it once
  none_in : (φs : List Phase) → times φ φs ≡ 0 → entries_in φ (entriesOf c φs) ≡ []
  unfolding phaseEntries
  none_in [] e = refl
  none_in (ψ ∷ φs) e = go (same φ ψ) refl e (none_in φs)
    where
      go : (b : Bool) → same φ ψ ≡ b → one_if b + times φ φs ≡ 0 → (times φ φs ≡ 0 → entries_in φ (entriesOf c φs) ≡ [])
          → entries_in φ (phaseEntries c ψ ++ entriesOf c φs) ≡ []
      go true o e rest = absurd (omega arith)
      go false o e rest = in-append φ (phaseEntries c ψ) (entriesOf c φs) ∙ ap₂ ◌++◌ (all-other ψ o (entries (states_of c ψ))) (rest (omega arith))

  abbrev own : Phase → List Contact.Entry
  own ψ = map (shifted (first c s)) (entries (states_of c ψ))

  one_in : (φs : List Phase) → times φ φs ≡ 1 → entries_in φ (entriesOf c φs) ≡ own φ
  unfolding phaseEntries
  one_in [] e = absurd (omega arith)
  one_in (ψ ∷ φs) e = go (same φ ψ) refl e (one_in φs)
    where
      go : (b : Bool) → same φ ψ ≡ b → one_if b + times φ φs ≡ 1 → (times φ φs ≡ 1 → entries_in φ (entriesOf c φs) ≡ own φ)
          → entries_in φ (phaseEntries c ψ ++ entriesOf c φs) ≡ own φ
      go true o e rest =
          in-append φ (phaseEntries c ψ) (entriesOf c φs)
          ∙ ap₂ ◌++◌ (all_own ψ o (entries (states_of c ψ))) (none_in φs (omega arith))
          ∙ append-nil (own ψ)
          ∙ ap own (sym (same-is φ ψ o))
      go false o e rest = in-append φ (phaseEntries c ψ) (entriesOf c φs) ∙ ap₂ ◌++◌ (all-other ψ o (entries (states_of c ψ))) (rest (omega arith))

  -- what closes a sheet is of no phase
  none-closing : entries_in φ (closingEntries c) ≡ []
  unfolding closingEntries closestEntry shareEntry
  none-closing = go c.sharing
    where
      go : (b : Bool) → entries_in φ (cond b (shareEntry c ∷ end ∷ []) (end ∷ [])) ≡ []
      go true = refl
      go false = refl

  pub entries-in-sheet : Listed φ c.phases → entries_in φ (sheetOf c) ≡ map (shifted (first c s)) (entries (states_of c φ))
  unfolding sheetOf headEntry
  entries-in-sheet l =
      in-append φ (entriesOf c c.phases) (closingEntries c)
      ∙ ap (λ (es : List Contact.Entry). entries_in φ (entriesOf c c.phases) ++ es) none-closing
      ∙ append-nil (entries_in φ (entriesOf c c.phases))
      ∙ one_in c.phases (s.once φ l)

-- ---- the claims
module _ (c : Course) (s : Sound c) (x : ExactAnswers) (said : EachSecond c x) (φ : Phase) (l : Listed φ c.phases) where
  -- exactly inside at second k of the window
  abbrev In : ℕ → Type 0
  In k = x.Inside φ (second c k)

  there : (k : ℕ) → In k → InsideAt c x φ (first c s + k)
  there k i = subst (x.Inside φ) (sym (second_at c s k)) i

  back : (k : ℕ) → InsideAt c x φ (first c s + k) → In k
  back k i = subst (x.Inside φ) (second_at c s k) i

  said_at : (k : ℕ) → k < length (states_of c φ) → SaidRightly (c.state φ (second c k)) (In k) (x.WithinUnits (c.guard + 13) φ (second c k))
  said_at k h = said φ l (second c k) (second-in c.window s.window k (omega (arith, states_length c φ)))

  byte-at : (k : ℕ) → k < length (states_of c φ) → get_or (states_of c φ) k 0 ≡ code (c.state φ (second c k))
  byte-at k h = states-at c φ k (omega (arith, states_length c φ))

  agrees : Agrees In (states_of c φ)
  agrees =
      agrees_by_bytes In (states_of c φ)
      (λ k h e. (said_at k h).inside_is (code_inside (c.state φ (second c k)) (sym (byte-at k h) ∙ e)))
      (λ k h e. (said_at k h).outside-is (code_outside (c.state φ (second c k)) (sym (byte-at k h) ∙ e)))

  -- the second stored as n is second n - first of the window
  numbered : (n : ℕ) → InWindow c.window (second_of n) → n ≡ first c s + (n - first c s)
  numbered n w =
      let f = stored_is c.window.first s.window.low in
      omega (
        arith,
        ≤-parts w.0,
        (sum (pos n) (neg_ℤ (pos 10800))).is,
        (opposite (pos 10800)).is,
        ap pos_p f,
        ap neg_p f,
        (sum c.window.first (pos 10800)).is,
      )

  pub changes-once : (n : ℕ) → InWindow c.window (second_of n) → InWindow c.window (second_of (n + 1)) → Change (InsideAt c x φ) n
      → how_many n (entries_in φ (sheetOf c)) ≡ 1
  changes-once n w v change =
      let k = n - first c s in
      let e : n ≡ first c s + k = numbered n w in
      ap₂ how_many e (entries-in-sheet c s φ l)
      ∙ how-many-shifted (first c s) k (entries (states_of c φ))
      ∙ each_change_in_one In (states_of c φ) agrees k (before k (rw e at v)) (here k (rw e at change))
    where
      next : (k : ℕ) → second_of (first c s + k + 1) ≡ second c (k + 1)
      next k = ap second_of (more (first c s) k) ∙ second_at c s (k + 1)
        where
          more : (a k : ℕ) → a + k + 1 ≡ a + (k + 1)
          more a k = omega arith

      before : (k : ℕ) → InWindow c.window (second_of (first c s + k + 1)) → k + 1 < length (states_of c φ)
      before k v =
          omega (
            arith,
            states_length c φ,
            not_last c.window s.window k (subst (λ (z : ℤ). z ≤ℤ c.window.last) (next k ∙ sym (next-second c.window s.window k)) v.1),
          )

      here : (k : ℕ) → Change (InsideAt c x φ) (first c s + k) → Change In k
      here k h = subst (λ (z : ℤ). (In k × (x.Inside φ z → ⊥)) ⊎ ((In k → ⊥) × x.Inside φ z)) (next k)
          (subst (λ (y : ℤ). (x.Inside φ y × InsideNot k) ⊎ ((x.Inside φ y → ⊥) × InsideNext k)) (second_at c s k) h)
        where
          InsideNext : ℕ → Type 0
          InsideNext k = x.Inside φ (second_of (first c s + k + 1))

          InsideNot : ℕ → Type 0
          InsideNot k = InsideNext k → ⊥

  pub ends-exact : All (ExactEnds (InsideAt c x φ)) (entries_in φ (sheetOf c))
  ends-exact =
      rw (entries-in-sheet c s φ l)
      (ends-shifted (first c s) (InsideAt c x φ) In there back (entries (states_of c φ)) (each-end-exact In (states_of c φ) agrees))

  pub turns-alternate : Alternate neither (entries_in φ (sheetOf c))
  turns-alternate = rw (entries-in-sheet c s φ l) (alternate-shifted (first c s) neither (entries (states_of c φ)) (alternate (states_of c φ)))

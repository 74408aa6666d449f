-- How the walk goes on at a run of seconds, by what its state says; and what a step answers from there.
use Rattle.std.specs.Prelude.{None, Some}
use Prim.Native.Nat.{ℕ, zero, suc, ◌+◌, ◌-◌, ◌≤◌, ◌<◌}
use mathlib.Core.Path.{◌≡◌, refl, sym, ap, ◌∙◌}
use mathlib.Core.List.{List, [], ◌∷◌, ◌++◌}
use mathlib.Core.Bool.{Bool, true, false}
use native.Mathlib.Omega.{arith}
use native.Mathlib.Nat.{add-zero}
use borrow.Author.Tests.{lt-ltb}
use lib.ListN.{length, get_or, drop, replicate, length-append, length-drop, length-replicate, get_or-replicate}
use lib.ListN.{get_or-append, drop_of_length-le}
use lib.Seq.{drop-drop, drop_at, get_or-drop}
use Rattle.run_length.specs.declared.Run.{Run}
use Rattle.run_length.specs.Runs.{decoded, RunAt}
use Rattle.run_length.specs.laws.RunsLaws.{decoded-none}
use Rattle.contacts.specs.declared.Cursor.{Cursor}
use Rattle.contacts.specs.declared.entries.Entry.{Entry}
use Rattle.contacts.specs.declared.entries.Entry.TheVariants.{Enter, Leave, Graze, Open}
use Rattle.contacts.specs.Entries.{sure, unsure, Last, last, state, side, if-so, between, some_between}
use Rattle.contacts.specs.Entries.{at_second, at_end, walk, from, to}
use Rattle.contacts.specs.laws.BetweenLaws.{between-some, between_none}
use Rattle.contacts.specs.Step.{entries_from, last_before, Stands, At, Stepped}

-- a byte's state
state_unsure : (x : ℕ) → 1 < x → state x ≡ unsure
state_unsure zero h = absurd (omega arith)
state_unsure (suc zero) h = absurd (omega arith)
state_unsure (suc (suc n)) h = refl

state_sure : (x : ℕ) → x ≤ 1 → state x ≡ sure (side x)
state_sure zero h = refl
state_sure (suc zero) h = refl
state_sure (suc (suc n)) h = absurd (omega arith)

pub side-one : (x : ℕ) → (x ≡ 0 → ⊥) → side 1 ≡ side x
side-one zero n = absurd (n refl)
side-one (suc x) n = refl

-- no entry between neighbouring seconds of one side
between_next : (a : Bool) (f t : ℕ) → f + 1 ≡ t → between a a f t ≡ []
between_next false f t e = rw (between_none f t (omega arith))
between_next true f t e = rw (between_none f t (omega arith))

-- the entry between two sure seconds, by their bytes
pub graze : (w x f t : ℕ) → w ≡ x → f + 1 < t → between (side w) (side x) f t ≡ Graze f t ∷ []
graze w x f t e h = rw (← e) (same (side w))
  where
    same : (a : Bool) → between a a f t ≡ Graze f t ∷ []
    same false = rw (between-some f t h)
    same true = rw (between-some f t h)

pub enter : (w x f t : ℕ) → w ≡ 0 → x ≡ 1 → between (side w) (side x) f t ≡ Enter f t ∷ []
enter w x f t p q = rw (p, q)

pub leave : (w x f t : ℕ) → w ≡ 1 → x ≡ 0 → between (side w) (side x) f t ≡ Leave f t ∷ []
leave w x f t p q = rw (p, q)

-- it runs from the one to the other
if-so-ends : (b : Bool) (d e : Entry) → if-so b d ≡ e ∷ [] → (from e ≡ from d) × (to e ≡ to d)
if-so-ends true d e p = let q : d ≡ e = cc in (ap from (sym q), ap to (sym q))
if-so-ends false d e p = absurd (let z : ◌≡◌ {A = ℕ} 0 1 = cc in omega arith)

between_ends : (a b : Bool) (f t : ℕ) (e : Entry) → between a b f t ≡ e ∷ [] → (from e ≡ f) × (to e ≡ t)
between_ends false true f t e p = if-so-ends true (Enter f t) e p
between_ends true false f t e p = if-so-ends true (Leave f t) e p
between_ends false false f t e p = if-so-ends (some_between f t) (Graze f t) e p
between_ends true true f t e p = if-so-ends (some_between f t) (Graze f t) e p

-- the walk over n seconds of one state: unsure, of the side of the second before, sure after another last one
past_unsure : (l : Last) (x : ℕ) → 1 < x → (n i : ℕ) (u : List ℕ) → walk l i (replicate n x ++ u) ≡ walk l (i + n) u
past_unsure l x h zero i u = rw add-zero
past_unsure l x h (suc n) i u =
    let e : i + 1 + n ≡ i + suc n = omega arith in
    rw (state_unsure x h) (past_unsure l x h n (i + 1) u ∙ rw e)

past_same : (x : ℕ) → x ≤ 1 → (n f : ℕ) (u : List ℕ)
    → walk (last (side x) f) (f + 1) (replicate n x ++ u) ≡ walk (last (side x) (f + n)) (f + n + 1) u
past_same x h zero f u = rw add-zero
past_same x h (suc n) f u =
    let e : f + 1 + n ≡ f + suc n = omega arith in
    rw (state_sure x h) (rw (between_next (side x) f (f + 1) refl) (past_same x h n (f + 1) u ∙ rw e))

past_sure : (l : Last) (x : ℕ) → x ≤ 1 → (n t : ℕ) → 0 < n → (u : List ℕ)
    → walk l t (replicate n x ++ u) ≡ at_second l (sure (side x)) t ++ walk (last (side x) (t + n - 1)) (t + n) u
past_sure l x h zero t p u = absurd (omega arith)
past_sure l x h (suc n) t p u =
    let e : t + suc n - 1 ≡ t + n = omega arith in
    let f : t + suc n ≡ t + n + 1 = omega arith in
    rw (state_sure x h) (ap (λ (es : List Entry). at_second l (sure (side x)) t ++ es) (past_same x h n t u ∙ rw (e, f)))

-- the entries that second i and those after it add, after the last sure second
unfoldable pub walk_from : List ℕ → Last → ℕ → List Entry
walk_from s l i = walk l i (drop i s)

module _ (s : List ℕ) where
  last-before : (i : ℕ) → 0 < i → last_before s i ≡ last (side (get_or s (i - 1) 0)) (i - 1)
  last-before zero h = absurd (omega arith)
  last-before (suc n) h = let e : suc n - 1 ≡ n = omega arith in rw e

  pub as-walk : (i : ℕ) → entries_from s i ≡ walk_from s (last_before s i) i
  unfolding entries_from walk_from
  as-walk i = refl

  -- past the window's last second
  at-end : (l : Last) (n : ℕ) → n ≡ length s → walk_from s l n ≡ at_end l n
  unfolding walk_from
  at-end l n e = rw (drop_of_length-le s {i = n} (omega arith))

  end-adds-none : (n : ℕ) → at_end (last_before s n) n ≡ []
  end-adds-none zero = refl
  end-adds-none (suc n) = rw (between_none n (suc n) (omega arith))

  pub none-at-end : (n : ℕ) → n ≡ length s → entries_from s n ≡ []
  none-at-end n e = as-walk n ∙ at-end (last_before s n) n e ∙ end-adds-none n

  -- the open entry of a spell that begins at second i and lasts to the window's end
  open-at-end : (i n : ℕ) → i < n → at_end (last_before s i) n ≡ Open (i - 1) (n - 1) ∷ []
  open-at-end zero n h = rw (lt-ltb 0 n h)
  open-at-end (suc i) n h = let e : suc i - 1 ≡ i = omega arith in rw (e, between-some i n (omega arith))

  -- a sure second that adds nothing: the window's first, or one of the side of the second before
  quiet : (i : ℕ) (b : Bool) → (0 < i → side (get_or s (i - 1) 0) ≡ b) → at_second (last_before s i) (sure b) i ≡ []
  quiet zero b same = refl
  quiet (suc n) b same =
      let e : suc n - 1 ≡ n = omega arith in
      let a : side (get_or s n 0) ≡ b = rw e at (same (omega arith)) in
      rw a (between_next b n (suc n) (omega arith))

module _ (k : ℕ) (bytes : List ℕ) where
  abbrev s : List ℕ
  s = decoded k bytes

  -- where there is a second, there is a run
  some_bytes : (u : List ℕ) → 0 < length (decoded k u) → 0 < length u
  some_bytes [] h = absurd (omega (arith, ap length (decoded-none k)))
  some_bytes (b ∷ u) h = omega arith

  pub run-there : (i p : ℕ) → Stands k bytes i p → i < length s → p < length bytes
  run-there i p here h =
      let m = some_bytes (drop p bytes) (omega (arith, length-drop i s, ap length here.left)) in
      omega (arith, m, length-drop p bytes)

  -- a stride: the seconds of the run at second i
  module _ (i p : ℕ) (here : Stands k bytes i p) (r : Run) (run : RunAt k bytes p r) where
    abbrev these : List ℕ
    these = replicate r.seconds r.state

    abbrev others : List ℕ
    others = decoded k (drop r.after bytes)

    size : length these ≡ r.seconds
    size = length-replicate r.seconds r.state

    states : drop i s ≡ these ++ others
    states = here.left ∙ run.states

    -- where it ends, the next stands
    pub stands_after : Stands k bytes (i + r.seconds) r.after
    stands_after =
        record {
          second = omega (arith, here.second, length-drop i s, ap length states, length-append these others, size);
          byte = run.within;
          left =
              sym (drop-drop r.seconds i s) ∙ ap (drop r.seconds) states ∙ drop_at these others r.seconds size;
          whole = run.whole;
        }

    -- its seconds have its state, the first and the last
    state-of : (m : ℕ) → m < r.seconds → get_or s (i + m) 0 ≡ r.state
    state-of m h =
        sym (get_or-drop i s m 0)
        ∙ ap (λ (u : List ℕ). get_or u m 0) states
        ∙ get_or-append these others 0 m (omega (arith, size))
        ∙ get_or-replicate r.seconds m r.state 0 h

    pub first-state : get_or s i 0 ≡ r.state
    first-state = rw add-zero at (state-of 0 run.some)

    pub last-state : get_or s (i + r.seconds - 1) 0 ≡ r.state
    last-state =
        let e : i + r.seconds - 1 ≡ i + (r.seconds - 1) = omega (arith, run.some) in
        ap (λ (n : ℕ). get_or s n 0) e ∙ state-of (r.seconds - 1) (omega (arith, run.some))

    pub at_after : At k bytes (record { at = i + r.seconds; run = r.after; was = r.state })
    at_after =
        record {
          stands = stands_after;
          before = λ h. ap side last-state;
          start = λ e. absurd (omega (arith, run.some));
        }

    -- the walk over it: an unsure one, a sure one
    split : drop i s ≡ these ++ drop (i + r.seconds) s
    split = states ∙ ap (λ (u : List ℕ). these ++ u) (sym stands_after.left)

    pub past-spell : (l : Last) → 1 < r.state → walk_from s l i ≡ walk_from s l (i + r.seconds)
    unfolding walk_from
    past-spell l u = rw split (past_unsure l r.state u r.seconds i (drop (i + r.seconds) s))

    sure-left : (l : Last) → r.state ≤ 1
        → walk_from s l i ≡ at_second l (sure (side r.state)) i ++ entries_from s (i + r.seconds)
    unfolding walk_from entries_from
    sure-left l u =
        rw (last-before s (i + r.seconds) (omega (arith, run.some)), last-state)
        (rw split (past_sure l r.state u r.seconds i run.some (drop (i + r.seconds) s)))

    -- a sure one that adds no entry
    pub past-quiet : r.state ≤ 1 → (0 < i → side (get_or s (i - 1) 0) ≡ side r.state)
        → entries_from s i ≡ entries_from s (i + r.seconds)
    past-quiet u same = as-walk s i ∙ sure-left (last_before s i) u ∙ rw (quiet s i (side r.state) same)

  -- the answers
  pub done : (at i : ℕ) → entries_from s at ≡ entries_from s i → i ≡ length s → Stepped k bytes at None
  done at i l e = record { rest = l ∙ none-at-end s i e; forward = tt }

  found : (at : ℕ) (e : Entry) (c : Cursor) → entries_from s at ≡ e ∷ entries_from s c.at → At k bytes c
      → at < c.at → from e ≤ to e → to e < c.at → Stepped k bytes at (Some (e, c))
  found at e c l a h f t = record { rest = l; forward = (h, a, f, omega (arith, a.stands.second)) }

  -- at the sure second t, which ends the search from second i on
  module _ (at i t p : ℕ) (l : entries_from s at ≡ walk_from s (last_before s i) t) (o : at ≤ i) (q : i ≤ t)
      (here : Stands k bytes t p) (r : Run) (run : RunAt k bytes p r) (u : r.state ≤ 1) where
    abbrev next : Cursor
    next = record { at = t + r.seconds; run = r.after; was = r.state }

    sure-found : (e : Entry) → at_second (last_before s i) (sure (side r.state)) t ≡ e ∷ [] → from e ≤ to e → to e ≡ t
        → Stepped k bytes at (Some (e, next))
    sure-found e b f d =
        found at e next (l ∙ sure-left t p here r run (last_before s i) u ∙ rw b) (at_after t p here r run)
        (omega (arith, run.some)) f (omega (arith, run.some))

    -- an entry after the sure second i - 1
    pub between-found : (w : ℕ) (e : Entry) → 0 < i → side (get_or s (i - 1) 0) ≡ side w
        → between (side w) (side r.state) (i - 1) t ≡ e ∷ [] → Stepped k bytes at (Some (e, next))
    between-found w e h z b =
        let ends = between_ends (side w) (side r.state) (i - 1) t e b in
        sure-found e (rw (last-before s i h, z) b) (omega arith) ends.1

    -- the open entry of a spell at the window's start
    pub open-start : i ≡ 0 → 0 < t → Stepped k bytes at (Some ((Open 0 t), next))
    open-start z h = sure-found (Open 0 t) (rw (z, lt-ltb 0 t h)) (omega arith) refl

  -- at the window's end, in a spell from second i on
  pub open-end : (at i n p : ℕ) → entries_from s at ≡ walk_from s (last_before s i) n → at ≤ i → i < n → Stands k bytes n p
      → 1 < get_or s (n - 1) 0 → n ≡ length s
      → Stepped k bytes at (Some ((Open (i - 1) (n - 1)), (record { at = n; run = p; was = 2 })))
  open-end at i n p l o q here u e =
      found at (Open (i - 1) (n - 1)) (record { at = n; run = p; was = 2 })
      (l ∙ at-end s (last_before s i) n e ∙ rw (open-at-end s i n q, none-at-end s n e))
      record {
        stands = here;
        before = λ _. sym (side-one (get_or s (n - 1) 0) (λ z. omega arith));
        start = λ z. absurd (omega arith);
      }
      (omega arith) (omega arith) (omega arith)

-- The entries are in order: "each from at least the previous to of its family".
use Rattle.std.specs.Prelude.{ℕ, ◌-◌, ◌≤◌, ◌<◌, ◌≡◌, List, [], ◌∷◌, ◌++◌, Bool, true, false, ltb, length}
use Rattle.std.proofs.Common.{arith}
use Rattle.contacts.specs.declared.entries.Entry.{Entry}
use Rattle.contacts.specs.declared.entries.Entry.TheVariants.{Graze, Open}
use Rattle.contacts.specs.Entries.{State, sure, unsure, Last, none, last, state_at, if-so, between, at_second, passed, at_end, entries, from, to, some_between}
use Rattle.contacts.specs.laws.Induction.{Known, along-walk}

-- the first from is at least lo, and each other from at least the previous to
abbrev pub Ordered : ℕ → List Entry → Type 0
Ordered lo [] = Unit
Ordered lo (e ∷ es) = (lo ≤ from e) × Ordered (to e) es

abbrev pub EntriesOrdered : Type 0
EntriesOrdered = (s : List ℕ) → Ordered 0 (entries s)

-- Why: each entry runs from the last sure second, or the window's first, to the second that adds it, which is then the
-- last sure one.
abbrev pub start : Last → ℕ
start none = 0
start (last a f) = f

-- in order, and no entry ends before it starts
abbrev pub Chain : ℕ → List Entry → Type 0
Chain lo [] = Unit
Chain lo (e ∷ es) = (lo ≤ from e) × (from e ≤ to e) × Chain (to e) es

weaken : (lo lo' : ℕ) (es : List Entry) → lo ≤ lo' → Chain lo' es → Chain lo es
weaken lo lo' [] h o = tt
weaken lo lo' (e ∷ es) h o = (omega (arith, o.0), o.1, o.2)

chain_if : (b : Bool) (e : Entry) (es : List Entry) → from e ≤ to e → Chain (to e) es → Chain (from e) (if-so b e ++ es)
chain_if true e es h o = (omega arith, h, o)
chain_if false e es h o = weaken (from e) (to e) es h o

chain-last : (b : Bool) (e : Entry) → from e ≤ to e → Chain (from e) (if-so b e)
chain-last true e h = (omega arith, h, tt)
chain-last false e h = tt

chain-between : (a b : Bool) (f t : ℕ) (es : List Entry) → f ≤ t → Chain t es → Chain f (between a b f t ++ es)
chain-between false true f t es h o = (omega arith, h, o)
chain-between true false f t es h o = (omega arith, h, o)
chain-between false false f t es h o = chain_if (some_between f t) (Graze f t) es h o
chain-between true true f t es h o = chain_if (some_between f t) (Graze f t) es h o

module _ (s : List ℕ) where
  pub chain-end : (l : Last) (i : ℕ) → i ≡ length s → Known s l i → Chain (start l) (at_end l i)
  chain-end none i e g = chain-last (ltb 0 i) (Open 0 (i - 1)) (omega arith)
  chain-end (last a f) i e g = chain-last (some_between f i) (Open f (i - 1)) (omega (arith, g.0))

  pub chain_second : (l : Last) (m : State) (i : ℕ) (es : List Entry) → i < length s → m ≡ state_at s i → Known s l i
      → Chain (start (passed l m i)) es → Chain (start l) (at_second l m i ++ es)
  chain_second l unsure i es h e g o = o
  chain_second none (sure b) i es h e g o = chain_if (ltb 0 i) (Open 0 i) es (omega arith) o
  chain_second (last a f) (sure b) i es h e g o = chain-between a b f i es (omega (arith, g.0)) o

chain_ordered : (lo : ℕ) (es : List Entry) → Chain lo es → Ordered lo es
chain_ordered lo [] o = tt
chain_ordered lo (e ∷ es) o = (o.0, chain_ordered (to e) es o.2)

pub ordered : EntriesOrdered
ordered s = chain_ordered 0 (entries s) (along-walk s (λ l i es. Chain (start l) es) (chain-end s) (chain_second s))

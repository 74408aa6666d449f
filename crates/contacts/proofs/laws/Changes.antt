-- Each change lies in exactly one entry.
use Rattle.std.specs.Prelude.{ℕ, ◌+◌, ◌-◌, ◌≤◌, ◌<◌, ◌≡◌, refl, List, [], ◌∷◌, ◌++◌, Bool, true, false, ◌&&◌, ltb, leb, length}
use Rattle.std.proofs.Common.{sym, ◌∙◌, inl, inr, arith, lt-ltb, le-leb}
use Rattle.std.proofs.Math.Bool.{and-false}
use Rattle.std.proofs.Math.Decide.{dec_lt}
use Rattle.std.proofs.lemmas.Bool.{lt-leb}
use Rattle.contacts.specs.declared.entries.Entry.{Entry}
use Rattle.contacts.specs.declared.entries.Entry.TheVariants.{Enter, Leave, Graze, Open}
use Rattle.contacts.specs.Entries.{State, sure, unsure, Last, none, last, state_at, if-so, between, at_second, passed, at_end, entries, from, to, some_between}
use Rattle.contacts.specs.laws.BetweenLaws.{between-some}
use Rattle.contacts.specs.Exact.{Says, Agrees, Change, once, how_many}
use Rattle.contacts.specs.laws.ExactLaws.{says}
use Rattle.contacts.specs.laws.Induction.{Known, along-walk}
use Rattle.contacts.specs.laws.Ordered.{Chain, start, chain-end, chain_second}

abbrev pub EachChangeInOne : Type 1
EachChangeInOne = (Inside : ℕ → Type 0) (s : List ℕ) → Agrees Inside s → (k : ℕ) → k + 1 < length s → Change Inside k → how_many k (entries s) ≡ 1

-- Why: at the first sure second after k an entry is made that holds k and k + 1, but for neighbouring seconds of one
-- side, which are no change; what was made before ends at k at the latest, and by order what comes after starts at k +
-- 1 or later.
inside : (k f t : ℕ) → f ≤ k → k + 1 ≤ t → once (leb f k && leb (k + 1) t) ≡ 1
inside k f t p q = rw (le-leb f k p, le-leb (k + 1) t q)

before : (k f t : ℕ) → k < f → once (leb f k && leb (k + 1) t) ≡ 0
before k f t p = rw (lt-leb f k p)

after : (k f t : ℕ) → t ≤ k → once (leb f k && leb (k + 1) t) ≡ 0
after k f t p = rw (lt-leb (k + 1) t (omega arith), and-false (leb f k))

none_before : (k lo : ℕ) (es : List Entry) → Chain lo es → k < lo → how_many k es ≡ 0
none_before k lo [] o h = refl
none_before k lo (e ∷ es) o h =
    let p : lo ≤ from e = o.0 in
    let q : from e ≤ to e = o.1 in
    omega (arith, before k (from e) (to e) (omega arith), none_before k (to e) es o.2 (omega arith))

if-after : (b : Bool) (k : ℕ) (e : Entry) (es : List Entry) → to e ≤ k → how_many k (if-so b e ++ es) ≡ how_many k es
if-after true k e es h = omega (arith, after k (from e) (to e) h)
if-after false k e es h = refl

between_after : (a b : Bool) (f t k : ℕ) (es : List Entry) → t ≤ k → how_many k (between a b f t ++ es) ≡ how_many k es
between_after false true f t k es h = if-after true k (Enter f t) es h
between_after true false f t k es h = if-after true k (Leave f t) es h
between_after false false f t k es h = if-after (some_between f t) k (Graze f t) es h
between_after true true f t k es h = if-after (some_between f t) k (Graze f t) es h

if-holds : (b : Bool) (k : ℕ) (e : Entry) (es : List Entry) → b ≡ true → from e ≤ k → k + 1 ≤ to e → how_many k es ≡ 0 → how_many k (if-so b e ++ es) ≡ 1
if-holds b k e es w p q z = rw w (omega (arith, inside k (from e) (to e) p q))

between-holds : (a b : Bool) (f t k : ℕ) (es : List Entry) → f ≤ k → k + 1 ≤ t → (a ≡ b → f + 1 < t) → how_many k es ≡ 0
    → how_many k (between a b f t ++ es) ≡ 1
between-holds false true f t k es p q n z = if-holds true k (Enter f t) es refl p q z
between-holds true false f t k es p q n z = if-holds true k (Leave f t) es refl p q z
between-holds false false f t k es p q n z = if-holds (some_between f t) k (Graze f t) es (between-some f t (n refl)) p q z
between-holds true true f t k es p q n z = if-holds (some_between f t) k (Graze f t) es (between-some f t (n refl)) p q z

module _ (Inside : ℕ → Type 0) (s : List ℕ) (agrees : Agrees Inside s) (k : ℕ) (within : k + 1 < length s) (change : Change Inside k) where
  -- neighbouring seconds of one side are no change
  no_change : (a : Bool) → Says (sure a) Inside k → Says (sure a) Inside (k + 1) → Change Inside k → ⊥
  no_change true p q (inl c) = c.1 q
  no_change true p q (inr c) = c.0 p
  no_change false p q (inl c) = p c.0
  no_change false p q (inr c) = q c.1

  -- so two sure seconds of one side, with k and k + 1 in them, are no neighbours
  apart : (a b : Bool) (f i : ℕ) → state_at s f ≡ sure a → state_at s i ≡ sure b → f ≤ k → k + 1 ≤ i → i < length s → a ≡ b → f + 1 < i
  apart a b f i p q x y h e =
      elim (dec_lt (f + 1) i) [
        | yes l ↦ l
        | no n ↦
            let u : f ≡ k = omega arith in
            let v : i ≡ k + 1 = omega arith in
            absurd (no_change a (rw u at (says Inside s agrees (sure a) f p (omega arith))) (rw v at (says Inside s agrees (sure a) i (rw e q) h)) change)
      ]

  abbrev One : Last → ℕ → List Entry → Type 0
  One l i es = Chain (start l) es × (start l ≤ k → how_many k es ≡ 1)

  one_end : (l : Last) (i : ℕ) → i ≡ length s → Known s l i → One l i (at_end l i)
  one_end none i e g = (
    chain-end s none i e g,
    λ p. rw (lt-ltb 0 i (omega arith)) (omega (arith, inside k 0 (i - 1) (omega arith) (omega arith))),
  )
  one_end (last a f) i e g = (
    chain-end s (last a f) i e g,
    λ p. rw (between-some f i (omega arith)) (omega (arith, inside k f (i - 1) (omega arith) (omega arith))),
  )

  one-second : (l : Last) (m : State) (i : ℕ) (es : List Entry) → i < length s → m ≡ state_at s i → Known s l i
      → One (passed l m i) (i + 1) es → One l i (at_second l m i ++ es)
  one-second l unsure i es h e g r = r
  one-second none (sure b) i es h e g r = (
    chain_second s none (sure b) i es h e g r.0,
    λ p. elim (dec_lt k i) [
      | yes y ↦ if-holds (ltb 0 i) k (Open 0 i) es (lt-ltb 0 i (omega arith)) p (omega arith) (none_before k i es r.0 y)
      | no n ↦ if-after (ltb 0 i) k (Open 0 i) es (omega arith) ∙ r.1 (omega arith)
    ],
  )
  one-second (last a f) (sure b) i es h e g r = (
    chain_second s (last a f) (sure b) i es h e g r.0,
    λ p. elim (dec_lt k i) [
      | yes y ↦ between-holds a b f i k es p (omega arith) (apart a b f i g.1 (sym e) p (omega arith) h) (none_before k i es r.0 y)
      | no n ↦ between_after a b f i k es (omega arith) ∙ r.1 (omega arith)
    ],
  )

pub each_change_in_one : EachChangeInOne
each_change_in_one Inside s agrees k within change =
    (along-walk s (One Inside s agrees k within change) (one_end Inside s agrees k within change) (one-second Inside s agrees k within change)).1 (omega arith)

-- Enters and leaves alternate.
use Rattle.std.specs.Prelude.{ℕ, ◌+◌, ◌-◌, ◌<◌, ◌≡◌, refl, List, ◌++◌, Bool, true, false, ltb, length}
use Rattle.std.proofs.Common.{arith}
use Rattle.contacts.specs.declared.entries.Entry.{Entry}
use Rattle.contacts.specs.declared.entries.Entry.TheVariants.{Graze, Open}
use Rattle.contacts.specs.Entries.{State, sure, unsure, Last, none, last, state_at, if-so, at_second, passed, at_end, entries, some_between}
use Rattle.contacts.specs.Exact.{Turn, neither, entered, left, Alternate}
use Rattle.contacts.specs.laws.Induction.{Known, along-walk}

abbrev pub EntriesAlternate : Type 0
EntriesAlternate = (s : List ℕ) → Alternate neither (entries s)

-- Why: after an enter the last sure second is inside, until a leave; and the other way.
abbrev Fits : Turn → Last → Type 0
Fits neither l = Unit
Fits entered none = ⊥
Fits entered (last a f) = a ≡ true
Fits left none = ⊥
Fits left (last a f) = a ≡ false

graze-passed : (b : Bool) (t : Turn) (f g : ℕ) (es : List Entry) → Alternate t es → Alternate t (if-so b (Graze f g) ++ es)
graze-passed true t f g es h = h
graze-passed false t f g es h = h

open_passed : (b : Bool) (t : Turn) (f g : ℕ) (es : List Entry) → Alternate t es → Alternate t (if-so b (Open f g) ++ es)
open_passed true t f g es h = h
open_passed false t f g es h = h

open_last : (b : Bool) (t : Turn) (f g : ℕ) → Alternate t (if-so b (Open f g))
open_last true t f g = tt
open_last false t f g = tt

-- an enter fits where the last sure second is outside, a leave where it is inside
not_entered : (t : Turn) (f : ℕ) → Fits t (last false f) → t ≡ entered → ⊥
not_entered neither f h e = let z : ◌≡◌ {A = ℕ} 0 1 = cc in omega arith
not_entered entered f h e = let z : ◌≡◌ {A = ℕ} 0 1 = cc in omega arith
not_entered left f h e = let z : ◌≡◌ {A = ℕ} 0 1 = cc in omega arith

not_left : (t : Turn) (f : ℕ) → Fits t (last true f) → t ≡ left → ⊥
not_left neither f h e = let z : ◌≡◌ {A = ℕ} 0 1 = cc in omega arith
not_left entered f h e = let z : ◌≡◌ {A = ℕ} 0 1 = cc in omega arith
not_left left f h e = let z : ◌≡◌ {A = ℕ} 0 1 = cc in omega arith

-- a turn that fits at one second fits at the next of that side
fits_on : (t : Turn) (a : Bool) (f g : ℕ) → Fits t (last a f) → Fits t (last a g)
fits_on neither a f g h = h
fits_on entered a f g h = h
fits_on left a f g h = h

fits-first : (t : Turn) (l : Last) → Fits t none → Fits t l
fits-first neither l h = tt
fits-first entered l h = absurd h
fits-first left l h = absurd h

abbrev Onward : Last → ℕ → List Entry → Type 0
Onward l i es = (t : Turn) → Fits t l → Alternate t es

module _ (s : List ℕ) where
  alternate-end : (l : Last) (i : ℕ) → i ≡ length s → Known s l i → Onward l i (at_end l i)
  alternate-end none i e g t h = open_last (ltb 0 i) t 0 (i - 1)
  alternate-end (last a f) i e g t h = open_last (some_between f i) t f (i - 1)

  alternate-second : (l : Last) (m : State) (i : ℕ) (es : List Entry) → i < length s → m ≡ state_at s i → Known s l i
      → Onward (passed l m i) (i + 1) es → Onward l i (at_second l m i ++ es)
  alternate-second l unsure i es h e g p t q = p t q
  alternate-second none (sure b) i es h e g p t q = open_passed (ltb 0 i) t 0 i es (p t (fits-first t (last b i) q))
  alternate-second (last false f) (sure true) i es h e g p t q = (not_entered t f q, p entered refl)
  alternate-second (last true f) (sure false) i es h e g p t q = (not_left t f q, p left refl)
  alternate-second (last false f) (sure false) i es h e g p t q = graze-passed (some_between f i) t f i es (p t (fits_on t false f i q))
  alternate-second (last true f) (sure true) i es h e g p t q = graze-passed (some_between f i) t f i es (p t (fits_on t true f i q))

pub alternate : EntriesAlternate
alternate s = along-walk s Onward (alternate-end s) (alternate-second s) neither tt

-- Each enter runs from exactly outside to exactly inside, each leave the other way.
use Rattle.std.specs.Prelude.{ℕ, List, true, false}
use Rattle.std.proofs.Common.{arith}
use Rattle.contacts.specs.declared.entries.Entry.{Entry}
use Rattle.contacts.specs.declared.entries.Entry.TheVariants.{Enter, Leave, Graze, Open}
use Rattle.contacts.specs.Entries.{sure, entries, All}
use Rattle.contacts.specs.CalledFor.{CalledFor}
use Rattle.contacts.proofs.laws.CalledForLaws.{each_called_for}
use Rattle.contacts.specs.laws.AllLaws.{all_map}
use Rattle.contacts.specs.Exact.{Agrees, ExactEnds}
use Rattle.contacts.specs.laws.ExactLaws.{says}

abbrev pub EachEndExact : Type 1
EachEndExact = (Inside : ℕ → Type 0) (s : List ℕ) → Agrees Inside s → All (ExactEnds Inside) (entries s)

-- Why: the two seconds are sure, and sure states are right.
module _ (Inside : ℕ → Type 0) (s : List ℕ) (agrees : Agrees Inside s) where
  exact-called : (e : Entry) → CalledFor s e → ExactEnds Inside e
  exact-called (Enter f t) c = (says Inside s agrees (sure false) f c.1 (omega (arith, c.0.0, c.0.1)), says Inside s agrees (sure true) t c.2 c.0.1)
  exact-called (Leave f t) c = (says Inside s agrees (sure true) f c.1 (omega (arith, c.0.0, c.0.1)), says Inside s agrees (sure false) t c.2 c.0.1)
  exact-called (Graze f t) c = tt
  exact-called (Open f t) c = tt

pub each-end-exact : EachEndExact
each-end-exact Inside s agrees = all_map (exact-called Inside s agrees) (entries s) (each_called_for s)

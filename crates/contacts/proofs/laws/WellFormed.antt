-- The entries keep a reader's rules on their seconds.
use Rattle.std.specs.Prelude.{ℕ, ◌+◌, ◌≤◌, ◌<◌, ◌≡◌, List, ◌⊎◌, length}
use Rattle.std.proofs.Common.{inl, inr, arith}
use Rattle.contacts.specs.declared.entries.Entry.{Entry}
use Rattle.contacts.specs.declared.entries.Entry.TheVariants.{Enter, Leave, Graze, Open}
use Rattle.contacts.specs.Entries.{entries, All}
use Rattle.contacts.specs.laws.AllLaws.{all_map}
use Rattle.contacts.specs.CalledFor.{CalledFor}
use Rattle.contacts.proofs.laws.CalledForLaws.{each_called_for}

-- "every second inside the window; from < to (open: from ≤ to, and from is the first second or to the last)"
abbrev pub WellFormed : ℕ → Entry → Type 0
WellFormed n (Enter f t) = (f < t) × (t < n)
WellFormed n (Leave f t) = (f < t) × (t < n)
WellFormed n (Graze f t) = (f < t) × (t < n)
WellFormed n (Open f t) = (f ≤ t) × (t < n) × ((f ≡ 0) ⊎ (t + 1 ≡ n))

abbrev pub EntriesWellFormed : Type 0
EntriesWellFormed = (s : List ℕ) → All (WellFormed (length s)) (entries s)

-- Why: it is part of what calls for an entry.
well_formed_called : (s : List ℕ) (e : Entry) → CalledFor s e → WellFormed (length s) e
well_formed_called s (Enter f t) c = (c.0.0, c.0.1)
well_formed_called s (Leave f t) c = (c.0.0, c.0.1)
well_formed_called s (Graze f t) c = (c.0.0, c.0.1)
well_formed_called s (Open f t) (inl o) = (omega (arith, o.0), o.2, inl o.0)
well_formed_called s (Open f t) (inr (inl o)) = (omega (arith, o.0), omega (arith, o.1), inr o.1)
well_formed_called s (Open f t) (inr (inr o)) = (omega (arith, o.0), omega (arith, o.1), inr o.1)

pub well_formed : EntriesWellFormed
well_formed s = all_map (well_formed_called s) (entries s) (each_called_for s)

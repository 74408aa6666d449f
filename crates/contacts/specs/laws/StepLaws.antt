-- What a caller's loop over steps uses: all entries are left at the start, each step takes the first, and the last
-- step finds none left.
use Rattle.std.specs.Prelude.{ℕ, ◌≤◌, ◌<◌, ◌≡◌, refl, List, [], ◌∷◌, length, Option, Some, None}
use Rattle.std.proofs.Common.{ap, ◌∙◌, arith}
use Rattle.run_length.specs.Runs.{decoded, Whole}
use Rattle.contacts.specs.declared.Cursor.{Cursor}
use Rattle.contacts.specs.declared.entries.Entry.{Entry}
use Rattle.contacts.specs.Entries.{entries, from, to}
use Rattle.contacts.specs.Step.{entries_from, At, stepped, Stepped}

pub all-at-start : (s : List ℕ) → entries_from s 0 ≡ entries s
unfolding entries_from
all-at-start s = refl

module _ (k : ℕ) (bytes : List ℕ) where
  pub at-start : (was : ℕ) → Whole bytes → At k bytes (record { at = 0; run = 0; was = was })
  at-start was w =
      record {
        stands = record { second = omega arith; byte = omega arith; left = refl; whole = w };
        before = λ h. absurd (omega arith);
        start = λ e. refl;
      }

  -- what follows from a step that found an entry
  pub record Took (at : ℕ) (e : Entry) (c : Cursor) : Type 0 where
    pub rest : entries_from (decoded k bytes) at ≡ e ∷ entries_from (decoded k bytes) c.at
    pub further : at < c.at
    pub within : c.at ≤ length (decoded k bytes)
    pub cursor : At k bytes c
    pub ordered : from e ≤ to e
    pub inside : to e < length (decoded k bytes)

  pub took : (at : ℕ) (r : Option (Entry × Cursor)) (e : Entry) (c : Cursor) → Stepped k bytes at r → r ≡ Some (e, c) → Took at e c
  took at r e c p q =
      let f = rw q at p.forward in
      record {
        rest = p.rest ∙ ap (stepped (decoded k bytes)) q;
        further = f.0;
        within = f.1.stands.second;
        cursor = f.1;
        ordered = f.2;
        inside = f.3;
      }

  pub none_left : (at : ℕ) (r : Option (Entry × Cursor)) → Stepped k bytes at r → r ≡ None → entries_from (decoded k bytes) at ≡ []
  none_left at r p q = p.rest ∙ ap (stepped (decoded k bytes)) q

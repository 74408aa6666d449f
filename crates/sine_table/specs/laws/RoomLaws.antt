-- What callers use of a filled buffer, and the laws by which it is filled.
--   filled-sines, filled-length             it holds table S, and is as long as it was
--   Begun, begun-..                         a buffer with the first k entries in it, up to all of them
--   gives-entry, gives_second, gives-next   of second differences that give the table from entry k on: that entry, the one after it, and
--                                           that the rest of them give the table from there on
use Rattle.std.specs.Prelude.{◌≡◌, refl, ℕ, zero, suc, ◌+◌, ◌≤◌, ◌<◌, ℤ, pos, ◌+ℤ◌, length, get_or, take, set}
use Rattle.std.proofs.Common.{sym, ◌∙◌, arith, add-zero, zero-add, suc-add, add-suc, length-take-le, drop-cons, take-suc, take_all}
use Rattle.std.proofs.Math.Path.{ap, subst}
use mathlib.Core.List.{List, [], ◌∷◌, ◌++◌}
use Rattle.std.proofs.Math.ListN.{drop, length-append, length-drop, get_or-append}
use Rattle.std.proofs.lemmas.List.{set_at}
use Rattle.std.proofs.Math.Seq.{append_snoc}
use Rattle.sine_table.specs.Table.{S, Entry, Sines}
use Rattle.sine_table.specs.laws.TableLaws.{entry-rule, entry-small}
use Rattle.sine_table.specs.Room.{entries_from, table, filled, Gives}

-- ---- the entries in a list

entries-length : (k n : ℕ) → length (entries_from k n) ≡ n
entries-length k zero = refl
entries-length k (suc n) = ap suc (entries-length (suc k) n)

entries_at : (k n i : ℕ) → i < n → get_or (entries_from k n) i 0 ≡ S (k + i)
entries_at k zero i h = absurd (omega arith)
entries_at k (suc n) zero h = ap S (sym (add-zero k))
entries_at k (suc n) (suc i) h = entries_at (suc k) n i (omega arith) ∙ ap S (suc-add k i ∙ sym (add-suc k i))

pub table-length : length table ≡ 901
unfolding table
table-length = entries-length 0 901

pub table_at : (k : ℕ) → k < 901 → get_or table k 0 ≡ S k
unfolding table
table_at k h = entries_at 0 901 k h ∙ ap S (zero-add k)

-- ---- a filled buffer

module _ (room : List ℕ) where
  pub filled-length : 901 ≤ length room → length (filled room) ≡ length room
  unfolding filled
  filled-length h = length-append table (drop 901 room) ∙ omega (arith, table-length, length-drop 901 room)

  pub filled-sines : Sines (filled room)
  unfolding filled
  filled-sines =
      record {
        size = omega (arith, length-append table (drop 901 room), table-length);
        entry = λ k h. subst (Entry k) (sym (get_or-append table (drop 901 room) 0 k (omega (arith, table-length)) ∙ table_at k h)) (is-entry k h);
      }
    where
      is-entry : (k : ℕ) → k < 901 → Entry k (S k)
      is-entry k h = record { rule = entry-rule k h; value = refl; small = entry-small k h }

-- ---- a buffer with the first k entries in it, and from there on as it was
pub record Begun (k : ℕ) (old room : List ℕ) : Type 0 where
  pub is : room ≡ take k table ++ drop k old

module _ (old : List ℕ) where
  pub begun-none : Begun 0 old old
  begun-none = record { is = refl }

  pub begun-length : (k : ℕ) (room : List ℕ) → k ≤ 901 → 901 ≤ length old → Begun k old room → length room ≡ length old
  begun-length k room h l b =
      ap length b.is ∙ length-append (take k table) (drop k old)
      ∙ omega (arith, length-take-le k table (omega (arith, table-length)), length-drop k old)

  -- entry k is stored
  pub begun_more : (k : ℕ) (room : List ℕ) (x : ℕ) → k < 901 → 901 ≤ length old → x ≡ S k → Begun k old room → Begun (suc k) old (set room k x)
  begun_more k room x h l e b =
      let within : k < length table = omega (arith, table-length) in
      let here : get_or table k 0 ≡ x = table_at k h ∙ sym e in
      record {
        is = ap (λ (r : List ℕ). set r k x) (b.is ∙ ap (λ (r : List ℕ). take k table ++ r) (drop-cons old k 0 (omega arith)))
            ∙ set_at (take k table) (get_or old k 0) (drop (suc k) old) x k (length-take-le k table (omega arith))
            ∙ sym (append_snoc (take k table) x (drop (suc k) old))
            ∙ ap (λ (y : ℕ). (take k table ++ y ∷ []) ++ drop (suc k) old) (sym here)
            ∙ ap (λ (r : List ℕ). r ++ drop (suc k) old) (sym (take-suc table k 0 within));
      }

  -- all are
  pub begun_all : (room : List ℕ) → Begun 901 old room → room ≡ filled old
  unfolding filled
  begun_all room b = b.is ∙ ap (λ (r : List ℕ). r ++ drop 901 old) (take_all 901 table (omega (arith, table-length)))

-- ---- from entry to entry

module _ (k : ℕ) (e s : ℤ) where
  pub gives-entry : (ds : List ℤ) → Gives k e s ds → e ≡ pos (S k)
  gives-entry [] g = let h = g.entries in cc
  gives-entry (d ∷ ds) g = let h = g.entries in cc

  pub gives-next : (d : ℤ) (ds : List ℤ) → Gives k e s (d ∷ ds) → Gives (suc k) (e +ℤ s) (s +ℤ d) ds
  gives-next d ds g = let h = g.entries in record { size = omega (arith, g.size); entries = cc }

pub gives_second : (k : ℕ) (e s : ℤ) (ds : List ℤ) → Gives k e s ds → e +ℤ s ≡ pos (S (suc k))
gives_second k e s [] g = let h = g.entries in cc
gives_second k e s (d ∷ ds) g = gives-entry (suc k) (e +ℤ s) (s +ℤ d) ds (gives-next k e s d ds g)

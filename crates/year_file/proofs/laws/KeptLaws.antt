-- Laws of what is kept: a file of sheets is kept whole, what was kept is such a file, and where the walk arrives.
use Rattle.std.specs.Prelude.{ℕ, suc, ◌+◌, ◌-◌, ◌≤◌, ◌<◌, ◌≡◌, refl, List, [], ◌∷◌, ◌++◌, take, drop}
use Rattle.std.proofs.Common.{sym, ◌∙◌, append_assoc, arith, zero-add, add-zero, length-drop, drop-drop, drop_at, take_at, get_or-drop}
use Rattle.std.proofs.Math.Path.{ap}
use Rattle.std.proofs.Math.Decide.{dec_lt}
use Rattle.std.proofs.Math.ListN.{length}
use Rattle.std.proofs.Math.Seq.{length-take-le}
use Rattle.sheet_format.specs.declared.kinds.Entry.{Entry}
use Rattle.sheet_format.specs.RecordEntries.{bytes_of}
use Rattle.big_endian.specs.Numbers.{Bytes}
use Rattle.sheet_rules.specs.Rules.{start}
use Rattle.sheet_codec.specs.Sheets.{sheet, stored_at, read_sheet}
use Rattle.sheet_codec.specs.laws.SheetLaws.{read-start}
use Rattle.sheet_codec.specs.laws.StandLaws.{well-from}
use Rattle.sheet_codec.specs.laws.StoredLaws.{stored_steady, stand-bytes}
use Rattle.sheet_codec.specs.RoundTrip.{read_back, reads_well, reads_bytes}
use Rattle.sheet_codec.specs.laws.WellFormed.{WellFormed}
use Rattle.year_file.specs.laws.BoundLaws.{sheet_bounds}
use Rattle.year_file.specs.Walk.{Step, keep, lose, steps, kept_in, kept, stretches_in}
use Rattle.year_file.specs.Claims.{dropped_at, spanned, joined, AllSheets, Arrives, Met, arrived, inside}
use Rattle.year_file.specs.laws.StepLaws.{Walked, at-end, kept_one, lost_one, steps-nil, steps_keep, steps_lose}

-- ---- the bytes of well-formed entries, one list behind the other

unfoldable pub Written : List (List ℕ) → Type 0
Written [] = Unit
Written (x ∷ xs) = ((es : List Entry) × WellFormed start es × (x ≡ bytes_of es)) × Written xs

steps_sheet : (es : List Entry) → WellFormed start es → (rest : List ℕ) → steps (bytes_of es ++ rest) ≡ keep (bytes_of es) ∷ steps rest
steps_sheet es w rest =
    let n = length (bytes_of es) in
    steps_keep (bytes_of es ++ rest) es n (read_back es w rest)
    ∙ ap (λ x. keep x ∷ steps (drop n (bytes_of es ++ rest))) (take_at (bytes_of es) rest n refl)
    ∙ ap (λ x. keep (bytes_of es) ∷ steps x) (drop_at (bytes_of es) rest n refl)

steps-joined : (x : List ℕ) (xs : List (List ℕ)) → Written (x ∷ xs) → steps (joined (x ∷ xs)) ≡ keep x ∷ steps (joined xs)
unfolding Written joined
steps-joined x xs w =
    let e = w.0.2 in
    ap (λ y. steps (y ++ joined xs)) e ∙ steps_sheet w.0.0 w.0.1 (joined xs) ∙ ap (λ y. keep y ∷ steps (joined xs)) (sym e)

pub written_kept : (xs : List (List ℕ)) → Written xs → kept (joined xs) ≡ joined xs
unfolding kept_in joined Written
written_kept [] w = ap kept_in steps-nil
written_kept (x ∷ xs) w = ap kept_in (steps-joined x xs w) ∙ ap (λ y. x ++ y) (written_kept xs w.1)

pub written_whole : (xs : List (List ℕ)) → Written xs → (at : ℕ) → stretches_in at 0 (steps (joined xs)) ≡ []
unfolding stretches_in joined Written
written_whole [] w at = ap (stretches_in at 0) steps-nil
written_whole (x ∷ xs) w at = ap (stretches_in at 0) (steps-joined x xs w) ∙ written_whole xs w.1 (at + length x)

pub sheets_written : (xs : List (List ℕ)) → AllSheets xs → Written xs
unfolding AllSheets Written
sheets_written [] a = tt
sheets_written (x ∷ xs) a =
    let r = a.1 in
    ((r.0, reads_well x r.0 r.1 r.2, reads_bytes x a.0 r.0 r.1 r.2), sheets_written xs a.2)

-- ---- what was kept is such a file

bytes_drop : (s : List ℕ) (n : ℕ) → Bytes s → Bytes (drop n s)
bytes_drop s n b i = rw (get_or-drop n s i 0) (b (n + i))

pub sheet_there : (s : List ℕ) → Bytes s → (es : List Entry) (n : ℕ) → read_sheet s ≡ sheet es n → WellFormed start es × (take n s ≡ bytes_of es)
sheet_there s b es n q =
    let r = well-from (stored_at s) (stored_steady s) (suc (length s - 0)) start 0 0 es n (sym (read-start s) ∙ q) in
    let split = stand-bytes s b es 0 0 r.1 in
    (r.0, ap (take n) split ∙ take_at (bytes_of es) (drop (0 + length (bytes_of es)) s) n (omega (arith, r.2)))

pub kept_written : (s : List ℕ) (ts : List Step) → Walked s ts → Bytes s → (xs : List (List ℕ)) × Written xs × (kept_in ts ≡ joined xs)
unfolding kept_in joined Written
kept_written _ _ at-end b = ([], tt, refl)
kept_written _ _ (kept_one s es n rest q w) b =
    let t = sheet_there s b es n q in
    let r = kept_written (drop n s) rest w (bytes_drop s n b) in
    (take n s ∷ r.0, ((es, t.0, t.1), r.1), ap (λ x. take n s ++ x) r.2)
kept_written _ _ (lost_one s x rest h q w) b = kept_written (drop 1 s) rest w (bytes_drop s 1 b)

-- ---- where the walk arrives

kept_append : (ts us : List Step) → kept_in (ts ++ us) ≡ kept_in ts ++ kept_in us
unfolding kept_in
kept_append [] us = refl
kept_append (keep x ∷ ts) us = ap (λ y. x ++ y) (kept_append ts us) ∙ sym (append_assoc x (kept_in ts) (kept_in us))
kept_append (lose ∷ ts) us = kept_append ts us

dropped_append : (ts us : List Step) (at : ℕ) → dropped_at at (ts ++ us) ≡ dropped_at at ts ++ dropped_at (at + spanned ts) us
unfolding dropped_at spanned
dropped_append [] us at = ap (λ k. dropped_at k us) (sym (add-zero at))
dropped_append (keep x ∷ ts) us at =
    let e : at + length x + spanned ts ≡ at + (length x + spanned ts) = omega arith in
    dropped_append ts us (at + length x) ∙ ap (λ k. dropped_at (at + length x) ts ++ dropped_at k us) e
dropped_append (lose ∷ ts) us at =
    let e : at + 1 + spanned ts ≡ at + (1 + spanned ts) = omega arith in
    ap (λ l. at ∷ l) (dropped_append ts us (at + 1) ∙ ap (λ k. dropped_at (at + 1) ts ++ dropped_at k us) e)

spanned-append : (ts : List Step) (t : Step) → spanned (ts ++ (t ∷ [])) ≡ spanned ts + spanned (t ∷ [])
unfolding spanned
spanned-append [] t = sym (zero-add (spanned (t ∷ [])))
spanned-append (keep x ∷ ts) t = let r = spanned-append ts t in omega arith
spanned-append (lose ∷ ts) t = let r = spanned-append ts t in omega arith

module _ (file : List ℕ) (before : List Step) (a : ℕ) (g : Arrives file before a) where
  -- one step on
  further : (t : Step) (n : ℕ) → spanned (t ∷ []) ≡ n → steps (drop a file) ≡ t ∷ steps (drop n (drop a file))
      → Arrives file (before ++ (t ∷ [])) (a + n)
  further t n m q =
      record {
        took = omega (arith, spanned-append before t, g.took, m);
        goes =
            g.goes ∙ ap (λ ts. before ++ ts) (q ∙ ap (λ s. t ∷ steps s) (drop-drop n a file))
            ∙ sym (append_assoc before (t ∷ []) (steps (drop (a + n) file)));
      }

  module _ (es : List Entry) (n : ℕ) (q : read_sheet (drop a file) ≡ sheet es n) where
    on : steps file ≡ before ++ (keep (take n (drop a file)) ∷ steps (drop (a + n) file))
    on = g.goes ∙ ap (λ ts. before ++ ts)
        (steps_keep (drop a file) es n q ∙ ap (λ s. keep (take n (drop a file)) ∷ steps s) (drop-drop n a file))

    pub arrived-keeps : kept file ≡ kept_in before ++ (take n (drop a file) ++ kept (drop (a + n) file))
    unfolding kept_in
    arrived-keeps = ap kept_in on ∙ kept_append before (keep (take n (drop a file)) ∷ steps (drop (a + n) file))

    pub arrived-drops : dropped_at 0 (steps file) ≡ dropped_at 0 before ++ dropped_at (a + n) (steps (drop (a + n) file))
    unfolding dropped_at
    arrived-drops =
        let l = length-take-le n (drop a file) (sheet_bounds (drop a file) es n q).1 in
        let e : 0 + spanned before + length (take n (drop a file)) ≡ a + n = omega (arith, g.took) in
        ap (dropped_at 0) on ∙ dropped_append before (keep (take n (drop a file)) ∷ steps (drop (a + n) file)) 0
        ∙ ap (λ k. dropped_at 0 before ++ dropped_at k (steps (drop (a + n) file))) e

pub met : (file : List ℕ) (i : ℕ) (s : List ℕ) (ts : List Step) → Walked s ts → (before : List Step) (a : ℕ) → Arrives file before a
    → drop a file ≡ s → a ≤ i → i < a + length s → Met file i
unfolding spanned
met file i _ _ at-end before a g e h k = absurd (omega arith)
met file i _ _ (kept_one s es n rest q w) before a g e h k =
    let b = sheet_bounds s es n q in
    let there : read_sheet (drop a file) ≡ sheet es n = ap read_sheet e ∙ q in
    let l = length-take-le n s b.1 in
    let d = length-drop n s in
    elim (dec_lt a i) [
      | no same ↦ let z : a ≡ i = omega arith in arrived before (rw (← z) g)
      | yes past ↦ elim (dec_lt i (a + n)) [
        | yes in-it ↦ inside before a es n g there past in-it
        | no behind ↦
            let r = further file before a g (keep (take n s)) n (omega arith)
            (ap steps e ∙ steps_keep s es n q ∙ ap (λ x. keep (take n s) ∷ steps (drop n x)) (sym e)) in
            met file i (drop n s) rest w (before ++ (keep (take n s) ∷ [])) (a + n) r
            (sym (drop-drop n a file) ∙ ap (drop n) e) (omega arith) (omega arith)
      ]
    ]
met file i _ _ (lost_one s x rest m q w) before a g e h k =
    let d = length-drop 1 s in
    elim (dec_lt a i) [
      | no same ↦ let z : a ≡ i = omega arith in arrived before (rw (← z) g)
      | yes past ↦
          let r = further file before a g lose 1 refl (ap steps e ∙ steps_lose s x m q ∙ ap (λ x. lose ∷ steps (drop 1 x)) (sym e)) in
          met file i (drop 1 s) rest w (before ++ (lose ∷ [])) (a + 1) r (sym (drop-drop 1 a file) ∙ ap (drop 1) e) (omega arith) (omega arith)
    ]

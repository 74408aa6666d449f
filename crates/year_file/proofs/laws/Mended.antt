-- What holds of a mended file, whatever it is (document 02, wish 11). The walk is that of `Walk`; `Claims` has the
-- other words.
use Rattle.std.specs.Prelude.{ℕ, ◌+◌, ◌/◌, ◌<◌, ◌≡◌, refl, List, [], ◌++◌, length, take, drop}
use Rattle.std.proofs.Common.{sym, ap, ◌∙◌, arith, zero-add}
use Rattle.sheet_types.specs.Refusals.{refusal}
use Rattle.sheet_format.specs.declared.kinds.Entry.{Entry}
use Rattle.sheet_format.specs.declared.kinds.Stage.TheVariants as S
use Rattle.sheet_format.specs.RecordEntries.{bytes_of}
use Rattle.big_endian.specs.Numbers.{Bytes}
use Rattle.sheet_rules.specs.Rules.{reached}
use Rattle.sheet_codec.specs.Sheets.{sheet, read_sheet}
use Rattle.sheet_codec.specs.RoundTrip.{Reads}
use Rattle.sheet_codec.specs.laws.WellFormed.{WellFormed}
use Rattle.sheet_codec.specs.OldSheets.{old_head, old_refused, old_whole_refused}
use Rattle.year_file.specs.Walk.{Step, steps, kept_in, kept, stretches_in, stretches, notes}
use Rattle.year_file.specs.Claims.{lost, read_notes, Apart, places_from, places_of, dropped_at, spanned, joined, AllSheets, Arrives, Met}
use Rattle.year_file.specs.laws.StepLaws.{walked, steps_lose}
use Rattle.year_file.proofs.laws.StretchLaws.{all-spanned, counted, apart, places, begun}
use Rattle.year_file.proofs.laws.NoteLaws.{length-notes, notes-read}
use Rattle.year_file.proofs.laws.KeptLaws.{written_kept, written_whole, sheets_written, kept_written, arrived-keeps, arrived-drops, met}

-- "Kept bytes and dropped bytes together are the input's length, each counted from its own list"
pub whole : (file : List ℕ) → length (kept file) + lost (stretches file) ≡ length file
whole file = counted 0 0 (steps file) ∙ zero-add (spanned (steps file)) ∙ all-spanned file (steps file) (walked file)

-- "apart and in order": each stretch has a byte at least, and bytes that were kept lie between it and the next
pub in_order : (file : List ℕ) → Apart 0 (stretches file) (length file)
in_order file = apart file (steps file) (walked file) 0 0 0 (length file) (omega arith) (omega arith)

-- "as 16 bytes, its start and its length, 8 each, big-endian": the stretches are read back from the notes of a file
-- that 64 bits count
pub noted : (file : List ℕ) → length file < 18446744073709551616 → read_notes (length (notes file) / 16) (notes file) ≡ stretches file
noted file h =
    let k : length (notes file) / 16 ≡ length (stretches file) = omega (arith, length-notes (stretches file)) in
    ap (λ n. read_notes n (notes file)) k ∙ notes-read (stretches file) 0 (length file) (in_order file) h

-- "each unbroken dropped stretch": their places are those of the dropped bytes, each once and in order
pub just_the_dropped : (file : List ℕ) → places_of (stretches file) ≡ dropped_at 0 (steps file)
unfolding places_from
just_the_dropped file = places 0 0 (steps file) (omega arith)

-- "a file of nothing but well-formed sheets .. comes out unchanged with no stretch"
pub unchanged : (sheets : List (List ℕ)) → AllSheets sheets → (kept (joined sheets) ≡ joined sheets) × (stretches (joined sheets) ≡ [])
unchanged sheets a = let w = sheets_written sheets a in (written_kept sheets w, written_whole sheets w 0)

-- "(one with an old head is none)": it is no sheet of such a file
pub old_is-none : (station first last f l : ℕ) (es : List Entry) → WellFormed (reached S.Head f l) es
    → Reads (old_head station first last ++ bytes_of es) → ⊥
old_is-none station first last f l es w r =
    let t = old_whole_refused station first last f l es w in
    let u = r.2 in
    let z : ◌≡◌ {A = ℕ} 0 1 = cc in
    omega arith

-- and where it stands first, a stretch begins
pub old_is_dropped : (station first last f l : ℕ) (es : List Entry) → WellFormed (reached S.Head f l) es → (rest : List ℕ)
    → stretches (old_head station first last ++ (bytes_of es ++ rest)) ≡ [] → ⊥
unfolding stretches_in
old_is_dropped station first last f l es w rest none =
    let file = old_head station first last ++ (bytes_of es ++ rest) in
    let t = steps_lose file (refusal 7 0) (omega arith) (old_refused station first last f l es w rest) in
    begun 1 0 (steps (drop 1 file)) (sym (ap (stretches_in 0 0) t) ∙ none)

-- what was kept, mended again, comes out unchanged
pub mended-again : (file : List ℕ) → Bytes file → (kept (kept file) ≡ kept file) × (stretches (kept file) ≡ [])
mended-again file b =
    let k = kept_written file (steps file) (walked file) b in
    rw k.2 (written_kept k.0 k.1, written_whole k.0 k.1 0)

-- a well-formed sheet that stands where the walk arrives is kept whole, and none of its bytes is dropped
pub arrived_kept : (file : List ℕ) (before : List Step) (a : ℕ) → Arrives file before a
    → (es : List Entry) (n : ℕ) → read_sheet (drop a file) ≡ sheet es n
    → (kept file ≡ kept_in before ++ (take n (drop a file) ++ kept (drop (a + n) file)))
    × (dropped_at 0 (steps file) ≡ dropped_at 0 before ++ dropped_at (a + n) (steps (drop (a + n) file)))
arrived_kept file before a g es n q = (arrived-keeps file before a g es n q, arrived-drops file before a g es n q)

-- the walk arrives at each place that lies inside no sheet that was kept
pub each_place : (file : List ℕ) (i : ℕ) → i < length file → Met file i
unfolding spanned
each_place file i h = met file i file (steps file) (walked file) [] 0 (record { took = refl; goes = refl }) refl (omega arith) (omega arith)

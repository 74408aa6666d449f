-- The walk as the code goes along it: what is still to be kept and noted, once put, gives what is to be left in each
-- buffer.
use Rattle.std.specs.Prelude.{ℕ, ◌+◌, ◌≤◌, ◌<◌, ◌≡◌, List, [], ◌∷◌, ◌++◌, take, drop}
use Rattle.std.proofs.Math.Path.{refl, ap}
use Rattle.std.proofs.Common.{sym, ◌∙◌, append_assoc, drop-drop}
use native.Mathlib.Omega.{arith}
use Rattle.std.proofs.Math.Decide.{dec_lt}
use Rattle.std.proofs.Math.ListN.{length, length-drop}
use Rattle.std.proofs.Math.Seq.{drop-length, length-take-le}
use Rattle.sheet_types.specs.declared.refusals.Refusal.{Refusal}
use Rattle.sheet_format.specs.declared.kinds.Entry.{Entry}
use Rattle.sheet_codec.specs.Sheets.{Sheet, sheet, refused, read_sheet}
use Rattle.decimal_text.specs.Texts.{Put}
use Rattle.decimal_text.specs.laws.TextLaws.{Putting, putting_start, putting-turn, putting-end}
use Rattle.year_file.specs.Leading.{leading, NoneBefore}
use Rattle.year_file.specs.laws.BoundLaws.{sheet_bounds}
use Rattle.year_file.specs.Walk.{keep, lose, steps, kept_in, kept, Stretch, ended, stretches_in, note_of, notes_of, notes}
use Rattle.year_file.specs.laws.StepLaws.{steps-nil, steps_keep, steps_lose}

-- the walk stands at `at`, `lost` bytes were dropped right before it, and what was kept and noted so far is put up to
-- k and m
pub record Walking (file sheets₀ dropped₀ sheets dropped : List ℕ) (at lost k m : ℕ) : Type 0 where
  pub within : at ≤ length file
  pub before : NoneBefore file at lost
  pub keeping : Putting sheets₀ 0 (kept file) sheets k (kept_in (steps (drop at file)))
  pub noting : Putting dropped₀ 0 (notes file) dropped m (notes_of (stretches_in at lost (steps (drop at file))))

pub walking_start : (file sheets dropped : List ℕ) → length sheets < 18446744073709551616 → length dropped < 18446744073709551616
    → Walking file sheets dropped sheets dropped 0 0 0 0
walking_start file sheets dropped h g =
    record {
      within = omega arith;
      before = record { within = omega arith; none = λ i a b. absurd (omega arith) };
      keeping = putting_start sheets 0 (kept file) (omega arith) h;
      noting = putting_start dropped 0 (notes file) (omega arith) g;
    }

-- ---- by the length of the sheet that stands there

none_there : (s : List ℕ) (w : Sheet) → read_sheet s ≡ w → leading w ≡ 0 → (r : Refusal) × (read_sheet s ≡ refused r)
none_there s (refused r) q e = (r, q)
none_there s (sheet es n) q e = absurd (let b = sheet_bounds s es n q in omega arith)

one_there : (s : List ℕ) (w : Sheet) (n : ℕ) → read_sheet s ≡ w → n ≡ leading w → 0 < n → (es : List Entry) × (read_sheet s ≡ sheet es n)
one_there s (refused r) n q e h = absurd (omega arith)
one_there s (sheet es m) n q e h = (es, q ∙ ap (sheet es) (sym e))

notes-append : (ts us : List Stretch) → notes_of (ts ++ us) ≡ notes_of ts ++ notes_of us
unfolding notes_of
notes-append [] us = refl
notes-append (t ∷ ts) us = ap (λ x. note_of t ++ x) (notes-append ts us) ∙ sym (append_assoc (note_of t) (notes_of ts) (notes_of us))

module _ (file sheets₀ dropped₀ sheets dropped : List ℕ) (at lost k m : ℕ) (f : Walking file sheets₀ dropped₀ sheets dropped at lost k m) where
  pub walking-lose : at < length file → 0 ≡ leading (read_sheet (drop at file)) → Walking file sheets₀ dropped₀ sheets dropped (at + 1) (lost + 1) k m
  unfolding kept_in stretches_in
  walking-lose h e =
      let r = none_there (drop at file) (read_sheet (drop at file)) refl (sym e) in
      let on : steps (drop at file) ≡ lose ∷ steps (drop (at + 1) file) =
      steps_lose (drop at file) r.0 (omega (arith, length-drop at file)) r.1 ∙ ap (λ s. lose ∷ steps s) (drop-drop 1 at file) in
      record {
        within = omega arith;
        before = record {
          within = omega (arith, f.before.within);
          none = λ i a b. elim (dec_lt i at) [
            | yes l ↦ f.before.none i l (omega arith)
            | no l ↦ let z : i ≡ at = omega arith in rw z (sym e)
          ];
        };
        keeping = rw on at f.keeping;
        noting = rw on at f.noting;
      }

  module _ (n : ℕ) (e : n ≡ leading (read_sheet (drop at file))) (h : 0 < n) where
    here : (es : List Entry) × (read_sheet (drop at file) ≡ sheet es n)
    here = one_there (drop at file) (read_sheet (drop at file)) n refl e h

    pub walking-bounds : at + n ≤ length file
    walking-bounds = let b = sheet_bounds (drop at file) here.0 n here.1 in omega (arith, length-drop at file, f.within)

    on : steps (drop at file) ≡ keep (take n (drop at file)) ∷ steps (drop (at + n) file)
    on = steps_keep (drop at file) here.0 n here.1 ∙ ap (λ s. keep (take n (drop at file)) ∷ steps s) (drop-drop n at file)

    pub walking-keep : (new : List ℕ) (m' : ℕ) → Put dropped m (notes_of (ended at lost)) new m' → (more : List ℕ) (k' : ℕ)
        → Put sheets k (take n (drop at file)) more k' → Walking file sheets₀ dropped₀ more new (at + n) 0 k' m'
    unfolding kept_in stretches_in
    walking-keep new m' noted more k' keeps =
        let l = length-take-le n (drop at file) (sheet_bounds (drop at file) here.0 n here.1).1 in
        let rest = steps (drop (at + n) file) in
        let split : notes_of (stretches_in at lost (steps (drop at file))) ≡ notes_of (ended at lost) ++ notes_of (stretches_in (at + n) 0 rest) =
        ap (λ ts. notes_of (stretches_in at lost ts)) on ∙ notes-append (ended at lost) (stretches_in (at + length (take n (drop at file))) 0 rest)
        ∙ ap (λ j. notes_of (ended at lost) ++ notes_of (stretches_in (at + j) 0 rest)) l in
        record {
          within = walking-bounds;
          before = record { within = omega arith; none = λ i a b. absurd (omega arith) };
          keeping = putting-turn sheets₀ 0 (kept file) sheets k (take n (drop at file)) (kept_in rest) more k' (rw on at f.keeping) keeps;
          noting =
              putting-turn dropped₀ 0 (notes file) dropped m (notes_of (ended at lost)) (notes_of (stretches_in (at + n) 0 rest)) new m'
              (rw split at f.noting) noted;
        }

  module _ (h : length file ≤ at) where
    over : steps (drop at file) ≡ []
    over =
        let e : at ≡ length file = omega (arith, f.within) in
        ap (λ j. steps (drop j file)) e ∙ ap steps (drop-length file) ∙ steps-nil

    pub walking-kept : Put sheets₀ 0 (kept file) sheets k
    unfolding kept_in
    walking-kept = putting-end sheets₀ 0 (kept file) sheets k (rw over at f.keeping)

    pub walking-noted : (new : List ℕ) (m' : ℕ) → Put dropped m (notes_of (ended at lost)) new m' → Put dropped₀ 0 (notes file) new m'
    unfolding stretches_in
    walking-noted new m' p = f.noting.rest new m' (rw over p)

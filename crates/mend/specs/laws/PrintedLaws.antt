-- The lines of a file's notes are those of its stretches; and what the program's ways leave.
use Rattle.std.specs.Prelude.{ℕ, zero, suc, ◌+◌, ◌-◌, ◌*◌, ◌/◌, ◌≤◌, ◌<◌, min, ◌≡◌, refl, List, [], ◌∷◌, ◌++◌, length, take, drop, Err, Ok, Result}
use Rattle.std.proofs.Common.{sym, ap, ◌∙◌, append_assoc, append-nil, arith, le-ltb, lt-ltb, length-append, length-drop, take_at, drop_at, drop-drop}
use Rattle.sheet_types.specs.declared.refusals.Refusal.{Refusal}
use Rattle.decimal_text.specs.Texts.{Put, Counts}
use Rattle.decimal_text.specs.Rows.{rows, part, each_part}
use Rattle.decimal_text.specs.laws.RowLaws.{put_as}
use Rattle.listing_lines.specs.Lines.{refusal_line}
use Rattle.program_io.specs.Inputs.{Read}
use Rattle.program_io.proofs.laws.InputLaws.{read_same}
use Rattle.program_io.specs.laws.OutputLaws.{put-cut}
use Rattle.year_file.specs.Walk.{Stretch, kept, stretches, note_of, notes_of, notes}
use Rattle.year_file.specs.Mending.{answer_to, room_after}
use Rattle.big_endian.specs.Numbers.{eight_at}
use Rattle.year_file.specs.Claims.{Apart}
use Rattle.year_file.proofs.laws.Mended.{in_order}
use Rattle.year_file.proofs.laws.NoteLaws.{length-notes, first_back, second_back}
use Rattle.year_file.proofs.laws.AnswerLaws.{mended_inv}
use Rattle.mend.specs.Printed.{dropped_line, lines_of, note_line, tooLong, output, error}

-- ---- the line of each note

rows_same : (f g : ℕ → List ℕ) → ((k : ℕ) → f k ≡ g k) → (n : ℕ) → rows f n ≡ rows g n
unfolding rows
rows_same f g e zero = refl
rows_same f g e (suc n) = rw (rows_same f g e n, e n)

rows-first : (f : ℕ → List ℕ) (n : ℕ) → rows f (suc n) ≡ f 0 ++ rows (λ k. f (suc k)) n
unfolding rows
rows-first f zero = sym (append-nil (f 0))
rows-first f (suc n) = ap (λ x. x ++ f (suc n)) (rows-first f n) ∙ append_assoc (f 0) (rows (λ k. f (suc k)) n) (f (suc n))

module _ (t : Stretch) (rest : List ℕ) where
  first_part : part 16 (note_of t ++ rest) 0 ≡ note_of t
  first_part = take_at (note_of t) rest 16 refl

  later-part : (k : ℕ) → part 16 (note_of t ++ rest) (suc k) ≡ part 16 rest k
  later-part k =
      let e : suc k * 16 ≡ 16 + k * 16 = omega arith in
      ap (λ n. take 16 (drop n (note_of t ++ rest))) e ∙ ap (take 16) (sym (drop-drop (k * 16) 16 (note_of t ++ rest)))
      ∙ ap (λ l. take 16 (drop (k * 16) l)) (drop_at (note_of t) rest 16 refl)

each_line : (ts : List Stretch) (low end : ℕ) → Apart low ts end → end < 18446744073709551616
    → rows (λ k. note_line (part 16 (notes_of ts) k)) (length ts) ≡ lines_of ts
unfolding notes_of lines_of Apart note_line rows
each_line [] low end a h = refl
each_line (t ∷ ts) low end a h =
    rows-first (λ k. note_line (part 16 (note_of t ++ notes_of ts) k)) (length ts)
    ∙ ap (λ x. note_line x ++ rows (λ k. note_line (part 16 (note_of t ++ notes_of ts) (suc k))) (length ts)) (first_part t (notes_of ts))
    ∙ ap (λ x. note_line (note_of t) ++ x)
    (rows_same (λ k. note_line (part 16 (note_of t ++ notes_of ts) (suc k))) (λ k. note_line (part 16 (notes_of ts) k))
    (λ k. ap note_line (later-part t (notes_of ts) k)) (length ts) ∙ each_line ts (t.from + t.long + 1) end a.3 h)
    ∙ ap (λ x. x ++ lines_of ts)
    (ap (λ v. dropped_line v (eight_at (note_of t) 8)) (first_back t.from t.long (omega (arith, a.2)))
    ∙ ap (dropped_line t.from) (second_back t.from t.long (omega (arith, a.2))))

pub note_lines : (file : List ℕ) → length file < 18446744073709551616 → each_part 16 note_line (notes file) ≡ lines_of (stretches file)
note_lines file h =
    let k : length (notes file) / 16 ≡ length (stretches file) = omega (arith, length-notes (stretches file)) in
    ap (rows (λ k. note_line (part 16 (notes file) k))) k ∙ each_line (stretches file) 0 (length file) (in_order file) h

-- ---- the ways of the program

module _ (file : List ℕ) (a b : ℕ) where
  pub too_long : a ≤ length file → ([] ≡ output a b file) × (tooLong a ≡ error a b file)
  unfolding output error
  too_long h = rw (le-ltb (length file) a h) (refl, refl)

  module _ (h : length file < a) where
    pub refused-out : (r : Refusal) → Err r ≡ answer_to a b file → ([] ≡ output a b file) × (refusal_line r.number r.place ≡ error a b file)
    unfolding output error
    refused-out r e = rw (lt-ltb (length file) a h, ← e) (refl, refl)

    mended-out : (k n : ℕ) → Ok (k, n) ≡ answer_to a b file → (kept file ≡ output a b file) × (lines_of (stretches file) ≡ error a b file)
    unfolding output error
    mended-out k n e = rw (lt-ltb (length file) a h, ← e) (refl, refl)

-- the first n bytes of a buffer that begins with a text of n bytes
begins : (room text new : List ℕ) (n : ℕ) → n ≡ length text → length text ≤ length room → new ≡ text ++ drop (length text) room
    → (take n new ≡ text) × Counts n new
begins room text new n e h q =
    let l : length new ≡ length text + (length room - length text) =
    ap length q ∙ length-append text (drop (length text) room) ∙ ap (λ k. length text + k) (length-drop (length text) room) in
    let t : take n new ≡ text = ap (take n) q ∙ take_at text (drop (length text) room) n (sym e) in
    (t, (omega arith, e ∙ ap length (sym t)))

-- a file that was mended: what its buffers begin with
module _ (file sheets room sheets' room' : List ℕ) (r : Result (ℕ × ℕ) Refusal) (q : r ≡ answer_to (length sheets) (length room) file) (k n : ℕ) (m : r ≡ Ok (k, n))
    (x : sheets' ≡ room_after r (kept file) sheets) (y : room' ≡ room_after r (notes file) room) where
  facts : (k ≡ length (kept file)) × (n ≡ length (notes file)) × (length (kept file) ≤ length sheets) × (length (notes file) ≤ length room)
  facts = mended_inv (length sheets) (length room) file k n (sym m ∙ q)

  pub kept-first : (take k sheets' ≡ kept file) × Counts k sheets'
  kept-first = begins sheets (kept file) sheets' k facts.0 facts.2 (x ∙ ap (λ z. room_after z (kept file) sheets) m)

  pub notes-first : (take n room' ≡ notes file) × Counts n room'
  notes-first = begins room (notes file) room' n facts.1 facts.3 (y ∙ ap (λ z. room_after z (notes file) room) m)

  pub all_told : length file < length sheets → length file < 18446744073709551616 → (old new : List ℕ) (end : ℕ)
      → Put old 0 (each_part 16 note_line (take n room')) new end
      → (take k sheets' ≡ output (length sheets) (length room) file) × Put old 0 (error (length sheets) (length room) file) new end
  all_told h g old new end p =
      let o = mended-out file (length sheets) (length room) h k n (sym m ∙ q) in
      let e : each_part 16 note_line (take n room') ≡ error (length sheets) (length room) file =
      ap (each_part 16 note_line) notes-first.0 ∙ note_lines file g ∙ o.1 in
      (kept-first.0 ∙ o.0, put_as _ _ old 0 new end e p)

-- ---- what was read

-- a file that fills the array is too long, and so is the whole input; any other was read whole
module _ (array : List ℕ) (n : ℕ) (c : n ≤ length array) (l : length array ≡ 196608) (input : List ℕ) (q : Read input array n) where
  same-output : output 196608 196608 (take n array) ≡ output 196608 196608 input
  same-output = read_same input array n q (output 196608 196608) [] (λ s k. sym (too_long s 196608 196608 (omega arith)).0) c

  same-error : error 196608 196608 (take n array) ≡ error 196608 196608 input
  same-error = read_same input array n q (error 196608 196608) (tooLong 196608) (λ s k. sym (too_long s 196608 196608 (omega arith)).1) c

  pub sheets-out : (a b : ℕ) (text : List ℕ) → a ≡ 196608 → b ≡ 196608 → text ≡ output a b (take n array) → text ≡ output 196608 196608 input
  sheets-out a b text e f p = p ∙ ap (λ x. output x b (take n array)) e ∙ ap (λ x. output 196608 x (take n array)) f ∙ same-output

  pub text_out : (a b end r : ℕ) (old new : List ℕ) → a ≡ 196608 → b ≡ 196608 → length old ≡ 196608 → Put old 0 (error a b (take n array)) new end
      → r ≡ min end (length new) → take r new ≡ take 196608 (error 196608 196608 input)
  text_out a b end r old new e f k p m =
      (put-cut (error a b (take n array)) old new end p (omega arith) r m).0
      ∙ ap (λ j. take j (error a b (take n array))) k
      ∙ ap (take 196608) (ap (λ x. error x b (take n array)) e ∙ ap (λ x. error 196608 x (take n array)) f ∙ same-error)

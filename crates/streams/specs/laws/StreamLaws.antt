-- The ways of a step: by the first byte, and by the answer.
use Rattle.std.specs.Prelude.{◌≡◌, Bool, List, [], ◌∷◌, ℕ, ◌≤◌, ◌<◌, length, take, Result, Ok, Err}
use Rattle.std.proofs.Math.Path.{refl}
use Rattle.std.proofs.Common.{sym, ap, ◌∙◌, arith, length-take-le}
use Rattle.std.proofs.Math.Bool.{true, false}
use borrow.Author.Tests.{eq-eqb, ne_eqb}
use Rattle.sheet_types.specs.declared.refusals.Refusal.{Refusal}
use Rattle.request_answers.specs.Sheet.{answer_to, buffer_for, sines_for, star_answer, star_buffer, star_sines, Begins, stored_by}
use Rattle.request_answers.specs.laws.SheetLaws.{Fits, fits_written, fits, star-fits}
use Rattle.decimal_text.specs.Texts.{Put, Counts}
use Rattle.decimal_text.specs.laws.TextLaws.{put_nil, put_then}
use Rattle.streams.specs.Streams.{eclipse_kind, star_kind, size_from, is_star, answer_for, room_for, table_for, sheet_for, told_line, stop_line, is_shape, refusal_told, told_by, told_for, stops_by, stops_for}

-- ---- the first byte

module _ (first : ℕ) where
  pub eclipse-size : first ≡ 2 → 115 ≡ size_from first
  unfolding size_from
  eclipse-size e = rw (eq-eqb first eclipse_kind e) refl

  module _ (n : first ≡ 2 → ⊥) where
    pub star-size : first ≡ 5 → 79 ≡ size_from first
    unfolding size_from
    star-size e = rw (ne_eqb first eclipse_kind n, eq-eqb first star_kind e) refl

    pub no_size : (first ≡ 5 → ⊥) → 1 ≡ size_from first
    unfolding size_from
    no_size m = rw (ne_eqb first eclipse_kind n, ne_eqb first star_kind m) refl

pub none-is-star : (s : List ℕ) → length s ≡ 0 → false ≡ is_star s
none-is-star [] h = refl
none-is-star (x ∷ s) h = absurd (omega arith)

-- ---- the answer by the first byte

module _ (s sines room : List ℕ) where
  -- what an answer, the sheet's buffer and that for table S are
  abbrev pub AnswerIs : Result ℕ Refusal → List ℕ → List ℕ → Type 0
  AnswerIs a left table = (a ≡ answer_for s sines room) × ((left ≡ room_for s sines room) × (table ≡ table_for s sines))

  module _ (a : Result ℕ Refusal) (left table : List ℕ) where
    pub star-way : is_star s ≡ true → a ≡ star_answer s sines room → left ≡ star_buffer s sines room → table ≡ star_sines s sines → AnswerIs a left table
    unfolding answer_for room_for table_for
    star-way e p q t = rw e (p, (q, t))

    pub eclipse-way : is_star s ≡ false → a ≡ answer_to s sines room → left ≡ buffer_for s sines room → table ≡ sines_for s sines → AnswerIs a left table
    unfolding answer_for room_for table_for
    eclipse-way e p q t = rw e (p, (q, t))

    any-fits : length left ≡ length room → AnswerIs a left table → Fits a left
    unfolding answer_for
    any-fits l m = by (is_star s) refl
      where
        by : (b : Bool) → is_star s ≡ b → Fits a left
        by true e = star-fits s sines room a (rw e at m.0) left l
        by false e = fits s sines room a (rw e at m.0) left l

    -- ---- what `step` promises of request `count` at byte `at`: n bytes of the sheet's buffer, r of the line's, and
    -- whether the stream stops
    module _ (count at : ℕ) where
      abbrev Promised : ℕ → List ℕ → List ℕ → ℕ → Bool → Type 0
      Promised n line after r stops = Begins n left (sheet_for s sines room)
          × (Put line 0 (told_for count at s sines room) after r
          × ((stops ≡ stops_for s sines room)
          × ((left ≡ room_for s sines room) × ((table ≡ table_for s sines) × Counts n left))))

      module _ (m : AnswerIs a left table) where
        sheet-is : stored_by a left ≡ sheet_for s sines room
        unfolding sheet_for
        sheet-is = rw (m.0, m.1.0)

        told_is : told_by count at a ≡ told_for count at s sines room
        unfolding told_for
        told_is = rw m.0

        stops-is : stops_by a ≡ stops_for s sines room
        unfolding stops_for
        stops-is = rw m.0

        pub step-written : (n : ℕ) → a ≡ Ok n → length left ≡ length room → (line : List ℕ) → Promised n line line 0 false
        step-written n e l line =
            let h : n ≤ length left = fits_written a left n e (any-fits l m) in
            let t : take n left ≡ sheet_for s sines room = ap (λ (b : Result ℕ Refusal). stored_by b left) (sym e) ∙ sheet-is in
            let u : [] ≡ told_for count at s sines room = ap (told_by count at) (sym e) ∙ told_is in
            let v : false ≡ stops_for s sines room = ap stops_by (sym e) ∙ stops-is in
            let k = sym (length-take-le n left h) in
            (record { count = k ∙ ap length t; bytes = t }, (rw (← u) (put_nil line 0 (omega arith)), (v, (m.1.0, (m.1.1, (h, k))))))

        pub step-refused : (x : Refusal) → a ≡ Err x → (line after : List ℕ) (r : ℕ) → Put line 0 (refusal_told count at x) after r
            → (stops : Bool) → stops ≡ is_shape x → Promised 0 line after r stops
        step-refused x e line after r p stops f =
            let t : [] ≡ sheet_for s sines room = ap (λ (b : Result ℕ Refusal). stored_by b left) (sym e) ∙ sheet-is in
            let u : refusal_told count at x ≡ told_for count at s sines room = ap (told_by count at) (sym e) ∙ told_is in
            let v : is_shape x ≡ stops_for s sines room = ap stops_by (sym e) ∙ stops-is in
            (record { count = ap length t; bytes = t }, (rw (← u) p, (f ∙ v, (m.1.0, (m.1.1, (omega arith, refl))))))

-- ---- the report of a refusal

module _ (count at : ℕ) (x : Refusal) (old mid : List ℕ) (q : ℕ) (p : Put old 0 (told_line count x) mid q) where
  pub told-shape : is_shape x ≡ true → length old < 18446744073709551616 → (new : List ℕ) (r : ℕ) → Put mid q (stop_line at) new r
      → Put old 0 (refusal_told count at x) new r
  unfolding refusal_told
  told-shape e h new r w = rw e (put_then old mid new 0 q r (told_line count x) (stop_line at) h p w)

  pub told-other : is_shape x ≡ false → Put old 0 (refusal_told count at x) mid q
  unfolding refusal_told
  told-other e = rw e p

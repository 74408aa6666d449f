-- Every instant that is read is a day of the calendar and a time of that day.
use Rattle.std.specs.Prelude.{◌≡◌, refl, Bool, true, false, cond, ◌&&◌, ◌||◌, List, [], ◌∷◌, ℕ, zero, suc, ◌+◌, ◌≤◌, leb, eqb, ltb, get_or, Option, None, Some, Result, Err, Ok, Option}
use Rattle.std.proofs.Common.{subst, arith, leb-true, ltb-false}
use Rattle.std.proofs.lemmas.Bool.{eqb-false}
use Rattle.request_text.specs.declared.instants.Wrong.{Wrong}
use Rattle.request_format.specs.Rows.{letters}
use Rattle.tokens.specs.declared.Class.TheVariants as C
use Rattle.tokens.specs.Text.{is_in, all_of, lines_of}
use Rattle.request_text.specs.Lines.{word_in, after_word, names_instant, names_offset}
use Rattle.calendar.specs.declared.Scale.{Scale}
use Rattle.calendar.specs.declared.Scale.TheVariants as S
use Rattle.calendar.specs.declared.Instant.{Instant}
use Rattle.request_text.specs.Forms.{fits, has_form, digit_at, two_at}
use Rattle.rounding.specs.laws.Tests.{both}
use Rattle.calendar.specs.Calendar.{days_in, is_day}
use Rattle.request_text.specs.Instants.{year_of, is_date, time_form, is_time, hundredths_of, instant_at, in_scale, scaled, timed, instant_of, seconds_in}
use Rattle.request_text.specs.Told.{over_lines, after_name, taken, told_after, instant_in, offset_taken, offset_after, offset_in, with_offset, told_in}

pub record InRange (x : Instant) : Type 0 where
  pub year : (1583 ≤ x.year) × (x.year ≤ 9999)
  pub month : (1 ≤ x.month) × (x.month ≤ 12)
  pub day : (1 ≤ x.day) × (x.day ≤ days_in x.year x.month)
  pub hundredths : x.hundredths ≤ 8639999
  -- where TAI less UTC was typed
  pub offset : (x.offset ≡ 0 → ⊥) → (10 ≤ x.offset) × (x.offset ≤ 99) × (1972 ≤ x.year)

-- ---- digits

-- where a form has a digit, or has ended, the word has one, or has ended
digit_le : (form word : List ℕ) (k : ℕ) → has_form form word ≡ true → get_or form k 48 ≡ 48 → digit_at word k ≤ 9
unfolding has_form
digit_le [] [] k e q = omega arith
digit_le [] (x ∷ w) k e q = let z : ◌≡◌ {A = ℕ} 0 1 = cc in absurd (omega arith)
digit_le (p ∷ ps) [] k e q = omega arith
digit_le (p ∷ ps) (x ∷ w) zero e q =
    let d : is_in C.Digit x ≡ true = subst (λ (n : ℕ). fits n x ≡ true) q (both (fits p x) (has_form ps w) e).0 in
    omega (arith, leb-true x 57 (both (leb 48 x) (leb x 57) d).1)
digit_le (p ∷ ps) (x ∷ w) (suc k) e q = digit_le ps w k (both (fits p x) (has_form ps w) e).1 q

two_le : (form word : List ℕ) (k : ℕ) → has_form form word ≡ true → get_or form k 48 ≡ 48 → get_or form (k + 1) 48 ≡ 48 → two_at word k ≤ 99
unfolding two_at
two_le form word k e a b = omega (arith, digit_le form word k e a, digit_le form word (k + 1) e b)

decimals_le : (w : List ℕ) → time_form w ≡ true → two_at w 9 ≤ 99
unfolding time_form
decimals_le w e = by (has_form (letters "00:00:00") w) refl (has_form (letters "00:00:00.0") w) refl (has_form (letters "00:00:00.00") w) refl e
  where
    by : (a : Bool) → has_form (letters "00:00:00") w ≡ a → (b : Bool) → has_form (letters "00:00:00.0") w ≡ b → (c : Bool)
        → has_form (letters "00:00:00.00") w ≡ c → (a || b || c) ≡ true → two_at w 9 ≤ 99
    by true p b q c r t = two_le (letters "00:00:00") w 9 p refl refl
    by false p true q c r t = two_le (letters "00:00:00.0") w 9 q refl refl
    by false p false q true r t = two_le (letters "00:00:00.00") w 9 r refl refl
    by false p false q false r t = let z : ◌≡◌ {A = ℕ} 0 1 = cc in absurd (omega arith)

-- ---- a date and a time

date_range : (w time : List ℕ) (scale : Scale) → is_date w ≡ true → is_time time ≡ true → InRange (instant_at w time scale)
unfolding is_date is_day is_time hundredths_of instant_at
date_range w time scale d t =
    let f = both (has_form (letters "0000-00-00") w) (is_day (year_of w) (two_at w 5) (two_at w 8)) d in
    let n = both (leb 1583 (year_of w) && leb 1 (two_at w 5) && leb (two_at w 5) 12 && leb 1 (two_at w 8)) (leb (two_at w 8) (days_in (year_of w) (two_at w 5))) f.1 in
    let o = both (leb 1583 (year_of w) && leb 1 (two_at w 5) && leb (two_at w 5) 12) (leb 1 (two_at w 8)) n.0 in
    let l = both (leb 1583 (year_of w) && leb 1 (two_at w 5)) (leb (two_at w 5) 12) o.0 in
    let y = both (leb 1583 (year_of w)) (leb 1 (two_at w 5)) l.0 in
    let s = both (time_form time && leb (two_at time 0) 23 && leb (two_at time 3) 59) (leb (two_at time 6) 59) t in
    let m = both (time_form time && leb (two_at time 0) 23) (leb (two_at time 3) 59) s.0 in
    let h = both (time_form time) (leb (two_at time 0) 23) m.0 in
    record {
      year = (
        leb-true 1583 (year_of w) y.0,
        omega (arith, two_le (letters "0000-00-00") w 0 f.0 refl refl, two_le (letters "0000-00-00") w 2 f.0 refl refl),
      );
      month = (leb-true 1 (two_at w 5) y.1, leb-true (two_at w 5) 12 l.1);
      day = (leb-true 1 (two_at w 8) o.1, leb-true (two_at w 8) (days_in (year_of w) (two_at w 5)) n.1);
      hundredths =
          omega (
            arith,
            leb-true (two_at time 0) 23 h.1,
            leb-true (two_at time 3) 59 m.1,
            leb-true (two_at time 6) 59 s.1,
            decimals_le time h.0,
          );
      offset = λ k. absurd (k refl);
    }

-- ---- the words, and a text

-- what is read is reported
abbrev ReadInRange : Option Instant → Type 0
ReadInRange None = Unit {0}
ReadInRange (Some x) = InRange x

abbrev ToldInRange : Result (Option Instant) (ℕ × Wrong) → Type 0
ToldInRange (Err (i, wrong)) = Unit {0}
ToldInRange (Ok None) = Unit {0}
ToldInRange (Ok (Some x)) = InRange x

either : (b : Bool) (r : Option Instant) → (b ≡ true → ReadInRange r) → ReadInRange (cond b r None)
either true r h = h refl
either false r h = tt

scale_range : (date time w : List ℕ) → is_date date ≡ true → is_time time ≡ true → ReadInRange (in_scale date time w)
unfolding in_scale
scale_range date time w d t = by (has_form (letters "ET") w) (has_form (letters "UT") w)
  where
    by : (e u : Bool)
        → ReadInRange (cond e (Some (instant_at date time S.Ephemeris)) (cond u (Some (instant_at date time S.Universal)) None))
    by true u = date_range date time S.Ephemeris d t
    by false true = date_range date time S.Universal d t
    by false false = tt

words_range : (s : List ℕ) → ReadInRange (instant_of s)
unfolding instant_of timed scaled
words_range s =
    let r = after_word s in
    either (is_date (word_in s)) (timed (word_in s) r)
    (λ d. either (is_time (word_in r)) (scaled (word_in s) (word_in r) (after_word r))
    (λ t. either (all_of C.Blank (after_word (after_word r))) (in_scale (word_in s) (word_in r) (word_in (after_word r)))
    (λ b. scale_range (word_in s) (word_in r) (word_in (after_word r)) d t)))

pub read_in_range : (s : List ℕ) (x : Instant) → instant_of s ≡ Some x → InRange x
read_in_range s x e = subst ReadInRange e (words_range s)

taken_range : (i : ℕ) (r : Option Instant) (old : Option Instant) → ReadInRange r → ToldInRange (taken i r old)
taken_range i None old h = tt
taken_range i (Some x) None h = h
taken_range i (Some x) (Some y) h = tt

line_range : (i : ℕ) (l : List ℕ) (told : Result (Option Instant) (ℕ × Wrong)) → ToldInRange told → ToldInRange (told_after i l told)
line_range i l (Err (j, wrong)) h = tt
line_range i l (Ok old) h = by (names_instant l)
  where
    by : (b : Bool) → ToldInRange (cond b (taken i (instant_of (after_name l)) old) (Ok old))
    by true = taken_range i (instant_of (after_name l)) old (words_range (after_name l))
    by false = h

-- what each line keeps, all keep
all_keep : (A : Type 0) (P : A → Type 0) (step : ℕ → List ℕ → A → A) → ((i : ℕ) (l : List ℕ) (told : A) → P told → P (step i l told))
    → (ls : List (List ℕ)) (i : ℕ) (told : A) → P told → P (over_lines A step ls i told)
unfolding over_lines
all_keep A P step keep [] i told h = h
all_keep A P step keep (l ∷ ls) i told h = all_keep A P step keep ls (i + 1) (step i l told) (keep i l told h)

-- ---- TAI less UTC

abbrev OffsetInRange : Result (Option (ℕ × ℕ)) (ℕ × Wrong) → Type 0
OffsetInRange (Ok None) = Unit {0}
OffsetInRange (Ok (Some (i, n))) = (10 ≤ n) × (n ≤ 99)
OffsetInRange (Err (i, wrong)) = Unit {0}

seconds_range : (s : List ℕ) → (seconds_in s ≡ 0 → ⊥) → (10 ≤ seconds_in s) × (seconds_in s ≤ 99)
unfolding seconds_in
seconds_range s h = by (all_of C.Blank (after_word s) && has_form (letters "00") (word_in s) && leb 10 n) refl h
  where
    n : ℕ
    n = two_at (word_in s) 0

    by : (b : Bool) → (all_of C.Blank (after_word s) && has_form (letters "00") (word_in s) && leb 10 n) ≡ b → (cond b n 0 ≡ 0 → ⊥)
        → (10 ≤ cond b n 0) × (cond b n 0 ≤ 99)
    by true e h =
        let t = both (all_of C.Blank (after_word s) && has_form (letters "00") (word_in s)) (leb 10 n) e in
        let f = both (all_of C.Blank (after_word s)) (has_form (letters "00") (word_in s)) t.0 in
        (leb-true 10 n t.1, two_le (letters "00") (word_in s) 0 f.1 refl refl)
    by false e h = absurd (h refl)

offset-range : (i : ℕ) (l : List ℕ) (old : Result (Option (ℕ × ℕ)) (ℕ × Wrong)) → OffsetInRange old → OffsetInRange (offset_after i l old)
offset-range i l old h = by (names_offset l)
  where
    n : ℕ
    n = seconds_in (after_name l)

    first : (b : Bool) → eqb n 0 ≡ b → OffsetInRange (cond b (Err (i, Wrong.NotSeconds)) (Ok (Some (i, n))))
    first true e = tt
    first false e = seconds_range (after_name l) (eqb-false n 0 e)

    second : (b : Bool) → OffsetInRange (cond b (Err (i, Wrong.NotSeconds)) (Err (i, Wrong.OffsetTwice)))
    second true = tt
    second false = tt

    given : (old : Result (Option (ℕ × ℕ)) (ℕ × Wrong)) → OffsetInRange (offset_taken i n old)
    given (Ok None) = first (eqb n 0) refl
    given (Ok (Some (j, m))) = second (eqb n 0)
    given (Err (j, wrong)) = tt

    by : (b : Bool) → OffsetInRange (cond b (offset_taken i n old) old)
    by true = given old
    by false = h

-- ---- both

with_range : (told : Result (Option Instant) (ℕ × Wrong)) (offset : Result (Option (ℕ × ℕ)) (ℕ × Wrong)) → ToldInRange told → OffsetInRange offset → ToldInRange (with_offset told offset)
with_range told (Ok None) h g = h
with_range (Ok None) (Ok (Some (i, n))) h g = tt
with_range (Ok (Some x)) (Ok (Some (i, n))) h g = by (ltb x.year 1972) refl
  where
    used : Instant
    used = record { year = x.year; month = x.month; day = x.day; hundredths = x.hundredths; scale = x.scale; offset = n }

    by : (b : Bool) → ltb x.year 1972 ≡ b → ToldInRange (cond b (Err (i, Wrong.NeedsInstant)) (Ok (Some used)))
    by true e = tt
    by false e =
        record {
          year = h.year;
          month = h.month;
          day = h.day;
          hundredths = h.hundredths;
          offset = λ k. (g.0, g.1, ltb-false x.year 1972 e);
        }
with_range (Err (j, wrong)) (Ok (Some (i, n))) h g = tt
with_range (Ok x) (Err (i, wrong)) h g = tt
with_range (Err (j, other)) (Err (i, wrong)) h g = by (ltb i j)
  where
    by : (b : Bool) → ToldInRange (cond b (Err (i, wrong)) (Err (j, other)))
    by true = tt
    by false = tt

pub told_in_range : (text : List ℕ) (x : Instant) → told_in text ≡ Ok (Some x) → InRange x
unfolding told_in
told_in_range text x e =
    subst ToldInRange e
    (with_range (instant_in text) (offset_in text)
    (all_keep (Result (Option Instant) (ℕ × Wrong)) ToldInRange told_after line_range (lines_of text) 1 (Ok None) tt)
    (all_keep (Result (Option (ℕ × ℕ)) (ℕ × Wrong)) OffsetInRange offset_after offset-range (lines_of text) 1 (Ok None) tt))

-- The text of an answer in a caller's buffer, and the instant's numbers before it.
use Rattle.std.specs.Prelude.{ℕ, ◌≤◌, ◌<◌, ◌≡◌, refl, List, ℤ, length, get_or, Result, Err, Option, Ok, Option}
use Rattle.std.proofs.Common.{ap, eq-eqb, ne_eqb}
use Rattle.requests.specs.declared.Occultation.{Occultation}
use Rattle.calendar.specs.declared.Instant.{Instant}
use Rattle.sheet_types.specs.declared.refusals.Refusal.{Refusal}
use Rattle.sheet_types.specs.Refusals.{refusal}
use Rattle.calendar.specs.Numbers.{reference_of}
use Rattle.decimal_text.specs.Texts.{Put}
use Rattle.request_format.specs.declared.fields.Shape.{Shape}
use Rattle.request_format.specs.declared.fields.Shape.TheVariants as Shape
use Rattle.request_answers.specs.Second.{wish}
use Rattle.request_answers.specs.Sheet.{answer_by, buffer_by, sines_by, answer_to, buffer_for, sines_for, star_answer, star_buffer, star_sines}
use Rattle.listings.specs.Answers.{Told, withheld, answered, room_with}
use Rattle.listings.specs.laws.AnswerLaws.{text-short, text-full}
use Rattle.answers.specs.Answers.{timed_by, delta_by, sky_of}
use Rattle.answers.specs.Timed.{told_by, told_shaped, timed_told, star_timed_told, Given, given, wrong, numbered, instant_given, told_for, sheet_for, table_for}

-- what was laid of a text or a refusal
abbrev pub Laid : Told → (old : List ℕ) → Result ℕ Refusal → (new : List ℕ) → Type 0
Laid t old r new = (r ≡ answered (length old) t) × (new ≡ room_with t old)

pub laid_withheld : (x : Refusal) (old : List ℕ) → Laid (withheld x) old (Err x) old
unfolding answered room_with
laid_withheld x old = (refl, refl)

-- ---- `lay`

module _ (k : Option Instant) (d : ℤ) (y : Option Occultation) (a : Result ℕ Refusal) (room old : List ℕ) where
  pub laid-refused : (x : Refusal) → a ≡ Err x → Laid (told_by k d y a room) old (Err x) old
  laid-refused x e = rw e (laid_withheld x old)

  module _ (n : ℕ) (e : a ≡ Ok n) (none after : List ℕ) (need : ℕ) (m : Put none 0 (timed_by k d y a room) after need)
      (h : length old < 18446744073709551615) where
    pub laid-short : length old < need → Laid (told_by k d y a room) old (Err (refusal 4 need)) old
    laid-short g = rw e (text-short (timed_by k d y (Ok n) room) none after old need (rw e at m) h g)

    pub laid-full : need ≤ length old → (new : List ℕ) (r : ℕ) → Put old 0 (timed_by k d y a room) new r
        → Laid (told_by k d y a room) old (Ok need) new
    laid-full g new r p = rw e (text-full (timed_by k d y (Ok n) room) none after old need (rw e at m) h g new r (rw e at p))

-- ---- over a request's bytes

module _ (request sines room : List ℕ) (a : Result ℕ Refusal) (left : List ℕ) (k : Option Instant) (d : ℤ) (y : Option Occultation) where
  pub told_is : (shape : Shape) → a ≡ answer_by (wish shape request) sines room → left ≡ buffer_by (wish shape request) sines room
      → d ≡ delta_by shape request → y ≡ sky_of (wish shape request) → told_by k d y a left ≡ told_shaped shape k request sines room
  told_is shape is by-rule e f = rw (is, by-rule, e, f)

-- ---- `times`: the text, the sheet and table S

abbrev pub Timed : Given → (request sines room old : List ℕ) → Result ℕ Refusal → (new sheet table : List ℕ) → Type 0
Timed g request sines room old r new sheet table =
    (r ≡ answered (length old) (told_for g request sines room))
    × ((new ≡ room_with (told_for g request sines room) old)
    × ((sheet ≡ sheet_for g request sines room) × (table ≡ table_for g request sines)))

-- of bytes of that shape
abbrev pub Shaped : Shape → Option Instant → (request sines room old : List ℕ) → Result ℕ Refusal → (new sheet table : List ℕ) → Type 0
Shaped shape k request sines room old r new sheet table =
    (r ≡ answered (length old) (told_shaped shape k request sines room))
    × ((new ≡ room_with (told_shaped shape k request sines room) old)
    × ((sheet ≡ buffer_by (wish shape request) sines room) × (table ≡ sines_by (wish shape request) sines)))

module _ (request sines room old : List ℕ) where
  module _ (k : Option Instant) (r : Result ℕ Refusal) (new sheet table : List ℕ) where
    pub timed-star : length request ≡ 79 → Shaped Shape.Star k request sines room old r new sheet table
        → Timed (given k) request sines room old r new sheet table
    unfolding star_timed_told star_answer star_buffer star_sines
    timed-star e p = rw (eq-eqb (length request) 79 e) p

    pub timed-eclipse : (length request ≡ 79 → ⊥) → Shaped Shape.Eclipse k request sines room old r new sheet table
        → Timed (given k) request sines room old r new sheet table
    unfolding timed_told answer_to buffer_for sines_for
    timed-eclipse e p = rw (ne_eqb (length request) 79 e) p

  pub timed-wrong : (x : Refusal) → Timed (wrong x) request sines room old (Err x) old room sines
  timed-wrong x = let l = laid_withheld x old in (l.0, (l.1, (refl, refl)))

  module _ (l : List ℕ) where
    pub instant-misshaped : (length l ≡ 6 → ⊥) → Timed (instant_given l) request sines room old (Err (refusal 10 0)) old room sines
    unfolding instant_given
    instant-misshaped e = rw (ne_eqb (length l) 6 e) (timed-wrong (refusal 10 0))

    module _ (e : length l ≡ 6) (x : Result (Option Instant) ℕ)
        (i : x ≡ reference_of (get_or l 0 0) (get_or l 1 0) (get_or l 2 0) (get_or l 3 0) (get_or l 4 0) (get_or l 5 0)) where
      instant-is : numbered x ≡ instant_given l
      unfolding instant_given
      instant-is = rw (eq-eqb (length l) 6 e) (ap numbered i)

      pub number-wrong : (p : ℕ) → x ≡ Err p → Timed (instant_given l) request sines room old (Err (refusal 23 p)) old room sines
      number-wrong p w = rw (← instant-is, w) (timed-wrong (refusal 23 p))

      pub number-right : (k : Option Instant) → x ≡ Ok k → (r : Result ℕ Refusal) (new sheet table : List ℕ)
          → Timed (given k) request sines room old r new sheet table → Timed (instant_given l) request sines room old r new sheet table
      number-right k w r new sheet table p = rw (← instant-is, w) p

-- A text that is taken: its numbers fit their bytes, and its instant is in range.
use Rattle.std.specs.Prelude.{◌≡◌, refl, Bool, true, false, cond, List, ℕ, ◌≤◌, ltb, ℤ, length, Option, Ok, Result, Err, Some, Option}
use Rattle.std.proofs.Common.{◌∙◌, arith, le-ltb}
use Rattle.request_text.specs.declared.instants.Wrong.{Wrong}
use Rattle.request_format.specs.declared.fields.Shape.{Shape}
use Rattle.request_format.specs.Request.{size_for, bytes_for}
use Rattle.request_format.specs.RoundTrip.{bytes-length}
use Rattle.decimal_text.specs.Texts.{letters}
use Rattle.request_text.specs.Shapes.{shape_of}
use Rattle.request_text.specs.Typing.{Typing, given, typing_of}
use Rattle.request_text.specs.Typing as typing
use Rattle.request_text.specs.laws.FitLaws.{Fit, numbers_fit}
use Rattle.calendar.specs.declared.Instant.{Instant}
use Rattle.request_text.specs.Told.{told_in}
use Rattle.request_text.specs.laws.InRange.{InRange, told_in_range}
use Rattle.request_text.specs.Meaning.{asked, refused, meaning_by, tooLong, meaning_of}

-- a text of that shape gives the numbers, and says the instant or that there is none
pub record Gives (text : List ℕ) (shape : Shape) (ns : List ℤ) (x : Option Instant) : Type 0 where
  pub asks : shape_of text ≡ shape
  pub numbers : typing_of shape text ≡ given ns
  pub instant : told_in text ≡ Ok x

not_asked : (b : Bool) (i j : ℕ) (m n : List ℕ) (shape : Shape) (ns : List ℤ) (x : Option Instant) → cond b (refused j m) (refused i n) ≡ asked shape ns x
    → ◌≡◌ {A = ℕ} 0 1
not_asked true i j m n shape ns x e = cc
not_asked false i j m n shape ns x e = cc

pub asked_gives : (text : List ℕ) (shape : Shape) (ns : List ℤ) (x : Option Instant) → meaning_of text ≡ asked shape ns x → Gives text shape ns x
unfolding meaning_of
asked_gives text shape ns x e = by (tooLong text) (shape_of text) refl (typing_of (shape_of text) text) refl (told_in text) refl e
  where
    by : (b : Bool) (s : Shape) → shape_of text ≡ s → (t : Typing) → typing_of s text ≡ t → (told : Result (Option Instant) (ℕ × Wrong)) → told_in text ≡ told
        → cond b (refused 0 (letters "the text has more than 65,536 bytes\n")) (meaning_by s text t told) ≡ asked shape ns x → Gives text shape ns x
    by true s p t q told r e = let z : ◌≡◌ {A = ℕ} 0 1 = cc in absurd (omega arith)
    by false s p (given ms) q (Ok y) r e =
        let a : s ≡ shape = cc in
        let b : ms ≡ ns = cc in
        let c : y ≡ x = cc in
        record { asks = p ∙ a; numbers = rw (← a, ← b) q; instant = rw (← c) r }
    by false s p (given ms) q (Err (j, wrong)) r e = let z : ◌≡◌ {A = ℕ} 0 1 = cc in absurd (omega arith)
    by false s p (typing.refused i fault) q (Ok y) r e = let z : ◌≡◌ {A = ℕ} 0 1 = cc in absurd (omega arith)
    by false s p (typing.refused i fault) q (Err (j, wrong)) r e = let z = not_asked (ltb j i) i j _ _ shape ns x e in absurd (omega arith)

-- and the other way round
pub gives_asked : (text : List ℕ) (shape : Shape) (ns : List ℤ) (x : Option Instant) → length text ≤ 65536 → Gives text shape ns x → meaning_of text ≡ asked shape ns x
unfolding meaning_of
gives_asked text shape ns x l g = rw (le-ltb 65536 (length text) l, g.asks, g.numbers, g.instant)

module _ (text : List ℕ) (shape : Shape) (ns : List ℤ) where
  pub asked-fit : (x : Option Instant) → meaning_of text ≡ asked shape ns x → Fit shape ns
  asked-fit x e = numbers_fit shape text ns (asked_gives text shape ns x e).numbers

  -- its bytes are as many as a request has
  pub asked-size : (x : Option Instant) → meaning_of text ≡ asked shape ns x → length (bytes_for shape ns) ≡ size_for shape
  asked-size x e = bytes-length shape ns (asked-fit x e).all

  -- its instant is a day of the calendar and a time of that day
  pub asked-in-range : (x : Instant) → meaning_of text ≡ asked shape ns (Some x) → InRange x
  asked-in-range x e = told_in_range text x (asked_gives text shape ns (Some x) e).instant

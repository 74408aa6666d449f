-- The two buffers afterwards: at the start of the one the bytes of the request, or at the start of the other the
-- message.
use Rattle.std.specs.Prelude.{◌≡◌, refl, List, ◌++◌, ℕ, ℤ, length, take, drop, Option, Ok, Err}
use Rattle.std.proofs.Common.{sym, ap, ◌∙◌, arith, length-append, take_at}
use Rattle.calendar.specs.declared.Instant.{Instant}
use Rattle.rounding.specs.laws.Results.{ok_parts}
use Rattle.request_format.specs.declared.fields.Shape.{Shape}
use Rattle.request_format.specs.Request.{size_for, bytes_for}
use Rattle.decimal_text.specs.Texts.{Counts}
use Rattle.request_text.specs.Meaning.{Meaning, asked, refused, meaning_of, answer_of, bytesAfter, message_after}
use Rattle.request_text.specs.laws.Asked.{asked-size}

-- a text at the start of a buffer
first : (x rest room : List ℕ) (n : ℕ) → length x ≡ n → room ≡ x ++ rest → (take n room ≡ x) × Counts n room
first x rest room n h e =
    let t : take n room ≡ x = ap (take n) e ∙ take_at x rest n h in
    (t, (omega (arith, ap length e, length-append x rest), sym (ap length t ∙ h)))

-- the text is a request of n bytes, which are the first of the buffer
pub record Bytes (text : List ℕ) (n : ℕ) (x : Option Instant) (room : List ℕ) : Type 0 where
  pub shape : Shape
  pub numbers : List ℤ
  pub is : meaning_of text ≡ asked shape numbers x
  pub size : n ≡ size_for shape
  pub bytes : take n room ≡ bytes_for shape numbers
  pub counts : Counts n room

-- the text is refused with a message of n bytes, which are the first of the buffer
pub record Message (text : List ℕ) (n : ℕ) (room : List ℕ) : Type 0 where
  pub line : ℕ
  pub message : List ℕ
  pub is : meaning_of text ≡ refused line message
  pub bytes : take n room ≡ message
  pub counts : Counts n room

module _ (text : List ℕ) (n : ℕ) (old room : List ℕ) where
  pub bytes-first : (x : Option Instant) → Ok (n, x) ≡ answer_of (meaning_of text) → room ≡ bytesAfter (meaning_of text) old → Bytes text n x room
  bytes-first x e b = by (meaning_of text) refl e b
    where
      by : (m : Meaning) → meaning_of text ≡ m → Ok (n, x) ≡ answer_of m → room ≡ bytesAfter m old → Bytes text n x room
      by (asked shape ns y) q a p =
          let t = ok_parts a in
          let c : n ≡ size_for shape = t.0 in
          let d : y ≡ x = sym t.1 in
          let w = first (bytes_for shape ns) (drop (size_for shape) old) room n (asked-size text shape ns y q ∙ sym c) p in
          record { shape = shape; numbers = ns; is = q ∙ ap (asked shape ns) d; size = c; bytes = w.0; counts = w.1 }
      by (refused i m) q a p = let z : ◌≡◌ {A = ℕ} 0 1 = cc in absurd (omega arith)

  pub message-first : Err n ≡ answer_of (meaning_of text) → room ≡ message_after (meaning_of text) old → Message text n room
  message-first e b = by (meaning_of text) refl e b
    where
      by : (m : Meaning) → meaning_of text ≡ m → Err n ≡ answer_of m → room ≡ message_after m old → Message text n room
      by (asked shape ns y) q a p = let z : ◌≡◌ {A = ℕ} 0 1 = cc in absurd (omega arith)
      by (refused i m) q a p =
          let c : n ≡ length m = cc in
          let w = first m (drop (length m) old) room n (sym c) p in
          record { line = i; message = m; is = q; bytes = w.0; counts = w.1 }

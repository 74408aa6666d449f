-- A typed text stored in a caller's buffers: the parts of the answer, and that they are what the text means.
use Rattle.std.specs.Prelude.{ℕ, ◌+◌, ◌≤◌, ◌<◌, ◌≡◌, refl, cond, ◌&&◌, List, [], ◌∷◌, ◌++◌, leb, length, take, drop, get_or, Option, None, Some, Err, Ok, Result}
use Rattle.std.proofs.Common.{sym, ap, ◌∙◌, arith, le-leb, take_at}
use Rattle.std.proofs.lemmas.Bool.{lt-leb}
use Rattle.std.proofs.lemmas.List.Edits.{sets, sets-eq}
use Rattle.request_text.specs.declared.typed_requests.stored.NotStored.{NotStored}
use Rattle.calendar.specs.declared.Instant.{Instant}
use Rattle.decimal_text.specs.Texts.{Put}
use Rattle.decimal_text.specs.laws.TextLaws.{capped-low}
use Rattle.request_format.specs.declared.fields.Shape.{Shape}
use Rattle.request_format.specs.declared.fields.Shape.TheVariants as S
use Rattle.request_format.specs.Request.{size_for, bytes_for}
use Rattle.request_text.specs.declared.typed_requests.Reason.{Reason}
use Rattle.request_text.specs.Shapes.{shape_of}
use Rattle.request_text.specs.Meaning.{meaning_of, bytesAfter}
use Rattle.request_text.specs.Outcomes.{outcome_of, line_of, reason_text}
use Rattle.request_text.specs.Stored.{instant_numbers, stored_as, request_after, instant_after, fault_after}
use Rattle.request_text.specs.laws.EncodedLaws.{put_start}
use Rattle.request_text.specs.laws.MeaningLaws.{outcome-is, reason-le}
use Rattle.request_text.specs.laws.Asked.{asked-size}

-- number k of an instant
abbrev at : Option Instant → ℕ → ℕ
at x k = get_or (instant_numbers x) k 0

-- ---- the parts, for a request of `size` bytes

abbrev pub kept_as : (size n k : ℕ) → Result ℕ NotStored
kept_as size n k = cond (leb size n) (cond (leb 6 k) (Ok size) (Err (NotStored.Short 6))) (Err (NotStored.Short size))

abbrev pub bytes_kept : (bytes : List ℕ) (k : ℕ) → List ℕ → List ℕ
bytes_kept bytes k old = cond (leb (length bytes) (length old) && leb 6 k) (bytes ++ drop (length bytes) old) old

abbrev pub numbers_kept : Option Instant → (size n : ℕ) → List ℕ → List ℕ
numbers_kept x size n old = cond (leb size n && leb 6 (length old)) (instant_numbers x ++ drop 6 old) old

-- ---- and for a message
abbrev pub explained_as : (line : ℕ) (message : List ℕ) (m : ℕ) → Result ℕ NotStored
explained_as line message m = cond (leb (length message) m) (Err (NotStored.Fault line)) (Err (NotStored.Short (length message)))

-- ---- `put_numbers`

pub six_long : (x : Option Instant) → length (instant_numbers x) ≡ 6
six_long None = refl
six_long (Some i) = refl

pub six_stored : (x : Option Instant) (old : List ℕ) → 6 ≤ length old
    → sets old 0 (at x 0 ∷ at x 1 ∷ at x 2 ∷ at x 3 ∷ at x 4 ∷ at x 5 ∷ []) ≡ instant_numbers x ++ drop 6 old
six_stored None old h = sets-eq (instant_numbers None) old 0 h
six_stored (Some i) old h = sets-eq (instant_numbers (Some i)) old 0 h

-- ---- `keep`

module _ (bytes : List ℕ) (x : Option Instant) (request instant : List ℕ) where
  abbrev pub Kept : Result ℕ NotStored → (new numbers : List ℕ) → Type 0
  Kept r new numbers =
      (r ≡ kept_as (length bytes) (length request) (length instant))
      × ((new ≡ bytes_kept bytes (length instant) request) × (numbers ≡ numbers_kept x (length bytes) (length request) instant))

  pub request-short : length request < length bytes → Kept (Err (NotStored.Short (length bytes))) request instant
  request-short h = let e = lt-leb (length bytes) (length request) h in (rw e, (rw e, rw e))

  pub instant-short : length bytes ≤ length request → length instant < 6 → Kept (Err (NotStored.Short 6)) request instant
  instant-short g h =
      let e = le-leb (length bytes) (length request) g in
      let f = lt-leb 6 (length instant) h in
      (rw (e, f), (rw (e, f), rw (e, f)))

  pub both-kept : length bytes ≤ length request → 6 ≤ length instant → (new numbers : List ℕ) (r : ℕ) → Put request 0 bytes new r
      → numbers ≡ instant_numbers x ++ drop 6 instant → Kept (Ok (length bytes)) new numbers
  both-kept g h new numbers r p q =
      let e = le-leb (length bytes) (length request) g in
      let f = le-leb 6 (length instant) h in
      (rw (e, f), (rw (e, f) (put_start bytes request new r g p), rw (e, f) q))

-- ---- `explain`

module _ (text : List ℕ) (reason : Reason) (e : Err reason ≡ outcome_of text) (message none after : List ℕ) (need : ℕ)
    (p : Put none 0 (reason_text text reason) after need) (h : length (reason_text text reason) ≤ 87 + length text) where
  need-is : need ≡ length (reason_text text reason)
  need-is =
      let l = reason-le text reason e h in
      let q : need ≡ 0 + length (reason_text text reason) = p.place ∙ capped-low (0 + length (reason_text text reason)) (omega arith) in omega arith

  pub message-short : length message < need
      → (Err (NotStored.Short need) ≡ explained_as (line_of reason) (reason_text text reason) (length message)) × (message ≡ fault_after (meaning_of text) message)
  message-short g =
      let k = lt-leb (length (reason_text text reason)) (length message) (omega (arith, need-is)) in
      (rw k (ap (λ (k : ℕ). Err (NotStored.Short k)) need-is), rw (outcome-is text (Err reason) e, k))

  pub message-kept : need ≤ length message → (new : List ℕ) (r : ℕ) → Put message 0 (reason_text text reason) new r
      → (Err (NotStored.Fault (line_of reason)) ≡ explained_as (line_of reason) (reason_text text reason) (length message)) × (new ≡ fault_after (meaning_of text) message)
  message-kept g new r q =
      let k = le-leb (length (reason_text text reason)) (length message) (omega (arith, need-is)) in
      (rw k, rw (outcome-is text (Err reason) e, k) (put_start (reason_text text reason) message new r (omega (arith, need-is)) q))

-- ---- `store`

size_le : (shape : Shape) → size_for shape ≤ 115
size_le S.Eclipse = omega arith
size_le S.Star = omega arith

module _ (text : List ℕ) (n : ℕ) (x : Option Instant) (e : Ok (n, x) ≡ outcome_of text) where
  pub request-size : n ≤ 115
  request-size = let a = outcome-is text (Ok (n, x)) e in omega (arith, a.size, size_le (shape_of text))

  pub request-stored : (zeros bytes request instant message : List ℕ) → bytes ≡ bytesAfter (meaning_of text) zeros → (r : Result ℕ NotStored) (new numbers : List ℕ)
      → Kept (take n bytes) x request instant r new numbers
      → (r ≡ stored_as (length request) (length instant) (length message) (meaning_of text))
      × ((new ≡ request_after (length instant) (meaning_of text) request)
      × ((numbers ≡ instant_after (length request) (meaning_of text) instant) × (message ≡ fault_after (meaning_of text) message)))
  request-stored zeros bytes request instant message b r new numbers k =
      let a = outcome-is text (Ok (n, x)) e in
      let made = bytes_for (shape_of text) a.ns in
      let size = asked-size text (shape_of text) a.ns x a.means in
      let t : bytes ≡ made ++ drop (size_for (shape_of text)) zeros = b ∙ ap (λ m. bytesAfter m zeros) a.means in
      let first : take n bytes ≡ made = ap (take n) t ∙ take_at made (drop (size_for (shape_of text)) zeros) n (size ∙ sym a.size) in
      let kept : Kept made x request instant r new numbers = rw (← first) k in
      rw (a.means, ← size) (kept.0, (kept.1.0, (kept.1.1, refl)))

pub refused_stored : (text : List ℕ) (reason : Reason) → Err reason ≡ outcome_of text → (request instant message : List ℕ) (r : Result ℕ NotStored)
    → r ≡ explained_as (line_of reason) (reason_text text reason) (length message)
    → (r ≡ stored_as (length request) (length instant) (length message) (meaning_of text))
    × ((request ≡ request_after (length instant) (meaning_of text) request) × (instant ≡ instant_after (length request) (meaning_of text) instant))
refused_stored text reason e request instant message r p = rw (outcome-is text (Err reason) e) (p, (refl, refl))

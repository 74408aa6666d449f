-- The outcome of a text is what the text means, and what `read` promises of it.
use Rattle.std.specs.Prelude.{◌≡◌, Bool, List, ℕ, ◌+◌, ◌≤◌, ◌<◌, ltb, ℤ, Option, Result, Ok, Err, Option}
use Rattle.std.proofs.Math.Path.{refl}
use Rattle.std.proofs.Common.{ap, ◌∙◌, arith}
use Rattle.std.proofs.Math.Bool.{true, false, cond}
use borrow.Author.Tests.{lt-ltb, le-ltb, ltb-false}
use Rattle.std.proofs.Math.ListN.{length}
use Rattle.calendar.specs.declared.Instant.{Instant}
use Rattle.request_format.specs.declared.fields.Shape.{Shape}
use Rattle.request_format.specs.Request.{size_for}
use Rattle.decimal_text.specs.Texts.{letters, Put}
use Rattle.decimal_text.specs.laws.TextLaws.{capped-low}
use Rattle.request_text.specs.declared.Fault.{Fault}
use Rattle.request_text.specs.declared.instants.Wrong.{Wrong}
use Rattle.request_text.specs.Shapes.{shape_of}
use Rattle.request_text.specs.Typing.{Typing, given, typing_of}
use Rattle.request_text.specs.Typing as typing
use Rattle.request_text.specs.Told.{told_in}
use Rattle.request_text.specs.Messages.{message_of}
use Rattle.request_text.specs.laws.MessageLength.{message_le}
use Rattle.request_text.specs.declared.typed_requests.Reason.{Reason}
use Rattle.request_text.specs.declared.typed_requests.Reason.TheVariants as R
use Rattle.request_text.specs.Encoded.{bytes_from}
use Rattle.request_text.specs.laws.EncodedLaws.{put_start}
use Rattle.request_text.specs.TypedMessages.{instant_message}
use Rattle.request_text.specs.laws.TypedMessageLaws.{instant_le}
use Rattle.request_text.specs.Meaning.{Meaning, asked, refused, meaning_by, tooLong, meaning_of, answer_of, bytesAfter, message_after}
use Rattle.request_text.specs.Outcomes.{first_of, outcome_of, line_of, reason_text}

-- ---- an outcome and a meaning

-- the text asks for a request of n bytes, with that instant
pub record Asks (text : List ℕ) (n : ℕ) (x : Option Instant) (m : Meaning) : Type 0 where
  pub ns : List ℤ
  pub typed : typing_of (shape_of text) text ≡ given ns
  pub means : m ≡ asked (shape_of text) ns x
  pub size : n ≡ size_for (shape_of text)

module _ (text : List ℕ) where
  abbrev pub Means : Result (ℕ × Option Instant) Reason → Meaning → Type 0
  Means (Ok (n, x)) m = Asks text n x m
  Means (Err r) m = m ≡ refused (line_of r) (reason_text text r)

  by_lines : (t : Typing) → typing_of (shape_of text) text ≡ t → (told : Result (Option Instant) (ℕ × Wrong))
      → Means (first_of (size_for (shape_of text)) (typing.answer_of t) told) (meaning_by (shape_of text) text t told)
  by_lines (given ns) e (Ok x) = record { ns = ns; typed = e; means = refl; size = refl }
  by_lines (given ns) e (Err (j, wrong)) = refl
  by_lines (typing.refused i fault) e (Ok x) = refl
  by_lines (typing.refused i fault) e (Err (j, wrong)) = by (ltb j i)
    where
      by : (b : Bool)
          → Means (cond b (Err (R.Instant j wrong)) (Err (R.Number i fault)))
          (cond b (refused j (instant_message j wrong)) (refused i (message_of (shape_of text) text i fault)))
      by true = refl
      by false = refl

  -- the outcome of a text says what the text means
  pub outcome-means : Means (outcome_of text) (meaning_of text)
  unfolding outcome_of meaning_of
  outcome-means = by (tooLong text)
    where
      by : (b : Bool)
          → Means (cond b (Err R.TooLong) (first_of (size_for (shape_of text)) (typing.answer_of (typing_of (shape_of text) text)) (told_in text)))
          (cond b (refused 0 (letters "the text has more than 65,536 bytes\n")) (meaning_by (shape_of text) text (typing_of (shape_of text) text) (told_in text)))
      by true = refl
      by false = by_lines (typing_of (shape_of text) text) refl (told_in text)

  pub outcome-is : (o : Result (ℕ × Option Instant) Reason) → o ≡ outcome_of text → Means o (meaning_of text)
  outcome-is o e = rw e outcome-means

  -- ---- what `ask` finds

  pub long-outcome : 65536 < length text → Err R.TooLong ≡ outcome_of text
  unfolding outcome_of
  long-outcome h = rw (lt-ltb 65536 (length text) h)

  pub short-outcome : length text ≤ 65536 → (shape : Shape) → shape ≡ shape_of text → (typed : Result Unit (ℕ × Fault)) → typed ≡ typing.answer_of (typing_of shape text)
      → (told : Result (Option Instant) (ℕ × Wrong)) → told ≡ told_in text → (n : ℕ) → n ≡ size_for shape → (o : Result (ℕ × Option Instant) Reason) → o ≡ first_of n typed told → o ≡ outcome_of text
  unfolding outcome_of
  short-outcome h shape s typed t told e n k o f = rw (le-ltb 65536 (length text) h, f, k, t, e, s)

  -- the bytes of a request are made; on a refusal nothing is
  pub request-bytes : (shape : Shape) → shape ≡ shape_of text → (n : ℕ) (x : Option Instant) → Ok (n, x) ≡ outcome_of text → (old new : List ℕ)
      → new ≡ bytes_from shape (typing_of shape text) old → new ≡ bytesAfter (meaning_of text) old
  request-bytes shape s n x e old new b = let a = outcome-is (Ok (n, x)) e in rw a.means (b ∙ rw (s, a.typed))

  pub refused-bytes : (r : Reason) → Err r ≡ outcome_of text → (old : List ℕ) → old ≡ bytesAfter (meaning_of text) old
  refused-bytes r e old = rw (outcome-is (Err r) e)

  -- ---- what `put_reason` writes

  pub put-known : (reason known : Reason) → reason ≡ known → (old new : List ℕ) (at r : ℕ) → Put old at (reason_text text known) new r
      → length (reason_text text known) ≤ 87 + length text
      → Put old at (reason_text text reason) new r × (length (reason_text text reason) ≤ 87 + length text)
  put-known reason known e old new at r p h = rw e (p, h)

  pub put-number : (shape : Shape) → shape ≡ shape_of text → (i : ℕ) (fault : Fault) (old new : List ℕ) (at r : ℕ)
      → Put old at (message_of shape text i fault) new r → Put old at (reason_text text (R.Number i fault)) new r
  put-number shape s i fault old new at r p = rw (← s) p

  pub long-le : length (reason_text text R.TooLong) ≤ 87 + length text
  long-le = omega arith

  pub number-le : (i : ℕ) (fault : Fault) → i < 18446744073709551616 → length (reason_text text (R.Number i fault)) ≤ 87 + length text
  number-le i fault h = message_le (shape_of text) text i fault h

  pub instant-small : (i : ℕ) (wrong : Wrong) → i < 18446744073709551616 → length (reason_text text (R.Instant i wrong)) ≤ 87 + length text
  instant-small i wrong h = omega (arith, instant_le i wrong h)

  -- ---- what `read` answers

  pub request-answer : (n : ℕ) (x : Option Instant) → Ok (n, x) ≡ outcome_of text → (before : List ℕ)
      → (Ok (n, x) ≡ answer_of (meaning_of text)) × (before ≡ message_after (meaning_of text) before)
  request-answer n x e before =
      let a = outcome-is (Ok (n, x)) e in rw a.means (ap (λ (k : ℕ). Ok (k, x)) a.size, refl)

  pub reason-le : (r : Reason) → Err r ≡ outcome_of text → length (reason_text text r) ≤ 87 + length text → length (reason_text text r) ≤ 65623
  unfolding outcome_of
  reason-le r e h = by (tooLong text) refl e
    where
      by : (b : Bool) → tooLong text ≡ b
          → Err r ≡ cond b (Err R.TooLong) (first_of (size_for (shape_of text)) (typing.answer_of (typing_of (shape_of text) text)) (told_in text))
          → length (reason_text text r) ≤ 65623
      by true q f = let z : r ≡ R.TooLong = cc in rw z (omega arith)
      by false q f = omega (arith, ltb-false 65536 (length text) q)

  pub refused-answer : (r : Reason) → Err r ≡ outcome_of text → length (reason_text text r) ≤ 87 + length text → (before after : List ℕ) (n : ℕ)
      → length before ≡ 65623 → Put before 0 (reason_text text r) after n
      → (Err n ≡ answer_of (meaning_of text)) × (after ≡ message_after (meaning_of text) before)
  refused-answer r e h before after n g p =
      let m = reason_text text r in
      let le = reason-le r e h in
      let q : n ≡ 0 + length m = p.place ∙ capped-low (0 + length m) (omega arith) in
      let k : n ≡ length m = omega arith in
      rw (outcome-is (Err r) e) (ap Err k, put_start m before after n (omega arith) p)

-- The answer and the buffer, way by way; and demand 3 of what a call answered and left.
use Rattle.std.specs.Prelude.{◌≡◌, refl, Bool, true, false, cond, List, ◌++◌, ℕ, ◌≤◌, ◌<◌, leb, length, drop, Err, Ok, Result}
use Rattle.std.proofs.Common.{sym, ◌∙◌, arith, le-leb, leb-true}
use Rattle.std.proofs.Math.Path.{ap}
use Rattle.std.proofs.lemmas.Bool.{lt-leb}
use Rattle.std.proofs.lemmas.List.Edits.{sets}
use Rattle.std.proofs.Math.Seq.{length-sets}
use Rattle.sheet_types.specs.declared.refusals.Refusal.{Refusal}
use Rattle.sheet_types.specs.Refusals.{refusal}
use Rattle.requests.specs.declared.Occultation.{Occultation}
use Rattle.requests.specs.RequestLaws.{InLimits}
use Rattle.requests.specs.Admission.{admitted, sines_after}
use Rattle.requests.proofs.laws.AdmissionLaws.{admitted-within, admitted-four}
use Rattle.circumstances.specs.WrittenSheet.{sheet_bytes}
use Rattle.circumstances.specs.Sheet.{answer_within, buffer_within, answer_by, buffer_by, sheet_answer, sheet_buffer, sheet_sines}
use Rattle.local_circumstances.specs.laws.Stores.{stores_start}
use Rattle.circumstances.specs.Demand3.{Claimed}
use Rattle.circumstances.specs.laws.SheetSound.{said, demand3}

module _ (o : Occultation) (old : List ℕ) where
  abbrev fits? : Bool
  fits? = leb (length (sheet_bytes o)) (length old)

  -- ---- the ways of an answer
  pub room-short : (n : ℕ) → n ≡ length (sheet_bytes o) → length old < n → (Err (refusal 4 n) ≡ answer_within o old) × (old ≡ buffer_within o old)
  room-short n e h = let t : fits? ≡ false = lt-leb (length (sheet_bytes o)) (length old) (omega arith) in (rw (t, e), rw t)

  pub room-enough : (n : ℕ) (new : List ℕ) → n ≡ length (sheet_bytes o) → length (sheet_bytes o) ≤ length old → new ≡ sets old 0 (sheet_bytes o)
      → (Ok n ≡ answer_within o old) × (new ≡ buffer_within o old)
  room-enough n new e h w =
      let t : fits? ≡ true = le-leb (length (sheet_bytes o)) (length old) h in
      (rw (t, e), w ∙ stores_start (sheet_bytes o) old h ∙ rw t)

  pub buffer-length : length (buffer_within o old) ≡ length old
  buffer-length = go fits? refl
    where
      go : (t : Bool) → fits? ≡ t → length (cond t (sheet_bytes o ++ drop (length (sheet_bytes o)) old) old) ≡ length old
      go true e = ap length (sym (stores_start (sheet_bytes o) old (leb-true (length (sheet_bytes o)) (length old) e))) ∙ length-sets old 0 (sheet_bytes o)
      go false e = refl

module _ (o : Occultation) (sines old : List ℕ) where
  -- ---- demand 3 of the answer and the buffer that a check gives
  claims : (c : Result Unit Refusal) → admitted o sines ≡ c → Claimed o (answer_by c o old) (buffer_by c o old)
  claims (Err r) e = λ four. said o (admitted-four o sines r e four)
  claims (Ok tt) e = by-room (fits? o old) (admitted-within o sines e).0
    where
      by-room : (b : Bool) → InLimits o
          → Claimed o (cond b (Ok (length (sheet_bytes o))) (Err (refusal 4 (length (sheet_bytes o))))) (cond b (sheet_bytes o ++ drop (length (sheet_bytes o)) old) old)
      by-room true i = demand3 o i (drop (length (sheet_bytes o)) old)
      by-room false i = λ e. said o i

  -- ---- the answer, the sheet's buffer and the buffer for table S are those that the check gives
  answer-by : (c : Result Unit Refusal) → admitted o sines ≡ c → answer_by c o old ≡ sheet_answer o sines old
  unfolding sheet_answer
  answer-by c e = ap (λ (k : Result Unit Refusal). answer_by k o old) (sym e)

  buffer-by : (c : Result Unit Refusal) → admitted o sines ≡ c → buffer_by c o old ≡ sheet_buffer o sines old
  unfolding sheet_buffer
  buffer-by c e = ap (λ (k : Result Unit Refusal). buffer_by k o old) (sym e)

  sines-by : (c : Result Unit Refusal) → admitted o sines ≡ c → sines_after c sines ≡ sheet_sines o sines
  unfolding sheet_sines
  sines-by c e = ap (λ (k : Result Unit Refusal). sines_after k sines) (sym e)

  -- so what was answered and left is what the rules say, and demand 3 is claimed of it
  pub sheet-is : (c : Result Unit Refusal) → admitted o sines ≡ c → (r : Result ℕ Refusal) (new room : List ℕ) → r ≡ answer_by c o old → new ≡ buffer_by c o old
      → room ≡ sines_after c sines
      → (r ≡ sheet_answer o sines old) × ((new ≡ sheet_buffer o sines old) × ((room ≡ sheet_sines o sines) × Claimed o r new))
  sheet-is c e r new room er en es = (er ∙ answer-by c e, (en ∙ buffer-by c e, (es ∙ sines-by c e, rw (er, en) (claims c e))))

  -- what was written fits the buffer
  pub written-fits : (n : ℕ) → sheet_answer o sines old ≡ Ok n → n ≤ length old
  written-fits n e = by-check (admitted o sines) (answer-by (admitted o sines) refl ∙ e)
    where
      never : {B : Type 0} (r : Refusal) → Err r ≡ Ok n → B
      never r e = let z : ◌≡◌ {A = ℕ} 0 1 = cc in absurd (omega arith)

      by-room : (b : Bool) → fits? o old ≡ b → cond b (Ok (length (sheet_bytes o))) (Err (refusal 4 (length (sheet_bytes o)))) ≡ Ok n → n ≤ length old
      by-room true h e = let m : length (sheet_bytes o) ≡ n = cc in omega (arith, leb-true (length (sheet_bytes o)) (length old) h)
      by-room false h e = never (refusal 4 (length (sheet_bytes o))) e

      by-check : (c : Result Unit Refusal) → answer_by c o old ≡ Ok n → n ≤ length old
      by-check (Err r) e = never r e
      by-check (Ok tt) e = by-room (fits? o old) refl e

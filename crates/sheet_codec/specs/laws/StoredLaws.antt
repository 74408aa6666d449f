-- Entries that stand in bytes: those of their own bytes do, and the bytes of those that stand are theirs.
use Rattle.std.specs.Prelude.{ℕ, ◌+◌, ◌≡◌, true, false, cond, Ok}
use Rattle.std.proofs.Math.Path.{sym, ap}
use Rattle.std.proofs.Common.{◌∙◌, add-zero, length-append, take-append-drop, drop-drop}
use mathlib.Core.List.{List, [], ◌∷◌, ◌++◌, append_assoc}
use native.Mathlib.Omega.{arith}
use Rattle.std.proofs.Math.ListN.{length, drop}
use Rattle.sheet_format.specs.declared.kinds.Entry.{Entry}
use Rattle.sheet_format.specs.declared.kinds.Progress.{Progress}
use Rattle.sheet_format.specs.Kinds.{is_end, size_of}
use Rattle.sheet_format.specs.RecordEntries.{bytes, bytes_of}
use Rattle.sheet_format.specs.laws.EntryLaws.{length-bytes, bytes-nil, bytes_cons, length-bytes_cons}
use Rattle.big_endian.specs.Numbers.{Bytes}
use Rattle.sheet_format.specs.Records.{record_at}
use Rattle.sheet_format.specs.laws.RecordLaws.{record-inv}
use Rattle.sheet_format.specs.laws.RecordTrip.{trip, back}
use Rattle.sheet_rules.specs.laws.FieldFits.{Small, fields_fit, after_small}
use Rattle.sheet_rules.specs.Rules.{after_of}
use Rattle.sheet_codec.specs.Sheets.{stored_at}
use Rattle.sheet_codec.specs.laws.StandLaws.{Stand, Steady}
use Rattle.sheet_codec.specs.laws.WellFormed.{WellFormed}

pub stored_steady : (s : List ℕ) → Steady (stored_at s)
stored_steady s i at e n q = (record-inv s at e n q).next

-- one after the other, whatever follows the end entry
pub bytes_stand : (es : List Entry) (p : Progress) → WellFormed p es → Small p → (pre rest : List ℕ) (i : ℕ)
    → Stand (stored_at (pre ++ (bytes_of es ++ rest))) i (length pre) es
unfolding WellFormed Stand
bytes_stand [] p w m pre rest i = absurd w
bytes_stand (e ∷ es) p w m pre rest i =
    let s = pre ++ (bytes_of (e ∷ es) ++ rest) in
    let split : s ≡ pre ++ (bytes e ++ (bytes_of es ++ rest)) =
    ap (λ x. pre ++ x) (ap (λ x. x ++ rest) (bytes_cons e es) ∙ append_assoc (bytes e) (bytes_of es) rest) in
    let there : record_at s (length pre) ≡ Ok (e, length pre + size_of e.kind) =
    ap (λ x. record_at x (length pre)) split ∙ trip e (fields_fit p e m w.1) pre (bytes_of es ++ rest) in (
      there,
      (elim (is_end e.kind) as (λ b. cond b (es ≡ []) (WellFormed (after_of p e) es) → Stand (stored_at s) (i + 1) (length pre + size_of e.kind) es) [
        | true ↦ λ none. rw none tt
        | false ↦ λ v.
            let q : length (pre ++ bytes e) ≡ length pre + size_of e.kind = length-append pre (bytes e) ∙ ap (λ k. length pre + k) (length-bytes e) in
            let again : s ≡ pre ++ bytes e ++ (bytes_of es ++ rest) = split ∙ sym (append_assoc pre (bytes e) (bytes_of es ++ rest)) in
            rw (again, ← q) (bytes_stand es (after_of p e) v (after_small p e m w.1) (pre ++ bytes e) rest (i + 1))
      ]) w.2,
    )

module _ (s : List ℕ) (b : Bytes s) where
  -- what stands from a record on
  record-split : (at : ℕ) (e : Entry) (n : ℕ) → record_at s at ≡ Ok (e, n) → drop at s ≡ bytes e ++ drop (at + size_of e.kind) s
  record-split at e n q =
      sym (take-append-drop (size_of e.kind) (drop at s)) ∙ ap (λ x. x ++ drop (size_of e.kind) (drop at s)) (back s b at e n q)
      ∙ ap (λ x. bytes e ++ x) (drop-drop (size_of e.kind) at s)

  pub stand-bytes : (es : List Entry) (i at : ℕ) → Stand (stored_at s) i at es → drop at s ≡ bytes_of es ++ drop (at + length (bytes_of es)) s
  unfolding Stand
  stand-bytes [] i at st = rw (bytes-nil, add-zero)
  stand-bytes (e ∷ es) i at st =
      let long = length-bytes_cons e es in
      let k : at + size_of e.kind + length (bytes_of es) ≡ at + length (bytes_of (e ∷ es)) = omega arith in
      record-split at e (at + size_of e.kind) st.0
      ∙ ap (λ x. bytes e ++ x) (stand-bytes es (i + 1) (at + size_of e.kind) st.1 ∙ ap (λ n. bytes_of es ++ drop n s) k)
      ∙ sym (ap (λ x. x ++ drop (at + length (bytes_of (e ∷ es))) s) (bytes_cons e es) ∙ append_assoc (bytes e) (bytes_of es)
      (drop (at + length (bytes_of (e ∷ es))) s))

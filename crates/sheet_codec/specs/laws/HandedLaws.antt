-- Entries of a list of numbers: which answer is given when; those of their own numbers stand there, and the numbers of
-- those that stand are theirs.
use Rattle.std.specs.Prelude.{ℕ, ◌+◌, ◌*◌, ◌≤◌, ◌<◌, ◌≡◌, refl, true, false, cond, get_or, Err, Option, Some, Ok, None}
use Rattle.std.proofs.Math.Path.{sym, ap}
use Rattle.std.proofs.Common.{◌∙◌, add-zero, add_assoc, add-one, le-leb, length-append, get_or-append-add, drop-cons}
use mathlib.Core.List.{List, [], ◌∷◌, ◌++◌, append_assoc}
use native.Mathlib.Omega.{arith}
use Rattle.std.proofs.Math.Decide.{dec_le}
use Rattle.std.proofs.lemmas.Bool.{lt-leb}
use Rattle.std.proofs.Math.ListN.{length, drop}
use Rattle.std.proofs.Math.Seq.{get_or-append_seam}
use Rattle.sheet_format.specs.declared.kinds.Kind.{Kind}
use Rattle.sheet_types.specs.declared.refusals.Refusal.{Refusal}
use Rattle.sheet_types.specs.Refusals.{refusal}
use Rattle.sheet_format.specs.declared.kinds.Entry.{Entry}
use Rattle.sheet_format.specs.declared.kinds.Progress.{Progress}
use Rattle.sheet_format.specs.Kinds.{code_of, kind_for, size_of, is_end}
use Rattle.sheet_format.specs.laws.KindLaws.{kind_code, kind_inv, size_small}
use Rattle.sheet_format.specs.RecordEntries.{numbers, numbers_of}
use Rattle.sheet_format.specs.laws.EntryLaws.{numbers-nil, numbers_cons}
use Rattle.sheet_rules.specs.Rules.{after_of}
use Rattle.sheet_codec.specs.Handed.{numbered, of_named, handed_at}
use Rattle.sheet_codec.specs.laws.StandLaws.{Stand, Steady}
use Rattle.sheet_codec.specs.laws.WellFormed.{WellFormed}
use Rattle.rounding.specs.laws.Results.{ok_parts}

module _ (l : List ℕ) (i at : ℕ) where
  pub handed-cut : length l < i * 5 + 5 → Err (refusal 6 at) ≡ handed_at l i at
  unfolding handed_at
  handed-cut h = rw (lt-leb (i * 5 + 5) (length l) h)

  pub handed-named : (n : Option Kind) → i * 5 + 5 ≤ length l → kind_for (get_or l (i * 5) 0) ≡ n → of_named l i at n ≡ handed_at l i at
  unfolding handed_at
  handed-named n h q = rw (le-leb (i * 5 + 5) (length l) h, q)

  -- what an entry of the list says about its numbers
  pub record HandedThere (e : Entry) (n : ℕ) : Type 0 where
    pub within : i * 5 + 5 ≤ length l
    pub named : kind_for (get_or l (i * 5) 0) ≡ Some e.kind
    pub is : e ≡ numbered l i e.kind
    pub next : n ≡ at + size_of e.kind

  pub handed-inv : (e : Entry) (n : ℕ) → handed_at l i at ≡ Ok (e, n) → HandedThere e n
  handed-inv e n q =
      elim (dec_le (i * 5 + 5) (length l)) [
        | yes h ↦ with-kind h (kind_for (get_or l (i * 5) 0)) refl
        | no h ↦ never _ (handed-cut (omega arith))
      ]
    where
      never : (r : Refusal) → Err r ≡ handed_at l i at → HandedThere e n
      never r t = let z : ◌≡◌ {A = ℕ} 0 1 = cc in absurd (omega arith)

      with-kind : i * 5 + 5 ≤ length l → (m : Option Kind) → kind_for (get_or l (i * 5) 0) ≡ m → HandedThere e n
      with-kind h None f = never _ (handed-named None h f)
      with-kind h (Some k) f =
          let t = ok_parts (handed-named (Some k) h f ∙ q) in
          let j : numbered l i k ≡ e = t.0 in
          let x : k ≡ e.kind = ap (λ y. y.kind) j in
          let m : n ≡ at + size_of k = sym t.1 in
          record { within = h; named = f ∙ ap Some x; is = sym j ∙ ap (numbered l i) x; next = m ∙ ap (λ y. at + size_of y) x }

pub handed_bounds : (l : List ℕ) (i at : ℕ) (e : Entry) (n : ℕ) → handed_at l i at ≡ Ok (e, n) → (i * 5 + 5 ≤ length l) × (n ≡ at + size_of e.kind) ×
    (n ≤ at + 17)
handed_bounds l i at e n q = let t = handed-inv l i at e n q in (t.within, t.next, omega (arith, t.next, size_small e.kind))

pub handed_steady : (l : List ℕ) → Steady (handed_at l)
handed_steady l i at e n q = (handed-inv l i at e n q).next

-- an entry that stands in its own numbers
module _ (pre rest : List ℕ) (e : Entry) (i : ℕ) (q : length pre ≡ i * 5) where
  number : (k : ℕ) → get_or (pre ++ (numbers e ++ rest)) (i * 5 + k) 0 ≡ get_or (numbers e ++ rest) k 0
  number k = rw (← q) (get_or-append-add pre (numbers e ++ rest) k 0)

  kind-number : get_or (pre ++ (numbers e ++ rest)) (i * 5) 0 ≡ code_of e.kind
  kind-number = rw (← q) (get_or-append_seam pre (code_of e.kind) (e.a ∷ e.b ∷ e.c ∷ e.d ∷ rest) 0)

  same : numbered (pre ++ (numbers e ++ rest)) i e.kind ≡ e
  same = rw (number 1, number 2, number 3, number 4)

  entry-back : (at : ℕ) → handed_at (pre ++ (numbers e ++ rest)) i at ≡ Ok (e, at + size_of e.kind)
  entry-back at =
      sym (handed-named (pre ++ (numbers e ++ rest)) i at (Some e.kind) (omega (arith, length-append pre (numbers e ++ rest)))
      (ap kind_for kind-number ∙ kind_code e.kind)) ∙ ap (λ x. Ok (x, at + size_of e.kind)) same

pub numbers_stand : (es : List Entry) (p : Progress) → WellFormed p es → (pre rest : List ℕ) (i at : ℕ) → length pre ≡ i * 5
    → Stand (handed_at (pre ++ (numbers_of es ++ rest))) i at es
unfolding WellFormed Stand
numbers_stand [] p w pre rest i at q = absurd w
numbers_stand (e ∷ es) p w pre rest i at q =
    let s = pre ++ (numbers_of (e ∷ es) ++ rest) in
    let split : s ≡ pre ++ (numbers e ++ (numbers_of es ++ rest)) =
    ap (λ x. pre ++ x) (ap (λ x. x ++ rest) (numbers_cons e es) ∙ append_assoc (numbers e) (numbers_of es) rest) in
    let there : handed_at s i at ≡ Ok (e, at + size_of e.kind) =
    ap (λ x. handed_at x i at) split ∙ entry-back pre (numbers_of es ++ rest) e i q at in (
      there,
      (elim (is_end e.kind) as (λ b. cond b (es ≡ []) (WellFormed (after_of p e) es) → Stand (handed_at s) (i + 1) (at + size_of e.kind) es) [
        | true ↦ λ none. rw none tt
        | false ↦ λ v.
            let r : length (pre ++ numbers e) ≡ (i + 1) * 5 = length-append pre (numbers e) ∙ omega arith in
            let again : s ≡ pre ++ numbers e ++ (numbers_of es ++ rest) = split ∙ sym (append_assoc pre (numbers e) (numbers_of es ++ rest)) in
            rw again (numbers_stand es (after_of p e) v (pre ++ numbers e) rest (i + 1) (at + size_of e.kind) r)
      ]) w.2,
    )

module _ (l : List ℕ) where
  drop-one : (j : ℕ) → j < length l → drop j l ≡ get_or l j 0 ∷ drop (j + 1) l
  drop-one j h = drop-cons l j 0 h ∙ ap (λ k. get_or l j 0 ∷ drop k l) (sym (add-one j))

  drop-five : (j : ℕ) → j + 5 ≤ length l → drop j l ≡ get_or l j 0 ∷ get_or l (j + 1) 0 ∷ get_or l (j + 2) 0 ∷ get_or l (j + 3) 0 ∷ get_or l (j + 4) 0 ∷ drop (j + 5) l
  drop-five j h =
      drop-one j (omega arith)
      ∙ ap (λ x. get_or l j 0 ∷ x) (drop-one (j + 1) (omega arith) ∙ ap (λ x. get_or l (j + 1) 0 ∷ x)
      (drop-one (j + 1 + 1) (omega arith) ∙ ap (λ x. get_or l (j + 1 + 1) 0 ∷ x)
      (drop-one (j + 1 + 1 + 1) (omega arith) ∙ ap (λ x. get_or l (j + 1 + 1 + 1) 0 ∷ x) (drop-one (j + 1 + 1 + 1 + 1) (omega arith)))))
      ∙ simp add_assoc

  -- the numbers of an entry that stands there are the entry's
  entry-split : (i at : ℕ) (e : Entry) (n : ℕ) → handed_at l i at ≡ Ok (e, n) → drop (i * 5) l ≡ numbers e ++ drop ((i + 1) * 5) l
  entry-split i at e n q =
      let t = handed-inv l i at e n q in
      let k : get_or l (i * 5) 0 ≡ code_of e.kind = kind_inv _ e.kind t.named in
      let j : i * 5 + 5 ≡ (i + 1) * 5 = omega arith in
      drop-five (i * 5) t.within
      ∙ rw (k, j, ← ap (λ x. x.a) t.is, ← ap (λ x. x.b) t.is, ← ap (λ x. x.c) t.is, ← ap (λ x. x.d) t.is)

  pub stand-numbers : (es : List Entry) (i at : ℕ) → Stand (handed_at l) i at es → drop (i * 5) l ≡ numbers_of es ++ drop ((i + length es) * 5) l
  unfolding Stand
  stand-numbers [] i at st = rw (numbers-nil, add-zero)
  stand-numbers (e ∷ es) i at st =
      let k : (i + 1 + length es) * 5 ≡ (i + length (e ∷ es)) * 5 = omega arith in
      entry-split i at e (at + size_of e.kind) st.0
      ∙ ap (λ x. numbers e ++ x) (stand-numbers es (i + 1) (at + size_of e.kind) st.1 ∙ ap (λ n. numbers_of es ++ drop n l) k)
      ∙ sym (ap (λ x. x ++ drop ((i + length (e ∷ es)) * 5) l) (numbers_cons e es) ∙ append_assoc (numbers e) (numbers_of es)
      (drop ((i + length (e ∷ es)) * 5) l))

-- Laws of a sheet as a whole: its extent, and what may follow it.
use Rattle.std.specs.Prelude.{ℕ, suc, ◌-◌, ◌*◌, ◌≤◌, ◌≡◌, refl, List, Bool, true, false, cond, ltb, length, Ok, Err, Result}
use Rattle.std.proofs.Common.{sym, ap, ◌∙◌, arith, zero-add, le-ltb, ltb-false}
use Rattle.sheet_types.specs.declared.refusals.Refusal.{Refusal}
use Rattle.sheet_types.specs.Refusals.{refusal}
use Rattle.sheet_format.specs.declared.kinds.Entry.{Entry}
use Rattle.sheet_rules.specs.Rules.{start}
use Rattle.sheet_codec.specs.Sheets.{Sheet, sheet, refused, sheet_from, stored_at, alone, read_sheet, read_whole, extent_of}
use Rattle.sheet_codec.specs.Handed.{handed_at, list_sheet, list_whole}
use Rattle.sheet_codec.specs.laws.Passes.{extent}
use Rattle.rounding.specs.laws.Results.{ok_parts}

-- ---- where a loop begins

pub read-start : (s : List ℕ) → read_sheet s ≡ sheet_from (stored_at s) (suc (length s - 0)) start 0 0
unfolding read_sheet
read-start s = ap (λ k. sheet_from (stored_at s) (suc k) start 0 0) (omega arith)

pub list_start : (l : List ℕ) → list_sheet l ≡ sheet_from (handed_at l) (suc (length l - 0)) start 0 0
unfolding list_sheet
list_start l = ap (λ k. sheet_from (handed_at l) (suc k) start 0 0) (omega arith)

pub extent-start : (w v : Sheet) → w ≡ v → extent_of w ≡ extent 0 v
extent-start w (sheet es n) q = rw (q, zero-add)
extent-start w (refused r) q = rw q

-- ---- the entries behind an extent

pub extent_inv : (w : Sheet) (k n : ℕ) → Ok (k, n) ≡ extent_of w → (es : List Entry) × (w ≡ sheet es n) × (length es ≡ k)
extent_inv (refused r) k n q = let z : ◌≡◌ {A = ℕ} 0 1 = cc in absurd (omega arith)
extent_inv (sheet es m) k n q = let t = ok_parts q in (es, ap (sheet es) (sym t.1), sym t.0)

pub extent_refused : (w : Sheet) (r : Refusal) → Err r ≡ extent_of w → w ≡ refused r
extent_refused (refused x) r q = ap refused (let t : x ≡ r = cc in t)
extent_refused (sheet es m) r q = let z : ◌≡◌ {A = ℕ} 0 1 = cc in absurd (omega arith)

-- ---- a sheet that nothing may follow

abbrev pub alone_x : (ℕ → ℕ → Bool) → Result (ℕ × ℕ) Refusal → Result (ℕ × ℕ) Refusal
alone_x over (Err r) = Err r
alone_x over (Ok (k, n)) = cond (over k n) (Err (refusal 9 n)) (Ok (k, n))

module _ (over : ℕ → ℕ → Bool) (w : Sheet) where
  pub alone-extent : (x : Result (ℕ × ℕ) Refusal) → x ≡ extent_of w → extent_of (alone over w) ≡ alone_x over x
  alone-extent x q = by w q
    where
      split : (es : List Entry) (n : ℕ) (b : Bool)
          → extent_of (cond b (refused (refusal 9 n)) (sheet es n)) ≡ cond b (Err (refusal 9 n)) (Ok (length es, n))
      split es n true = refl
      split es n false = refl

      by : (w : Sheet) → x ≡ extent_of w → extent_of (alone over w) ≡ alone_x over x
      by (refused r) q = rw q
      by (sheet es n) q = rw q (split es n (over (length es) n))

  -- what is a sheet alone is one, and nothing follows it
  pub alone-inv : (es : List Entry) (n : ℕ) → alone over w ≡ sheet es n → (w ≡ sheet es n) × (over (length es) n ≡ false)
  alone-inv es n q = by w refl q
    where
      split : (ds : List Entry) (m : ℕ) (b : Bool) → over (length ds) m ≡ b → w ≡ sheet ds m → cond b (refused (refusal 9 m)) (sheet ds m) ≡ sheet es n
          → (w ≡ sheet es n) × (over (length es) n ≡ false)
      split ds m true o f t = let z : ◌≡◌ {A = ℕ} 0 1 = cc in absurd (omega arith)
      split ds m false o f t = let i : ds ≡ es = cc in let j : m ≡ n = cc in (f ∙ t, rw (← i, ← j) o)

      by : (v : Sheet) → w ≡ v → alone over v ≡ sheet es n → (w ≡ sheet es n) × (over (length es) n ≡ false)
      by (refused r) f t = let z : ◌≡◌ {A = ℕ} 0 1 = cc in absurd (omega arith)
      by (sheet ds m) f t = split ds m (over (length ds) m) refl f t

  pub alone-is : (es : List Entry) (n : ℕ) → w ≡ sheet es n → over (length es) n ≡ false → alone over w ≡ sheet es n
  alone-is es n q o = ap (alone over) q ∙ rw o

  pub alone-same : (k n : ℕ) → Ok (k, n) ≡ extent_of (alone over w) → alone over w ≡ w
  alone-same k n q = let x = extent_inv (alone over w) k n q in x.1 ∙ sym (alone-inv x.0 n x.1).0

-- of bytes, and of a list
pub whole_by : (s : List ℕ) (x : Result (ℕ × ℕ) Refusal) → x ≡ extent_of (read_sheet s) → extent_of (read_whole s) ≡ alone_x (λ k n. ltb n (length s)) x
unfolding read_whole
whole_by s x q = alone-extent (λ k n. ltb n (length s)) (read_sheet s) x q

pub whole_same : (s : List ℕ) (k n : ℕ) → Ok (k, n) ≡ extent_of (read_whole s) → read_whole s ≡ read_sheet s
unfolding read_whole
whole_same s k n q = alone-same (λ k n. ltb n (length s)) (read_sheet s) k n q

pub whole_inv : (s : List ℕ) (es : List Entry) (n : ℕ) → read_whole s ≡ sheet es n → (read_sheet s ≡ sheet es n) × (length s ≤ n)
unfolding read_whole
whole_inv s es n q = let x = alone-inv (λ k n. ltb n (length s)) (read_sheet s) es n q in (x.0, ltb-false n (length s) x.1)

pub whole_is : (s : List ℕ) (es : List Entry) (n : ℕ) → read_sheet s ≡ sheet es n → length s ≤ n → read_whole s ≡ sheet es n
unfolding read_whole
whole_is s es n q h = alone-is (λ k n. ltb n (length s)) (read_sheet s) es n q (le-ltb n (length s) h)

pub list_by : (l : List ℕ) (x : Result (ℕ × ℕ) Refusal) → x ≡ extent_of (list_sheet l) → extent_of (list_whole l) ≡ alone_x (λ k n. ltb (k * 5) (length l)) x
unfolding list_whole
list_by l x q = alone-extent (λ k n. ltb (k * 5) (length l)) (list_sheet l) x q

pub list_same : (l : List ℕ) (k n : ℕ) → Ok (k, n) ≡ extent_of (list_whole l) → list_whole l ≡ list_sheet l
unfolding list_whole
list_same l k n q = alone-same (λ k n. ltb (k * 5) (length l)) (list_sheet l) k n q

pub list_inv : (l : List ℕ) (es : List Entry) (n : ℕ) → list_whole l ≡ sheet es n → (list_sheet l ≡ sheet es n) × (length l ≤ length es * 5)
unfolding list_whole
list_inv l es n q =
    let x = alone-inv (λ k n. ltb (k * 5) (length l)) (list_sheet l) es n q in
    (x.0, ltb-false (length es * 5) (length l) x.1)

pub list-is : (l : List ℕ) (es : List Entry) (n : ℕ) → list_sheet l ≡ sheet es n → length l ≤ length es * 5 → list_whole l ≡ sheet es n
unfolding list_whole
list-is l es n q h = alone-is (λ k n. ltb (k * 5) (length l)) (list_sheet l) es n q (le-ltb (length es * 5) (length l) h)

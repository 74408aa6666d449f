-- Laws of the rows: the search for the first refused one step by step, values stored row by row, and what stands in
-- the buffer at the end.
use Rattle.std.specs.Prelude.{◌≡◌, refl, Bool, true, false, List, [], ◌∷◌, ◌++◌, ℕ, zero, suc, ◌+◌, ◌-◌, ◌*◌, ◌≤◌, ◌<◌, leb, eqb, ℤ, pos, length, take, drop, Err, Ok, Result}
use Rattle.std.proofs.Common.{sym, subst, ◌∙◌, append_assoc, arith, add-zero, zero-add, suc-add, add-one, length-append, get_or-take, get_or-drop}
use Rattle.std.proofs.Math.Path.{ap}
use borrow.Author.Tests.{leb-true, leb-false, le-leb, lt-leb, eqb-true, eqb-false, eq-eqb, ne_eqb}
use Rattle.std.proofs.Math.Seq.{take_all}
use Rattle.std.proofs.lemmas.List.Edits.{sets, sets-eq}
use Rattle.std.proofs.lemmas.Slice.{put_mid-paste}
use borrow.Rule.Slice.PartMut.{put_mid}
use Rattle.rounding.specs.laws.Stores.{sets_append}
use Rattle.sheet_types.specs.declared.refusals.Refusal.{Refusal}
use Rattle.sheet_types.specs.Refusals.{refusal}
use Rattle.besselian_rows.specs.declared.besselian.Besselian.{Besselian}
use Rattle.besselian_rows.specs.Exact.{document02, accepted, Faithful}
use Rattle.besselian_rows.specs.Rounded.{elements_of}
use Rattle.besselian_rows.specs.AcceptedLaws.{accepted-is}
use Rattle.besselian_rows.specs.laws.Sizes.{ranged}
use Rattle.besselian_rows.specs.laws.Errors.{faithful}
use Rattle.besselian_rows.specs.Tables.{number, row_from, rowAt, first_refused, answer_to, eight, values_of, values_after, elements_at, Claimed}

-- ---- a row

-- six numbers from place 6i on
module _ (n : List ℤ) (i : ℕ) where
  abbrev six : List ℤ
  six = take (6 * i + 6 - 6 * i) (drop (6 * i) n)

  at : (k : ℕ) → k < 6 → number six k ≡ number n (6 * i + k)
  at k h = get_or-take (6 * i + 6 - 6 * i) (drop (6 * i) n) k (pos 0) (omega arith) ∙ get_or-drop (6 * i) n k (pos 0)

  pub row_in : row_from six ≡ rowAt n i
  unfolding rowAt
  row_in =
      rw (
        at 0 (omega arith) ∙ ap (number n) (add-zero (6 * i)),
        at 1 (omega arith),
        at 2 (omega arith),
        at 3 (omega arith),
        at 4 (omega arith),
        at 5 (omega arith),
      )

-- ---- the first row that is refused

module _ (n : List ℤ) (i k : ℕ) where
  pub refused-here : accepted (rowAt n i) ≡ false → first_refused n i (suc k) ≡ Err i
  unfolding first_refused
  refused-here e = rw e

  pub passed_here : accepted (rowAt n i) ≡ true → first_refused n i (suc k) ≡ first_refused n (suc i) k
  unfolding first_refused
  passed_here e = rw e

pub none_left : (n : List ℤ) (i : ℕ) → first_refused n i 0 ≡ Ok tt
unfolding first_refused
none_left n i = refl

abbrev is_whole : Result Unit ℕ → Type 0
is_whole (Ok tt) = Unit
is_whole (Err i) = ⊥

-- none is refused: the first is accepted, and none of the others is refused
whole_parts : (n : List ℤ) (i k : ℕ) → first_refused n i (suc k) ≡ Ok tt → (accepted (rowAt n i) ≡ true) × (first_refused n (suc i) k ≡ Ok tt)
whole_parts n i k e = go (accepted (rowAt n i)) refl
  where
    go : (b : Bool) → accepted (rowAt n i) ≡ b → (accepted (rowAt n i) ≡ true) × (first_refused n (suc i) k ≡ Ok tt)
    go true f = (f, sym (passed_here n i k f) ∙ e)
    go false f = absurd (subst is_whole (sym e ∙ refused-here n i k f) tt)

accepted-from : (n : List ℤ) (i k m : ℕ) → first_refused n i k ≡ Ok tt → m < k → accepted (rowAt n (i + m)) ≡ true
accepted-from n i zero m e h = absurd (omega arith)
accepted-from n i (suc k) zero e h = ap (λ (j : ℕ). accepted (rowAt n j)) (add-zero i) ∙ (whole_parts n i k e).0
accepted-from n i (suc k) (suc m) e h =
    ap (λ (j : ℕ). accepted (rowAt n j)) (omega arith) ∙ accepted-from n (suc i) k m (whole_parts n i k e).1 (omega arith)

pub accepted-at : (n : List ℤ) (i : ℕ) → first_refused n 0 7 ≡ Ok tt → i < 7 → accepted (rowAt n i) ≡ true
accepted-at n i e h = ap (λ (j : ℕ). accepted (rowAt n j)) (sym (zero-add i)) ∙ accepted-from n 0 7 i e h

-- ---- values stored row by row

pub length_values : (n : List ℤ) (k : ℕ) → length (values_of n k) ≡ 8 * k
unfolding values_of
length_values n zero = refl
length_values n (suc k) = omega (arith, length-append (values_of n k) (eight (elements_of document02 (rowAt n k))), length_values n k)

-- a list put at a place by `copy_from_slice` is stored from there on
pub pasted : (l part xs : List ℤ) (i m : ℕ) → length xs ≡ m → i + m ≤ length l → part ≡ xs
    → put_mid i (i + m - i) l part ≡ sets l i xs
pasted l part xs i m k h e =
    put_mid-paste i (i + m - i) l part xs m e (omega arith) (sym k)
    ∙ ap (λ (s : List ℤ). take i l ++ s ++ drop (i + m) l) (take_all m xs (omega (arith, k)))
    ∙ ap (λ (n : ℕ). take i l ++ xs ++ drop (i + n) l) (sym k)
    ∙ sym (sets-eq xs l i (omega (arith, k, h)))

values_last : (n : List ℤ) (k : ℕ) → values_of n k ++ eight (elements_of document02 (rowAt n k)) ≡ values_of n (k + 1)
unfolding values_of
values_last n k = rw (add-one k) refl

pub one_more : (old n : List ℤ) (k : ℕ)
    → sets (sets old 0 (values_of n k)) (8 * k) (eight (elements_of document02 (rowAt n k))) ≡ sets old 0 (values_of n (k + 1))
one_more old n k =
    ap (λ (i : ℕ). sets (sets old 0 (values_of n k)) i (eight (elements_of document02 (rowAt n k)))) (omega (arith, length_values n k))
    ∙ sym (sets_append (values_of n k) (eight (elements_of document02 (rowAt n k))) old 0)
    ∙ ap (sets old 0) (values_last n k)

pub all-stored : (n old : List ℤ) → 56 ≤ length old → sets old 0 (values_of n 7) ≡ values_of n 7 ++ drop 56 old
unfolding values_of
all-stored n old h =
    sets-eq (values_of n 7) old 0 (omega (arith, length_values n 7)) ∙ ap (λ (k : ℕ). values_of n 7 ++ drop k old) (length_values n 7)

-- ---- what stands in the buffer

get_d_skip : (xs ys : List ℤ) (m j : ℕ) → length xs ≡ m → number (xs ++ ys) (m + j) ≡ number ys j
get_d_skip [] ys m j e = ap (number ys) (omega arith)
get_d_skip (x ∷ xs) ys zero j e = absurd (omega arith)
get_d_skip (x ∷ xs) ys (suc m) j e = ap (number (x ∷ xs ++ ys)) (suc-add m j) ∙ get_d_skip xs ys m j (omega arith)

elements_skip : (xs ys : List ℤ) (i : ℕ) → length xs ≡ 8 * i → elements_at (xs ++ ys) i ≡ elements_at ys 0
unfolding elements_at
elements_skip xs ys i e =
    rw (
      ap (number (xs ++ ys)) (sym (add-zero (8 * i))) ∙ get_d_skip xs ys (8 * i) 0 e,
      get_d_skip xs ys (8 * i) 1 e,
      get_d_skip xs ys (8 * i) 2 e,
      get_d_skip xs ys (8 * i) 3 e,
      get_d_skip xs ys (8 * i) 4 e,
      get_d_skip xs ys (8 * i) 5 e,
      get_d_skip xs ys (8 * i) 6 e,
      get_d_skip xs ys (8 * i) 7 e,
    )

elements-first : (b : Besselian) (rest : List ℤ) → elements_at (eight b ++ rest) 0 ≡ b
unfolding elements_at
elements-first b rest = refl

-- row i of k + 1 is the last, or one before it
at_or_before : (n : List ℤ) (k i : ℕ) (tail : List ℤ)
    → (i < k → elements_at (values_of n k ++ tail) i ≡ elements_of document02 (rowAt n i)) → (k ≡ i → elements_at tail 0 ≡ elements_of document02 (rowAt n i))
    → i < suc k → elements_at (values_of n k ++ tail) i ≡ elements_of document02 (rowAt n i)
at_or_before n k i tail before last h = go (leb (suc i) k) refl
  where
    go : (b : Bool) → leb (suc i) k ≡ b → elements_at (values_of n k ++ tail) i ≡ elements_of document02 (rowAt n i)
    go true e = before (leb-true (suc i) k e)
    go false e =
        let same : k ≡ i = omega (arith, leb-false (suc i) k e) in
        elements_skip (values_of n k) tail i (omega (arith, length_values n k)) ∙ last same

elements-at : (n : List ℤ) (k i : ℕ) (rest : List ℤ) → i < k → elements_at (values_of n k ++ rest) i ≡ elements_of document02 (rowAt n i)
unfolding values_of
elements-at n zero i rest h = absurd (omega arith)
elements-at n (suc k) i rest h =
    ap (λ (l : List ℤ). elements_at l i) (append_assoc (values_of n k) (eight (elements_of document02 (rowAt n k))) rest)
    ∙ at_or_before n k i (eight (elements_of document02 (rowAt n k)) ++ rest) (λ (l : i < k). elements-at n k i (eight (elements_of document02 (rowAt n k)) ++ rest) l)
    (λ (e : k ≡ i). elements-first (elements_of document02 (rowAt n k)) rest ∙ ap (λ (j : ℕ). elements_of document02 (rowAt n j)) e) h

pub claimed : (n old : List ℤ) → first_refused n 0 7 ≡ Ok tt → Claimed (Ok tt) n (values_of n 7 ++ drop 56 old)
claimed n old e i h =
    subst (Faithful document02 (rowAt n i)) (sym (elements-at n 7 i (drop 56 old) h)) (faithful document02 ranged (rowAt n i) (accepted-is (rowAt n i) (accepted-at n i e h)))

-- ---- the answer

abbrev IsMade : Result Unit Refusal → Type 0
IsMade (Ok tt) = Unit
IsMade (Err r) = ⊥

module _ (n : List ℤ) (room : ℕ) where
  pub answer-shape : (length n ≡ 42 → ⊥) → answer_to n room ≡ Err (refusal 10 0)
  unfolding answer_to
  answer-shape h = rw (ne_eqb (length n) 42 h)

  module _ (c : length n ≡ 42) where
    pub answer-row : (i : ℕ) → first_refused n 0 7 ≡ Err i → answer_to n room ≡ Err (refusal 11 i)
    unfolding answer_to
    answer-row i e = rw (eq-eqb (length n) 42 c, e)

    -- the refusal that a row's place is mapped to
    pub answer-mapped : (m : Result Unit Refusal) (r : Refusal) → ((i : ℕ) → first_refused n 0 7 ≡ Err i → m ≡ Err (refusal 11 i))
        → (first_refused n 0 7 ≡ Ok tt → m ≡ Ok tt) → m ≡ Err r → answer_to n room ≡ Err r
    answer-mapped m r refused whole e = go (first_refused n 0 7) refl
      where
        go : (v : Result Unit ℕ) → first_refused n 0 7 ≡ v → answer_to n room ≡ Err r
        go (Err i) f = answer-row i f ∙ sym (refused i f) ∙ e
        go (Ok tt) f = absurd (subst IsMade (sym (whole f) ∙ e) tt)

    pub answer-room : first_refused n 0 7 ≡ Ok tt → room < 56 → answer_to n room ≡ Err (refusal 4 56)
    unfolding answer_to
    answer-room e h = rw (eq-eqb (length n) 42 c, e, lt-leb 56 room h)

    pub answer-made : first_refused n 0 7 ≡ Ok tt → 56 ≤ room → answer_to n room ≡ Ok tt
    unfolding answer_to
    answer-made e h = rw (eq-eqb (length n) 42 c, e, le-leb 56 room h)

-- made: 42 numbers, none refused, and a buffer that is long enough
pub record Good (n : List ℤ) (room : ℕ) : Type 0 where
  pub count : length n ≡ 42
  pub whole : first_refused n 0 7 ≡ Ok tt
  pub enough : 56 ≤ room

pub made_good : (n : List ℤ) (room : ℕ) → answer_to n room ≡ Ok tt → Good n room
made_good n room e = shape (eqb (length n) 42) refl
  where
    -- a refusal is no success
    no : {r : Result Unit Refusal} → answer_to n room ≡ r → IsMade r
    no f = subst IsMade (sym e ∙ f) tt

    fits : length n ≡ 42 → first_refused n 0 7 ≡ Ok tt → (b : Bool) → leb 56 room ≡ b → Good n room
    fits c w true h = record { count = c; whole = w; enough = leb-true 56 room h }
    fits c w false h = absurd (no (answer-room n room c w (leb-false 56 room h)))

    rows : length n ≡ 42 → (v : Result Unit ℕ) → first_refused n 0 7 ≡ v → Good n room
    rows c (Ok tt) f = fits c f (leb 56 room) refl
    rows c (Err i) f = absurd (no (answer-row n room c i f))

    shape : (b : Bool) → eqb (length n) 42 ≡ b → Good n room
    shape true h = rows (eqb-true (length n) 42 h) (first_refused n 0 7) refl
    shape false h = absurd (no (answer-shape n room (eqb-false (length n) 42 h)))

-- what is promised
module _ (n old : List ℤ) where
  pub after-refused : {r : Refusal} → answer_to n (length old) ≡ Err r
      → (old ≡ values_after (answer_to n (length old)) n old) × Claimed (answer_to n (length old)) n old
  after-refused e = rw e (refl, tt)

  pub after-made : (out : List ℤ) → answer_to n (length old) ≡ Ok tt → out ≡ sets old 0 (values_of n 7)
      → (out ≡ values_after (answer_to n (length old)) n old) × Claimed (answer_to n (length old)) n out
  after-made out e o =
      let g = made_good n (length old) e in
      let v = o ∙ all-stored n old g.enough in
      rw e (v, subst (Claimed (Ok tt) n) (sym v) (claimed n old g.whole))

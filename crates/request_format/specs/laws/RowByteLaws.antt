-- Laws of the fields one after the other: those from field k on are field k's bytes, or its number, and those from
-- field k + 1 on.
use Rattle.std.specs.Prelude.{◌≡◌, Bool, true, false, cond, ◌&&◌, eqb, ℤ, pos, length, get_or, drop, Err, Option, Some, None, ℕ}
use Rattle.std.proofs.Math.Path.{refl, sym, ap}
use Rattle.std.proofs.Common.{◌∙◌, arith, add-zero, add-one, lt-ltb, le-ltb, le-leb, length-drop, drop_of_length-le, drop-cons, drop-drop, get_or-drop}
use mathlib.Core.List.{List, [], ◌∷◌, ◌++◌, append_assoc}
use Prim.Native.Nat.{ℕ, zero, suc, ◌+◌, ◌≤◌, ◌<◌}
use Rattle.std.proofs.Math.Decide.{dec_lt}
use Rattle.std.proofs.lemmas.Bool.{lt-leb}
use Rattle.request_format.specs.declared.fields.Shape.{Shape}
use Rattle.request_format.specs.declared.fields.Shape.TheVariants as S
use Rattle.request_format.specs.declared.fields.Width.{Width}
use Rattle.request_format.specs.declared.fields.Width.TheVariants as W
use Rattle.request_format.specs.Fields.{bytes_in, holds, countOf}
use Rattle.request_format.specs.Rows.{rows, rowAt}
use Rattle.request_format.specs.laws.RowLaws.{rows_next, rows_end}
use Rattle.request_format.specs.Layout.{number_bytes, number_at, Piece, kind, number, count_in, fitting, bytes_by, Reading, misshaped, before, read_by}
use Rattle.request_format.specs.Request.{pieces_for}
use Rattle.request_format.specs.laws.RowBytes.{begun, pieces_in, rest, kind_bytes, field_bytes, kind_stands, part_from, part_of}

-- ---- the fields

-- all of them are the layout
pub rest_all : (s : Shape) → rest s 0 ≡ pieces_for s
unfolding rest rows
rest_all S.Eclipse = refl
rest_all S.Star = refl

-- as many as a request has numbers
pub pieces_count : (s : Shape) → countOf s ≡ count_in (pieces_for s)
pieces_count S.Eclipse = refl
pieces_count S.Star = refl

module _ (s : Shape) (k : ℕ) where
  pub rest_end : countOf s ≤ k → rest s k ≡ []
  unfolding rest
  rest_end h = ap pieces_in (rows_end s k h)

  rest-next : k < countOf s → rest s k ≡ begun (rowAt s k).4 (number (rowAt s k).3 ∷ rest s (k + 1))
  unfolding rest
  rest-next h = ap pieces_in (rows_next s k h)

-- the numbers from number k on
numbers_next : (ns : List ℤ) (k : ℕ) → k < length ns → drop k ns ≡ get_or ns k (pos 0) ∷ drop (k + 1) ns
numbers_next ns k h = rw (add-one, drop-cons ns k (pos 0) h)

-- ---- to bytes

bytes-begun : (b : ℕ) (l : List Piece) (ns : List ℤ) → bytes_by (begun b l) ns ≡ kind_bytes b ++ bytes_by l ns
unfolding bytes_by
bytes-begun zero l ns = refl
bytes-begun (suc b) l ns = refl

bytes-number : (w : Width) (l : List Piece) (z : ℤ) (ns : List ℤ) → bytes_by (number w ∷ l) (z ∷ ns) ≡ number_bytes w z ++ bytes_by l ns
unfolding bytes_by
bytes-number w l z ns = refl

fits-begun : (b : ℕ) (l : List Piece) (k : ℕ) (ns : List ℤ) → fitting (begun b l) k ns ≡ fitting l k ns
unfolding fitting
fits-begun zero l k ns = refl
fits-begun (suc b) l k ns = refl

fits-number : (w : Width) (l : List Piece) (k : ℕ) (z : ℤ) (ns : List ℤ) → fitting (number w ∷ l) k (z ∷ ns) ≡ cond (holds w z) (fitting l (k + 1) ns) (Err k)
unfolding fitting
fits-number w l k z ns = refl

module _ (s : Shape) (ns : List ℤ) (k : ℕ) (h : k < countOf s) (g : k < length ns) where
  abbrev z : ℤ
  z = get_or ns k (pos 0)

  pub bytes_next : bytes_by (rest s k) (drop k ns) ≡ field_bytes (rowAt s k) z ++ bytes_by (rest s (k + 1)) (drop (k + 1) ns)
  unfolding field_bytes
  bytes_next =
      ap (λ (l : List Piece). bytes_by l (drop k ns)) (rest-next s k h)
      ∙ bytes-begun (rowAt s k).4 (number (rowAt s k).3 ∷ rest s (k + 1)) (drop k ns)
      ∙ ap (λ (l : List ℕ). kind_bytes (rowAt s k).4 ++ l)
      (ap (bytes_by (number (rowAt s k).3 ∷ rest s (k + 1))) (numbers_next ns k g) ∙ bytes-number (rowAt s k).3 (rest s (k + 1)) z (drop (k + 1) ns))
      ∙ sym (append_assoc (kind_bytes (rowAt s k).4) (number_bytes (rowAt s k).3 z) (bytes_by (rest s (k + 1)) (drop (k + 1) ns)))

  pub fits_next : fitting (rest s k) k (drop k ns) ≡ cond (holds (rowAt s k).3 z) (fitting (rest s (k + 1)) (k + 1) (drop (k + 1) ns)) (Err k)
  fits_next =
      ap (λ (l : List Piece). fitting l k (drop k ns)) (rest-next s k h)
      ∙ fits-begun (rowAt s k).4 (number (rowAt s k).3 ∷ rest s (k + 1)) k (drop k ns)
      ∙ ap (fitting (number (rowAt s k).3 ∷ rest s (k + 1)) k) (numbers_next ns k g)
      ∙ fits-number (rowAt s k).3 (rest s (k + 1)) k z (drop (k + 1) ns)

-- ---- a kind, where there is one

pub kind_none : (b : ℕ) → b ≡ 0 → kind_bytes b ≡ []
kind_none zero e = refl
kind_none (suc b) e = absurd (omega arith)

pub kind_some : (b : ℕ) → (b ≡ 0 → ⊥) → kind_bytes b ≡ b ∷ []
kind_some zero h = absurd (h refl)
kind_some (suc b) h = refl

pub kind_short : (b : ℕ) → length (kind_bytes b) ≤ 1
kind_short zero = omega arith
kind_short (suc b) = omega arith

pub bytes_short : (w : Width) → bytes_in w ≤ 4
bytes_short W.Unsigned2 = omega arith
bytes_short W.Signed2 = omega arith
bytes_short W.Signed4 = omega arith

module _ (s : List ℕ) (at : ℕ) where
  pub stands-none : (b : ℕ) → b ≡ 0 → true ≡ kind_stands b s at
  unfolding kind_stands
  stands-none zero e = refl
  stands-none (suc b) e = absurd (omega arith)

  pub stands-past : (b : ℕ) → (b ≡ 0 → ⊥) → length s ≤ at → false ≡ kind_stands b s at
  unfolding kind_stands
  stands-past zero h l = absurd (h refl)
  stands-past (suc b) h l = rw (le-ltb at (length s) l)

  pub stands_here : (b : ℕ) → (b ≡ 0 → ⊥) → at < length s → eqb (get_or s at 0) b ≡ kind_stands b s at
  unfolding kind_stands
  stands_here zero h l = absurd (h refl)
  stands_here (suc b) h l = rw (lt-ltb at (length s) l)

-- ---- from bytes

-- a number, and what stands after it
abbrev pub onward : List Piece → List ℕ → Option (ℤ × ℕ) → Reading
onward l s (Some (z, next)) = before z (read_by l (drop next s))
onward l s None = misshaped

-- a number of the rest of some bytes is one of the bytes
number-drop : (w : Width) (s : List ℕ) (at : ℕ) → number_at w (drop at s) 0 ≡ number_at w s at
unfolding number_at
number-drop W.Unsigned2 s at = rw (get_or-drop at s 0 0, get_or-drop at s 1 0, add-zero at)
number-drop W.Signed2 s at = rw (get_or-drop at s 0 0, get_or-drop at s 1 0, add-zero at)
number-drop W.Signed4 s at =
    let e : at + 2 + 1 ≡ at + 3 = omega arith in
    rw (get_or-drop at s 0 0, get_or-drop at s 1 0, get_or-drop at s 2 0, get_or-drop at s 3 0, add-zero at, e)

read_number : (w : Width) (l : List Piece) (s : List ℕ) (at : ℕ) → at ≤ length s → read_by (number w ∷ l) (drop at s) ≡ onward l s (part_from w s at)
unfolding read_by
read_number w l s at h =
    let d = length-drop at s in
    elim (dec_lt (length s) (at + bytes_in w)) [
      | yes g ↦ rw (lt-leb (bytes_in w) (length (drop at s)) (omega arith), lt-leb (at + bytes_in w) (length s) g)
      | no g ↦ let e : at + bytes_in w ≤ length s = omega arith in
          rw (le-leb (bytes_in w) (length (drop at s)) (omega arith), le-leb (at + bytes_in w) (length s) e, number-drop w s at, drop-drop (bytes_in w) at s)
    ]

read_kind : (b : ℕ) (l : List Piece) (x : ℕ) (s : List ℕ) → read_by (kind b ∷ l) (x ∷ s) ≡ cond (eqb x b) (read_by l s) misshaped
unfolding read_by
read_kind b l x s = refl

read_nothing : (b : ℕ) (l : List Piece) → read_by (kind b ∷ l) [] ≡ misshaped
unfolding read_by
read_nothing b l = refl

read-begun : (b : ℕ) (w : Width) (l : List Piece) (s : List ℕ) (at : ℕ) → at ≤ length s
    → read_by (begun b (number w ∷ l)) (drop at s) ≡ onward l s (cond (kind_stands b s at) (part_from w s (at + length (kind_bytes b))) None)
unfolding kind_stands
read-begun zero w l s at h = rw (add-zero at) (read_number w l s at h)
read-begun (suc b) w l s at h =
    elim (dec_lt at (length s)) [
      | yes g ↦ rw (lt-ltb at (length s) g, drop-cons s at 0 g, ← add-one at)
          (read_kind (suc b) (number w ∷ l) (get_or s at 0) (drop (at + 1) s) ∙ by (eqb (get_or s at 0) (suc b)) g)
      | no g ↦ let e : length s ≤ at = omega arith in rw (le-ltb at (length s) e, drop_of_length-le s {i = at} e) (read_nothing (suc b) (number w ∷ l))
    ]
  where
    by : (t : Bool) → at < length s → cond t (read_by (number w ∷ l) (drop (at + 1) s)) misshaped
        ≡ onward l s (cond (true && t) (part_from w s (at + 1)) None)
    by true g = read_number w l s (at + 1) (omega arith)
    by false g = refl

pub read_next : (shape : Shape) (s : List ℕ) (at k : ℕ) → k < countOf shape → at ≤ length s
    → read_by (rest shape k) (drop at s) ≡ onward (rest shape (k + 1)) s (part_of (rowAt shape k) s at)
unfolding part_of
read_next shape s at k h g =
    ap (λ (l : List Piece). read_by l (drop at s)) (rest-next shape k h) ∙ read-begun (rowAt shape k).4 (rowAt shape k).3 (rest shape (k + 1)) s at g

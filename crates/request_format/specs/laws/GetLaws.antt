-- Laws of the numbers read one after the other (`Getting`).
use Rattle.std.specs.Prelude.{◌≡◌, refl, Bool, true, false, cond, ℕ, ◌+◌, ◌≤◌, ◌<◌, leb, ℤ, length, take, drop, set, None, Some, Option}
use Rattle.std.proofs.Common.{sym, ◌∙◌, arith, add-one, length-set, drop_of_length-le, drop-cons, take-suc-set}
use Rattle.std.proofs.Math.Path.{ap}
use mathlib.Core.List.{List, [], ◌∷◌, ◌++◌, append_assoc, append-nil}
use borrow.Author.Tests.{le-leb, lt-leb, leb-true}
use Rattle.std.proofs.Math.Seq.{take_all}
use Rattle.rounding.specs.laws.Results.{some_parts}
use Rattle.request_format.specs.declared.fields.Field.{Field}
use Rattle.request_format.specs.declared.fields.Shape.{Shape}
use Rattle.request_format.specs.Fields.{bytes_in, countOf}
use Rattle.request_format.specs.Rows.{rowAt}
use Rattle.request_format.specs.Layout.{number_at, Piece, Reading, numbers, misshaped, before, read_by}
use Rattle.request_format.specs.Request.{reading_for, got_of, numbers_after}
use Rattle.request_format.specs.laws.RowBytes.{rest, kind_bytes, kind_stands, part_from, part_of}
use Rattle.request_format.specs.laws.RowByteLaws.{rest_all, rest_end, onward, read_next}

-- ---- one field

module _ (f : Field) (s : List ℕ) (at : ℕ) where
  pub part-other : kind_stands f.4 s at ≡ false → None ≡ part_of f s at
  unfolding part_of
  part-other e = rw e

  module _ (start next : ℕ) (k : kind_stands f.4 s at ≡ true) (e : start ≡ at + length (kind_bytes f.4)) (n : next ≡ start + bytes_in f.3) where
    pub part-short : length s < next → None ≡ part_of f s at
    unfolding part_of
    part-short h = rw (k, ← e, ← n, lt-leb next (length s) h)

    pub part-is : (z : ℤ) → next ≤ length s → z ≡ number_at f.3 s start → Some (z, next) ≡ part_of f s at
    unfolding part_of
    part-is z h q = rw (k, ← e, ← n, le-leb next (length s) h, q)

-- the place after a field is in the bytes
pub part-within : (f : Field) (s : List ℕ) (at : ℕ) (z : ℤ) (next : ℕ) → part_of f s at ≡ Some (z, next) → next ≤ length s
unfolding part_of
part-within f s at z next e = by (kind_stands f.4 s at) e
  where
    start : ℕ
    start = at + length (kind_bytes f.4)

    from : (t : Bool) → leb (start + bytes_in f.3) (length s) ≡ t → cond {A = Option (ℤ × ℕ)} t (Some ((number_at f.3 s start), (start + bytes_in f.3))) None
        ≡ Some (z, next) → next ≤ length s
    from true q r = let n : start + bytes_in f.3 ≡ next = (some_parts r).1 in omega (arith, leb-true (start + bytes_in f.3) (length s) q)
    from false q r = let x : ◌≡◌ {A = ℕ} 0 1 = cc in absurd (omega arith)

    by : (t : Bool) → cond t (part_from f.3 s start) None ≡ Some (z, next) → next ≤ length s
    by true r = from (leb (start + bytes_in f.3) (length s)) refl r
    by false r = let x : ◌≡◌ {A = ℕ} 0 1 = cc in absurd (omega arith)

-- ---- the numbers before number k are read, from the bytes before `at`

abbrev joined : List ℤ → Reading → Reading
joined xs (numbers ys) = numbers (xs ++ ys)
joined xs misshaped = misshaped

joined-before : (xs : List ℤ) (z : ℤ) (r : Reading) → joined xs (before z r) ≡ joined (xs ++ (z ∷ [])) r
joined-before xs z (numbers ys) = ap numbers (sym (append_assoc xs (z ∷ []) ys))
joined-before xs z misshaped = refl

joined-none : (r : Reading) → r ≡ joined [] r
joined-none (numbers ys) = refl
joined-none misshaped = refl

pub record Getting (shape : Shape) (s : List ℕ) (found : List ℤ) (at k : ℕ) : Type 0 where
  pub reading : reading_for shape s ≡ joined (take k found) (read_by (rest shape k) (drop at s))
  pub place : at ≤ length s
  pub room : length found ≡ countOf shape
  pub fields : k ≤ countOf shape

pub getting_start : (shape : Shape) (s : List ℕ) (found : List ℤ) → length found ≡ countOf shape → Getting shape s found 0 0
unfolding reading_for
getting_start shape s found r =
    record {
      reading = ap (λ (l : List Piece). read_by l s) (sym (rest_all shape)) ∙ joined-none (read_by (rest shape 0) s);
      place = omega arith;
      room = r;
      fields = omega arith;
    }

-- the answer, and the numbers where the bytes are of the shape
pub record Read (shape : Shape) (s : List ℕ) (r : Option Unit) (found : List ℤ) : Type 0 where
  pub answer : r ≡ got_of (reading_for shape s)
  pub all : r ≡ Some tt → reading_for shape s ≡ numbers found

module _ (shape : Shape) (s : List ℕ) (found : List ℤ) where
  read-numbers : reading_for shape s ≡ numbers found → Read shape s (Some tt) found
  read-numbers e = record { answer = ap got_of (sym e); all = λ q. e }

  read-other : reading_for shape s ≡ misshaped → Read shape s None found
  read-other e = record { answer = ap got_of (sym e); all = λ q. let x : ◌≡◌ {A = ℕ} 0 1 = cc in absurd (omega arith) }

module _ (shape : Shape) (s : List ℕ) (found : List ℤ) (at k : ℕ) (g : Getting shape s found at k) where
  module _ (h : k < countOf shape) where
    next : (p : Option (ℤ × ℕ)) → part_of (rowAt shape k) s at ≡ p → reading_for shape s ≡ joined (take k found) (onward (rest shape (k + 1)) s p)
    next p e = g.reading ∙ ap (joined (take k found)) (read_next shape s at k h g.place ∙ ap (onward (rest shape (k + 1)) s) e)

    pub getting-other : (kept : List ℤ) → part_of (rowAt shape k) s at ≡ None → Read shape s None kept
    getting-other kept e = read-other shape s kept (next None e)

    pub getting-more : (z : ℤ) (after : ℕ) → part_of (rowAt shape k) s at ≡ Some (z, after) → Getting shape s (set found k z) after (k + 1)
    getting-more z after e =
        record {
          reading = next (Some (z, after)) e ∙ joined-before (take k found) z (read_by (rest shape (k + 1)) (drop after s))
              ∙ ap (λ (l : List ℤ). joined l (read_by (rest shape (k + 1)) (drop after s))) one;
          place = part-within (rowAt shape k) s at z after e;
          room = length-set found k z ∙ g.room;
          fields = omega arith;
        }
      where
        one : take k found ++ (z ∷ []) ≡ take (k + 1) (set found k z)
        one = rw (add-one, take-suc-set found k z (omega (arith, g.room)))

  module _ (h : countOf shape ≤ k) where
    at-end : reading_for shape s ≡ joined (take k found) (read_by [] (drop at s))
    at-end = g.reading ∙ ap (λ (l : List Piece). joined (take k found) (read_by l (drop at s))) (rest_end shape k h)

    pub getting-longer : (at ≡ length s → ⊥) → Read shape s None found
    unfolding read_by
    getting-longer n = read-other shape s found
        (at-end ∙ ap (λ (l : List ℕ). joined (take k found) (read_by [] l)) (drop-cons s at 0 (omega (arith, g.place))))

    pub getting-end : at ≡ length s → Read shape s (Some tt) found
    unfolding read_by
    getting-end n =
        read-numbers shape s found
        (at-end ∙ ap (λ (l : List ℕ). joined (take k found) (read_by [] l)) (drop_of_length-le s {i = at} (omega arith))
        ∙ ap numbers (append-nil (take k found) ∙ take_all k found (omega (arith, g.room))))

-- ---- what is promised

module _ (shape : Shape) (s : List ℕ) (r : Option Unit) (found old : List ℤ) (l : Read shape s r found) where
  pub get-numbers : r ≡ Some tt → (r ≡ got_of (reading_for shape s)) × (found ≡ numbers_after (reading_for shape s) old)
  get-numbers e = (l.answer, rw (l.all e))

  pub get-misshaped : r ≡ None → (r ≡ got_of (reading_for shape s)) × (old ≡ numbers_after (reading_for shape s) old)
  get-misshaped e = (l.answer, by (reading_for shape s) (sym l.answer ∙ e))
    where
      by : (x : Reading) → got_of x ≡ None → old ≡ numbers_after x old
      by (numbers ns) q = let x : ◌≡◌ {A = ℕ} 0 1 = cc in absurd (omega arith)
      by misshaped q = refl

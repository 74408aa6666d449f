-- Laws of the numbers put one after the other (`Putting`).
use Rattle.std.specs.Prelude.{◌≡◌, true, false, ℕ, zero, suc, ◌+◌, ◌≤◌, ◌<◌, ℤ, pos, length, get_or, drop, Result, Ok, Err}
use Rattle.std.proofs.Math.Path.{sym, ap}
use Rattle.std.proofs.Common.{◌∙◌, arith, length-append, drop_of_length-le}
use mathlib.Core.List.{List, ◌++◌, append-nil}
use Rattle.std.proofs.Math.Decide.{dec_lt}
use Rattle.std.proofs.Math.Seq.{sets, length-sets}
use Rattle.std.proofs.lemmas.List.Edits.{sets-eq}
use Rattle.rounding.specs.laws.Stores.{sets_append}
use Rattle.request_format.specs.declared.fields.Field.{Field}
use Rattle.request_format.specs.declared.fields.Shape.{Shape}
use Rattle.request_format.specs.Fields.{bytes_in, holds, countOf}
use Rattle.request_format.specs.Rows.{rowAt}
use Rattle.request_format.specs.Layout.{number_bytes, Piece, fitting, bytes_by}
use Rattle.request_format.specs.laws.NumberLaws.{length-number}
use Rattle.request_format.specs.laws.LayoutLaws.{length-bytes}
use Rattle.request_format.specs.Request.{pieces_for, size_for, put_for, bytes_for, after_for}
use Rattle.request_format.specs.laws.RowBytes.{rest, kind_bytes, field_bytes}
use Rattle.request_format.specs.laws.RowByteLaws.{rest_all, pieces_count, rest_end, bytes_next, fits_next}

-- ---- bytes one after the other

sets_whole : (l b : List ℕ) → length l ≡ length b → sets l 0 b ≡ b
sets_whole l b e = sets-eq b l 0 (omega arith) ∙ ap (λ (r : List ℕ). b ++ r) (drop_of_length-le l {i = 0 + length b} (omega arith)) ∙ append-nil b

-- a field's kind and its number
pub field_length : (f : Field) (z : ℤ) → length (field_bytes f z) ≡ length (kind_bytes f.4) + bytes_in f.3
unfolding field_bytes
field_length f z = length-append (kind_bytes f.4) (number_bytes f.3 z) ∙ omega (arith, length-number f.3 z)

pub field_put : (f : Field) (z : ℤ) (out kinds new : List ℕ) (at start : ℕ) → start ≡ at + length (kind_bytes f.4) → kinds ≡ sets out at (kind_bytes f.4)
    → new ≡ sets kinds start (number_bytes f.3 z) → new ≡ sets out at (field_bytes f z)
unfolding field_bytes
field_put f z out kinds new at start e p q = q ∙ rw (p, e) (sym (sets_append (kind_bytes f.4) (number_bytes f.3 z) out at))

-- ---- the numbers before number k are put, in the bytes before `at`

-- what is left to put
abbrev left : Shape → List ℤ → ℕ → List ℕ
left s ns k = bytes_by (rest s k) (drop k ns)

pub record Putting (s : Shape) (ns : List ℤ) (made : List ℕ) (at k : ℕ) : Type 0 where
  pub fits : put_for s ns ≡ fitting (rest s k) k (drop k ns)
  pub bytes : sets made at (left s ns k) ≡ bytes_for s ns
  pub place : at + length (left s ns k) ≡ size_for s
  pub room : length made ≡ size_for s
  pub fields : k ≤ countOf s

pub putting_start : (s : Shape) (ns : List ℤ) (made : List ℕ) → length ns ≡ countOf s → length made ≡ size_for s → Putting s ns made 0 0
unfolding put_for bytes_for
putting_start s ns made e r =
    let all : length (left s ns 0) ≡ size_for s = ap (λ (l : List Piece). length (bytes_by l ns)) (rest_all s) ∙ length-bytes (pieces_for s) ns (e ∙ pieces_count s) in
    record {
      fits = ap (λ (l : List Piece). fitting l 0 ns) (sym (rest_all s));
      bytes = sets_whole made (left s ns 0) (r ∙ sym all) ∙ ap (λ (l : List Piece). bytes_by l ns) (rest_all s);
      place = omega (arith, all);
      room = r;
      fields = omega arith;
    }

-- the answer, and the bytes where all fit
pub record Laid (s : Shape) (ns : List ℤ) (r : Result Unit ℕ) (made : List ℕ) : Type 0 where
  pub answer : r ≡ put_for s ns
  pub bytes : r ≡ Ok tt → made ≡ bytes_for s ns

module _ (s : Shape) (ns : List ℤ) (made : List ℕ) (at k : ℕ) (e : length ns ≡ countOf s) (p : Putting s ns made at k) where
  module _ (h : k < countOf s) where
    abbrev z : ℤ
    z = get_or ns k (pos 0)

    abbrev field : List ℕ
    field = field_bytes (rowAt s k) z

    next : left s ns k ≡ field ++ left s ns (k + 1)
    next = bytes_next s ns k h (omega arith)

    -- the field fits
    pub putting-room : at + length field ≤ length made
    putting-room = omega (arith, p.place, p.room, ap (λ (l : List ℕ). length l) next, length-append field (left s ns (k + 1)))

    pub putting-unfit : holds (rowAt s k).3 z ≡ false → Laid s ns (Err k) made
    putting-unfit t =
        record { answer = sym (p.fits ∙ fits_next s ns k h (omega arith) ∙ rw t); bytes = λ q. let x : ◌≡◌ {A = ℕ} 0 1 = cc in absurd (omega arith) }

    pub putting-more : (new : List ℕ) (after : ℕ) → holds (rowAt s k).3 z ≡ true → after ≡ at + length field → new ≡ sets made at field
        → Putting s ns new after (k + 1)
    putting-more new after t a b =
        rw (a, b)
        (record {
          fits = p.fits ∙ fits_next s ns k h (omega arith) ∙ rw t;
          bytes = sym (sets_append field (left s ns (k + 1)) made at) ∙ ap (sets made at) (sym next) ∙ p.bytes;
          place = omega (arith, p.place, ap (λ (l : List ℕ). length l) next, length-append field (left s ns (k + 1)));
          room = length-sets made at field ∙ p.room;
          fields = omega arith;
        })

  pub putting-end : countOf s ≤ k → Laid s ns (Ok tt) made
  unfolding fitting bytes_by
  putting-end h =
      record {
        answer = sym (p.fits ∙ ap (λ (l : List Piece). fitting l k (drop k ns)) (rest_end s k h));
        bytes = λ q. ap (λ (l : List Piece). sets made at (bytes_by l (drop k ns))) (sym (rest_end s k h)) ∙ p.bytes;
      }

-- ---- what is promised

module _ (s : Shape) (ns : List ℤ) (r : Result Unit ℕ) (made old : List ℕ) (l : Laid s ns r made) where
  pub put-done : r ≡ Ok tt → (r ≡ put_for s ns) × (made ≡ after_for s ns old)
  unfolding after_for
  put-done e = let q : put_for s ns ≡ (Ok tt) = sym l.answer ∙ e in (l.answer, l.bytes e ∙ rw q)

  pub put-unfit : (k : ℕ) → r ≡ Err k → (r ≡ put_for s ns) × (old ≡ after_for s ns old)
  unfolding after_for
  put-unfit k e = let q : put_for s ns ≡ Err k = sym l.answer ∙ e in (l.answer, rw q)

-- numbers that their bytes hold are put
pub all_put : (s : Shape) (ns : List ℤ) → length ns ≡ countOf s → ((k : ℕ) → k < countOf s → holds (rowAt s k).3 (get_or ns k (pos 0)) ≡ true) → put_for s ns ≡ Ok tt
unfolding put_for fitting
all_put s ns e h = ap (λ (l : List Piece). fitting l 0 ns) (sym (rest_all s)) ∙ from (countOf s) 0 (omega arith)
  where
    ends : (k : ℕ) → countOf s ≤ k → fitting (rest s k) k (drop k ns) ≡ Ok tt
    ends k l = ap (λ (x : List Piece). fitting x k (drop k ns)) (rest_end s k l)

    from : (others k : ℕ) → countOf s ≤ k + others → fitting (rest s k) k (drop k ns) ≡ Ok tt
    from zero k l = ends k (omega arith)
    from (suc n) k l =
        elim (dec_lt k (countOf s)) [
          | yes g ↦ fits_next s ns k g (omega arith) ∙ rw (h k g) (from n (k + 1) (omega arith))
          | no g ↦ ends k (omega arith)
        ]

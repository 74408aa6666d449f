-- Writing and reading by one layout undo each other: what is written is read back (`read_back`), and what is read is
-- written back (`write_back`).
use Rattle.std.specs.Prelude.{◌≡◌, refl, Bool, true, false, cond, List, [], ◌∷◌, ◌++◌, ℕ, suc, ◌+◌, ◌≤◌, eqb, leb, ℤ, length, drop, Ok, Err}
use Rattle.std.proofs.Common.{ap, ◌∙◌, arith, eq-eqb, le-leb, leb-true, eqb-true, length-append, take-append-drop, drop_at}
use Rattle.request_format.specs.declared.fields.Width.{Width}
use Rattle.request_format.specs.Fields.{bytes_in, holds}
use Rattle.request_format.specs.Layout.{number_bytes, number_at, Piece, kind, number, count_in, size_of, fitting, bytes_by, Reading, numbers, misshaped, before, read_by}
use Rattle.big_endian.specs.Numbers.{Bytes}
use Rattle.request_format.specs.laws.NumberLaws.{bytes_after, length-number, number_back, number-again, number-held}

-- ---- numbers that fit

pub fits_cases : (w : Width) (l : List Piece) (k : ℕ) (z : ℤ) (ns : List ℤ) → fitting (number w ∷ l) k (z ∷ ns) ≡ Ok tt → (holds w z ≡ true)
    × (fitting l (k + 1) ns ≡ Ok tt)
unfolding fitting
fits_cases w l k z ns e = by (holds w z) e
  where
    by : (b : Bool) → cond b (fitting l (k + 1) ns) (Err k) ≡ Ok tt → (b ≡ true) × (fitting l (k + 1) ns ≡ Ok tt)
    by true q = (refl, q)
    by false q = let x : ◌≡◌ {A = ℕ} 0 1 = cc in absurd (omega arith)

-- as many bytes as the layout says
pub length-bytes : (l : List Piece) (ns : List ℤ) → length ns ≡ count_in l → length (bytes_by l ns) ≡ size_of l
unfolding bytes_by
length-bytes [] ns e = refl
length-bytes (kind b ∷ l) ns e = ap suc (length-bytes l ns e)
length-bytes (number w ∷ l) [] e = absurd (omega arith)
length-bytes (number w ∷ l) (z ∷ ns) e =
    length-append (number_bytes w z) (bytes_by l ns) ∙ omega (arith, length-number w z, length-bytes l ns (omega arith))

-- numbers that fit, written, are read back
pub read_back : (l : List Piece) (k : ℕ) (ns : List ℤ) → length ns ≡ count_in l → fitting l k ns ≡ Ok tt → read_by l (bytes_by l ns) ≡ numbers ns
unfolding bytes_by read_by fitting
read_back [] k [] c f = refl
read_back [] k (z ∷ ns) c f = absurd (omega arith)
read_back (kind b ∷ l) k ns c f = rw (eq-eqb b b refl) (read_back l k ns c f)
read_back (number w ∷ l) k [] c f = absurd (omega arith)
read_back (number w ∷ l) k (z ∷ ns) c f =
    let h = fits_cases w l k z ns f in
    let n = length-number w z in
    let room : bytes_in w ≤ length (number_bytes w z ++ bytes_by l ns) = omega (arith, length-append (number_bytes w z) (bytes_by l ns)) in
    rw (
      le-leb (bytes_in w) (length (number_bytes w z ++ bytes_by l ns)) room,
      number_back w z (bytes_by l ns) h.0,
      drop_at (number_bytes w z) (bytes_by l ns) (bytes_in w) n,
      read_back l (k + 1) ns (omega arith) h.1,
    )

-- ---- bytes that are read

-- they are the bytes of their numbers, which are as many as the layout says, and fit
pub record Written (l : List Piece) (k : ℕ) (s : List ℕ) (ns : List ℤ) : Type 0 where
  pub count : length ns ≡ count_in l
  pub fits : fitting l k ns ≡ Ok tt
  pub bytes : bytes_by l ns ≡ s

-- the numbers after a first one
record After (z : ℤ) (r : Reading) (ns : List ℤ) : Type 0 where
  others : List ℤ
  is : r ≡ numbers others
  all : ns ≡ z ∷ others

after : (z : ℤ) (r : Reading) (ns : List ℤ) → before z r ≡ numbers ns → After z r ns
after z (numbers ms) ns e = record { others = ms; is = refl; all = cc }
after z misshaped ns e = let x : ◌≡◌ {A = ℕ} 0 1 = cc in absurd (omega arith)

pub write_back : (l : List Piece) (k : ℕ) (s : List ℕ) (ns : List ℤ) → Bytes s → read_by l s ≡ numbers ns → Written l k s ns
unfolding read_by bytes_by fitting
write_back [] k [] ns b e = let q : ns ≡ [] = cc in rw q (record { count = refl; fits = refl; bytes = refl })
write_back [] k (x ∷ s) ns b e = let q : ◌≡◌ {A = ℕ} 0 1 = cc in absurd (omega arith)
write_back (kind c ∷ l) k [] ns b e = let q : ◌≡◌ {A = ℕ} 0 1 = cc in absurd (omega arith)
write_back (kind c ∷ l) k (x ∷ s) ns b e = by (eqb x c) refl e (λ q. write_back l k s ns (bytes_after 1 (x ∷ s) b) q)
  where
    by : (t : Bool) → eqb x c ≡ t → cond t (read_by l s) misshaped ≡ numbers ns → (read_by l s ≡ numbers ns → Written l k s ns)
        → Written (kind c ∷ l) k (x ∷ s) ns
    by true q r go = let w = go r in let y = eqb-true x c q in record { count = w.count; fits = w.fits; bytes = rw (w.bytes, y) }
    by false q r go = let z : ◌≡◌ {A = ℕ} 0 1 = cc in absurd (omega arith)
write_back (number w ∷ l) k s ns b e =
    by (leb (bytes_in w) (length s)) refl e (λ ms q. write_back l (k + 1) (drop (bytes_in w) s) ms (bytes_after (bytes_in w) s b) q)
  where
    z : ℤ
    z = number_at w s 0

    by : (t : Bool) → leb (bytes_in w) (length s) ≡ t → cond t (before z (read_by l (drop (bytes_in w) s))) misshaped ≡ numbers ns
        → ((ms : List ℤ) → read_by l (drop (bytes_in w) s) ≡ numbers ms → Written l (k + 1) (drop (bytes_in w) s) ms) → Written (number w ∷ l) k s ns
    by true q r go =
        let a = after z (read_by l (drop (bytes_in w) s)) ns r in
        let o = go a.others a.is in
        let h = leb-true (bytes_in w) (length s) q in
        rw a.all
        (record {
          count = ap suc o.count;
          fits = rw (number-held w s b) o.fits;
          bytes = rw (o.bytes, number-again w s b h) (take-append-drop (bytes_in w) s);
        })
    by false q r go = let x : ◌≡◌ {A = ℕ} 0 1 = cc in absurd (omega arith)

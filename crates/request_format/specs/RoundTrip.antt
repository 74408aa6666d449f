-- A request's numbers and its bytes, an eclipse's or a star's: each is recovered from the other.
use Rattle.std.specs.Prelude.{◌≡◌, refl, List, [], ◌∷◌, ℕ, zero, suc, ◌+◌, ◌<◌, ℤ, pos, nat_abs, length, get_or, Ok}
use Rattle.std.proofs.Math.Path.{sym}
use Rattle.std.proofs.Common.{◌∙◌, arith}
use Rattle.request_format.specs.declared.fields.Shape.{Shape}
use Rattle.request_format.specs.declared.fields.Shape.TheVariants as S
use Rattle.request_format.specs.Fields.{countOf}
use Rattle.request_format.specs.laws.WidthLaws.{held, held-size, whole_small}
use Rattle.request_format.specs.Layout.{Piece, kind, number, count_in, fitting, numbers}
use Rattle.big_endian.specs.Numbers.{Bytes}
use Rattle.request_format.specs.laws.LayoutLaws as Layouts
use Rattle.request_format.specs.Request.{pieces_for, size_for, put_for, bytes_for, reading_for}
use Rattle.request_format.specs.laws.RowByteLaws.{pieces_count}

-- exactly 115 bytes: document 01's 109, 4 of ΔT (document 02, wish 1) and 2 of the guard (wish 9)
pub size_is : size_for S.Eclipse ≡ 115
size_is = refl

-- 36 less: 9 numbers less
pub star-size-is : size_for S.Star ≡ 79
star-size-is = refl

-- numbers that fit are small
fits_small : (l : List Piece) (k : ℕ) (ns : List ℤ) → length ns ≡ count_in l → fitting l k ns ≡ Ok tt → (j : ℕ) → nat_abs (get_or ns j (pos 0)) < 4294967296
unfolding fitting
fits_small l k [] c e j = omega arith
fits_small [] k (z ∷ ns) c e j = absurd (omega arith)
fits_small (kind b ∷ l) k (z ∷ ns) c e j = fits_small l k (z ∷ ns) c e j
fits_small (number w ∷ l) k (z ∷ ns) c e zero =
    let h = Layouts.fits_cases w l k z ns e in omega (arith, whole_small w, held-size w z (held w z h.0))
fits_small (number w ∷ l) k (z ∷ ns) c e (suc j) = fits_small l (k + 1) ns (omega arith) (Layouts.fits_cases w l k z ns e).1 j

module _ (shape : Shape) where
  -- as many bytes as it says
  pub bytes-length : (ns : List ℤ) → length ns ≡ countOf shape → length (bytes_for shape ns) ≡ size_for shape
  unfolding bytes_for
  bytes-length ns c = Layouts.length-bytes (pieces_for shape) ns (c ∙ pieces_count shape)

  -- numbers that are put are read back
  pub read_back : (ns : List ℤ) → length ns ≡ countOf shape → put_for shape ns ≡ Ok tt → reading_for shape (bytes_for shape ns) ≡ numbers ns
  unfolding put_for bytes_for reading_for
  read_back ns c e = Layouts.read_back (pieces_for shape) 0 ns (c ∙ pieces_count shape) e

  module _ (s : List ℕ) (ns : List ℤ) (b : Bytes s) (e : reading_for shape s ≡ numbers ns) where
    written : Layouts.Written (pieces_for shape) 0 s ns
    unfolding reading_for
    written = Layouts.write_back (pieces_for shape) 0 s ns b e

    -- bytes that are read are those of their numbers, which fit
    pub write_back : (length ns ≡ countOf shape) × (put_for shape ns ≡ Ok tt) × (bytes_for shape ns ≡ s)
    unfolding put_for bytes_for
    write_back = (written.count ∙ sym (pieces_count shape), written.fits, written.bytes)

    -- and are small
    pub numbers-small : (j : ℕ) → nat_abs (get_or ns j (pos 0)) < 4294967296
    numbers-small = fits_small (pieces_for shape) 0 ns written.count written.fits

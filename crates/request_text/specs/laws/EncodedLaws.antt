-- The numbers of a typed request fit their bytes, so they are put, and read back.
use Rattle.std.specs.Prelude.{◌≡◌, refl, List, ◌++◌, ℕ, ◌+◌, ◌≤◌, ℤ, length, take, drop, Ok, Result, Err}
use Rattle.std.proofs.Common.{sym, ap, ◌∙◌, arith, take_at}
use Rattle.std.proofs.lemmas.List.Edits.{sets-eq}
use Rattle.request_format.specs.declared.fields.Shape.{Shape}
use Rattle.request_format.specs.declared.fields.Shape.TheVariants as S
use Rattle.request_format.specs.Layout.{numbers}
use Rattle.request_format.specs.Request.{size_for, put_for, bytes_for, after_for, reading_for}
use Rattle.request_format.specs.laws.PutLaws.{all_put}
use Rattle.request_format.specs.RoundTrip.{bytes-length, read_back}
use Rattle.request_format.specs.Input.{input_by, input_of, star_by, star_asked}
use Rattle.request_text.specs.declared.Fault.{Fault}
use Rattle.request_text.specs.Typing.{Typing, given, refused, typing_of, answer_of, numbers_from}
use Rattle.request_text.specs.laws.FitLaws.{Fit, numbers_fit}
use Rattle.decimal_text.specs.Texts.{Put}
use Rattle.request_text.specs.Encoded.{ReadAs, Encoded}

-- a text at the start of a buffer that holds it
pub put_start : (x old new : List ℕ) (r : ℕ) → length x ≤ length old → Put old 0 x new r → new ≡ x ++ drop (length x) old
put_start x old new r h p =
    let z : 0 + length x ≡ length x = omega arith in p.room ∙ sets-eq x old 0 (omega arith) ∙ ap (λ (k : ℕ). x ++ drop k old) z

module _ (shape : Shape) where
  typed-done : (ns : List ℤ) → Fit shape ns → put_for shape ns ≡ Ok tt
  typed-done ns f = all_put shape ns f.all f.each

  after-done : (ns : List ℤ) (old : List ℕ) → put_for shape ns ≡ Ok tt → after_for shape ns old ≡ bytes_for shape ns
  unfolding after_for
  after-done ns old e = rw e

  -- numbers that are put are those that the bytes hold
  held : (ns : List ℤ) → Fit shape ns → reading_for shape (bytes_for shape ns) ≡ numbers ns
  held ns f = read_back shape ns f.all (typed-done ns f)

-- and are the request's
read-given : (shape : Shape) (ns : List ℤ) (bytes : List ℕ) → reading_for shape bytes ≡ numbers ns → ReadAs shape (given ns) bytes
unfolding input_of star_asked
read-given S.Eclipse ns bytes e = ap input_by e
read-given S.Star ns bytes e = ap star_by e

pub fit_read : (shape : Shape) (ns : List ℤ) → Fit shape ns → ReadAs shape (given ns) (bytes_for shape ns)
fit_read shape ns f = read-given shape ns (bytes_for shape ns) (held shape ns f)

read_refused : (shape : Shape) (i : ℕ) (f : Fault) (bytes : List ℕ) → ReadAs shape (refused i f) bytes
read_refused S.Eclipse i f bytes = tt
read_refused S.Star i f bytes = tt

-- the bytes of the numbers typed
pub record Made (shape : Shape) (text made : List ℕ) : Type 0 where
  pub typed : List ℤ
  pub is : typing_of shape text ≡ given typed
  pub fits : Fit shape typed
  pub bytes : made ≡ bytes_for shape typed
  pub size : length made ≡ size_for shape

module _ (shape : Shape) (text : List ℕ) (r : Result Unit (ℕ × Fault)) (e : r ≡ answer_of (typing_of shape text)) where
  -- the numbers of a text that is not refused are put
  pub made-is : (lent ns : List ℤ) (zeros made : List ℕ) → r ≡ Ok tt → ns ≡ numbers_from (typing_of shape text) lent → made ≡ after_for shape ns zeros
      → Made shape text made
  made-is lent ns zeros made q n m = by (typing_of shape text) refl (sym e ∙ q) n
    where
      by : (x : Typing) → typing_of shape text ≡ x → answer_of x ≡ Ok tt → ns ≡ numbers_from x lent → Made shape text made
      by (given ms) t a b =
          let f = numbers_fit shape text ms t in
          let is : made ≡ bytes_for shape ms = m ∙ ap (λ (l : List ℤ). after_for shape l zeros) b ∙ after-done shape ms zeros (typed-done shape ms f) in
          record { typed = ms; is = t; fits = f; bytes = is; size = ap length is ∙ bytes-length shape ms f.all }
      by (refused j g) t a b = let z : ◌≡◌ {A = ℕ} 0 1 = cc in absurd (omega arith)

  module _ (old : List ℕ) where
    -- they stand at the start of the buffer
    pub numbers-put : (made new : List ℕ) (end : ℕ) → Made shape text made → size_for shape ≤ length old → Put old 0 made new end
        → Encoded shape text old r new
    numbers-put made new end m room p =
        let all : new ≡ made ++ drop (size_for shape) old = put_start made old new end (omega (arith, m.size)) p ∙ rw m.size in
        let first : take (size_for shape) new ≡ made = ap (take (size_for shape)) all ∙ take_at made (drop (size_for shape) old) (size_for shape) m.size in
        record {
          answer = e;
          bytes = all ∙ rw (m.is, m.bytes);
          read_as = rw (m.is, first, m.bytes) (fit_read shape m.typed m.fits);
        }

    -- a refused text leaves the buffer
    pub refused-kept : (i : ℕ) (f : Fault) → r ≡ Err (i, f) → Encoded shape text old r old
    refused-kept i f q = by (typing_of shape text) refl (sym e ∙ q)
      where
        by : (x : Typing) → typing_of shape text ≡ x → answer_of x ≡ Err (i, f) → Encoded shape text old r old
        by (given ns) p a = let z : ◌≡◌ {A = ℕ} 0 1 = cc in absurd (omega arith)
        by (refused j g) p a = record { answer = e; bytes = rw p; read_as = rw p (read_refused shape j g (take (size_for shape) old)) }

pub encoded_as : (shape s : Shape) (text old : List ℕ) (r : Result Unit (ℕ × Fault)) (new : List ℕ) → shape ≡ s → Encoded s text old r new → Encoded shape text old r new
encoded_as shape s text old r new e p = rw e p

-- Laws of entries as bytes and as numbers.
use Rattle.std.specs.Prelude.{ℕ, ◌+◌, ◌*◌, ◌≡◌, refl, List, [], ◌∷◌, ◌++◌, length, set}
use Rattle.std.proofs.Common.{sym, ap, ◌∙◌, arith, add-one, length-append}
use Rattle.std.proofs.lemmas.List.Edits.{sets}
use Rattle.rounding.specs.laws.Stores.{sets_append}
use Rattle.sheet_format.specs.declared.kinds.Width.{Width}
use Rattle.sheet_format.specs.declared.kinds.Width.TheVariants.{Absent, Two, Four}
use Rattle.sheet_format.specs.declared.kinds.Widths.{Widths}
use Rattle.sheet_format.specs.declared.kinds.Entry.{Entry}
use Rattle.sheet_format.specs.Kinds.{code_of, widths_of, bytes_in, size_of}
use Rattle.sheet_format.specs.Numbers.{number}
use Rattle.sheet_format.specs.RecordEntries.{body, bytes, numbers, bytes_of, numbers_of}

pub length-number : (w : Width) (v : ℕ) → length (number w v) ≡ bytes_in w
length-number Absent v = refl
length-number Two v = refl
length-number Four v = refl

pub length-bytes : (e : Entry) → length (bytes e) ≡ size_of e.kind
length-bytes e =
    let w = widths_of e.kind in
    let a = number w.a e.a in
    let b = number w.b e.b in
    let c = number w.c e.c in
    let d = number w.d e.d in
    omega (
      arith,
      length-append a (b ++ (c ++ d)),
      length-append b (c ++ d),
      length-append c d,
      length-number w.a e.a,
      length-number w.b e.b,
      length-number w.c e.c,
      length-number w.d e.d,
    )

pub bytes-nil : bytes_of [] ≡ []
unfolding bytes_of
bytes-nil = refl

pub bytes_cons : (e : Entry) (es : List Entry) → bytes_of (e ∷ es) ≡ bytes e ++ bytes_of es
unfolding bytes_of
bytes_cons e es = refl

pub numbers-nil : numbers_of [] ≡ []
unfolding numbers_of
numbers-nil = refl

pub numbers_cons : (e : Entry) (es : List Entry) → numbers_of (e ∷ es) ≡ numbers e ++ numbers_of es
unfolding numbers_of
numbers_cons e es = refl

pub length-bytes_cons : (e : Entry) (es : List Entry) → length (bytes_of (e ∷ es)) ≡ size_of e.kind + length (bytes_of es)
length-bytes_cons e es = ap length (bytes_cons e es) ∙ length-append (bytes e) (bytes_of es) ∙ ap (λ n. n + length (bytes_of es)) (length-bytes e)

pub length-numbers : (es : List Entry) → length (numbers_of es) ≡ length es * 5
unfolding numbers_of
length-numbers [] = refl
length-numbers (e ∷ es) = omega (arith, length-numbers es)

-- ---- an entry put into a buffer

-- a number, and what is put right behind it
sets_number : (w : Width) (v : ℕ) (y l : List ℕ) (i j : ℕ) → j ≡ i + bytes_in w → sets (sets l i (number w v)) j y ≡ sets l i (number w v ++ y)
sets_number w v y l i j q =
    sym (sets_append (number w v) y l i ∙ ap (λ k. sets (sets l i (number w v)) k y) (let h = length-number w v in omega arith))

-- the kind's byte and then each field behind the one before it
module _ (e : Entry) (w : Widths) (is : w ≡ widths_of e.kind) (l₀ l₁ l₂ l₃ l₄ : List ℕ) (at x at_b at_c at-d : ℕ) where
  pub put-bytes : x ≡ code_of e.kind → at_b ≡ at + 1 + bytes_in w.a → at_c ≡ at_b + bytes_in w.b → at-d ≡ at_c + bytes_in w.c
      → l₁ ≡ sets (set l₀ at x) (at + 1) (number w.a e.a) → l₂ ≡ sets l₁ at_b (number w.b e.b)
      → l₃ ≡ sets l₂ at_c (number w.c e.c) → l₄ ≡ sets l₃ at-d (number w.d e.d) → l₄ ≡ sets l₀ at (bytes e)
  put-bytes k b c d p q r t =
      let d-bytes = number w.d e.d in
      let c-bytes = number w.c e.c ++ d-bytes in
      let b-bytes = number w.b e.b ++ c-bytes in
      t ∙ ap (λ z. sets z at-d d-bytes) r
      ∙ sets_number w.c e.c d-bytes l₂ at_c at-d d ∙ ap (λ z. sets z at_c c-bytes) q
      ∙ sets_number w.b e.b c-bytes l₁ at_b at_c c ∙ ap (λ z. sets z at_b b-bytes) p
      ∙ sets_number w.a e.a b-bytes (set l₀ at x) (at + 1) at_b b
      ∙ ap (λ n. sets (set l₀ at x) n (body w e)) (add-one at)
      ∙ ap (λ n. sets l₀ at (n ∷ body w e)) k ∙ ap (λ n. sets l₀ at (code_of e.kind ∷ body n e)) is

-- A line put part by part.
use Rattle.std.specs.Prelude.{ℕ, ◌<◌, ◌≡◌, true, false, List, [], ◌∷◌, ◌++◌, ℤ, length}
use Rattle.sheet_format.specs.declared.kinds.Kind.{Kind}
use Rattle.sheet_format.specs.declared.kinds.Entry.{Entry}
use Rattle.sheet_format.specs.Kinds.{is_end}
use Rattle.decimal_text.specs.Texts.{letters, Put}
use Rattle.decimal_text.specs.laws.TextLaws.{put_nil, put_then}
use Rattle.decimal_text.specs.Patterns.{filled}
use Rattle.listing_lines.specs.Lines.{text_for, text_of, end_for, line_of, numbered, refusal_text, refusal_line}

-- a pattern filled with the same numbers
module _ (s old : List ℕ) (at : ℕ) (new : List ℕ) (r : ℕ) where
  pub filled-one : (x v : ℤ) → x ≡ v → Put old at (filled (x ∷ []) 0 s) new r → Put old at (filled (v ∷ []) 0 s) new r
  filled-one x v p f = rw (← p) f

  pub filled-two : (x y v w : ℤ) → x ≡ v → y ≡ w → Put old at (filled (x ∷ y ∷ []) 0 s) new r → Put old at (filled (v ∷ w ∷ []) 0 s) new r
  filled-two x y v w p q f = rw (← p, ← q) f

  pub filled-three : (x y z v w u : ℤ) → x ≡ v → y ≡ w → z ≡ u → Put old at (filled (x ∷ y ∷ z ∷ []) 0 s) new r
      → Put old at (filled (v ∷ w ∷ u ∷ []) 0 s) new r
  filled-three x y z v w u p q t f = rw (← p, ← q, ← t) f

-- three texts, one after the other
pub put_three : (old one two new : List ℕ) (at p q r : ℕ) (x y z : List ℕ) → length old < 18446744073709551616
    → Put old at x one p → Put one p y two q → Put two q z new r → Put old at (x ++ y ++ z) new r
put_three old one two new at p q r x y z h f g k = put_then old two new at q r (x ++ y) z h (put_then old one two at p q x y h f g) k

pub put_four : (old one two third new : List ℕ) (at p q t r : ℕ) (x y z w : List ℕ) → length old < 18446744073709551616
    → Put old at x one p → Put one p y two q → Put two q z third t → Put third t w new r → Put old at (x ++ y ++ z ++ w) new r
put_four old one two third new at p q t r x y z w h f g k m =
    put_then old third new at t r (x ++ y ++ z) w h (put_three old one two third at p q t x y z h f g k) m

-- the text of an entry is that of its kind
pub put_kind : (e : Entry) (k : Kind) → e.kind ≡ k → (old : List ℕ) (at : ℕ) (new : List ℕ) (r : ℕ)
    → Put old at (text_for k e.a e.b e.c) new r → Put old at (text_of e) new r
unfolding text_of
put_kind e k q old at new r p = rw q p

-- the end of its line, by the test for the end record
module _ (k : Kind) (old : List ℕ) (at : ℕ) where
  pub put-no-end : is_end k ≡ true → at < 18446744073709551616 → Put old at (end_for k) old at
  unfolding end_for
  put-no-end b h = rw b (put_nil old at h)

  pub put-line-end : is_end k ≡ false → (new : List ℕ) (r : ℕ) → Put old at (letters "\n") new r → Put old at (end_for k) new r
  unfolding end_for
  put-line-end b new r p = rw b p

pub put_line : (e : Entry) (old mid new : List ℕ) (at r q : ℕ) → length old < 18446744073709551616
    → Put old at (text_of e) mid r → Put mid r (end_for e.kind) new q → Put old at (line_of e) new q
unfolding line_of
put_line e old mid new at r q h p w = put_then old mid new at r q (text_of e) (end_for e.kind) h p w

pub put_refused : (number place : ℕ) (old : List ℕ) (at : ℕ) (new : List ℕ) (r : ℕ)
    → Put old at (numbered (letters "refused ") number place) new r → Put old at (refusal_text number place) new r
unfolding refusal_text
put_refused number place old at new r p = p

pub put-refusal-end : (number place : ℕ) (old mid new : List ℕ) (at r q : ℕ) → length old < 18446744073709551616
    → Put old at (refusal_text number place) mid r → Put mid r (letters "\n") new q → Put old at (refusal_line number place) new q
unfolding refusal_line
put-refusal-end number place old mid new at r q h p w = put_then old mid new at r q (refusal_text number place) (letters "\n") h p w

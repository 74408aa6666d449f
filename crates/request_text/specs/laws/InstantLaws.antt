-- The words of an instant one after the other, as they are read.
use Rattle.std.specs.Prelude.{◌≡◌, refl, Bool, true, false, cond, ◌&&◌, List, ℕ, leb, take, drop, Some, None}
use Rattle.std.proofs.Common.{sym, ap, ◌∙◌, arith}
use Rattle.request_format.specs.Rows.{letters}
use Rattle.tokens.specs.declared.Class.TheVariants as C
use Rattle.tokens.specs.Text.{run_of, all_of}
use Rattle.tokens.specs.laws.TextLaws.{rest-is}
use Rattle.tokens.specs.laws.NumberLaws.{part}
use Rattle.request_text.specs.Lines.{valued, word_in, after_word}
use Rattle.calendar.specs.declared.Scale.TheVariants as S
use Rattle.request_text.specs.Forms.{has_form, two_at}
use Rattle.request_text.specs.Instants.{is_date, is_time, instant_at, in_scale, scaled, timed, instant_of, seconds_in}

-- ---- a word, as it is cut out of a slice

module _ (s : List ℕ) (gap size : ℕ) (g : gap ≡ run_of C.Blank s) (w : size ≡ run_of C.Word (part s gap)) where
  rest : part s gap ≡ valued s
  rest = rest-is s gap ∙ ap (λ (k : ℕ). drop k s) g

  ends : size ≡ run_of C.Word (valued s)
  ends = w ∙ ap (run_of C.Word) rest

  pub word-is : take size (part s gap) ≡ word_in s
  word-is = ap (take size) rest ∙ ap (λ (k : ℕ). take k (valued s)) ends

  pub after_is : part (part s gap) size ≡ after_word s
  after_is = rest-is (part s gap) size ∙ ap (drop size) rest ∙ ap (λ (k : ℕ). drop k (valued s)) ends

-- ---- date, time, scale

module _ (date time word : List ℕ) where
  pub scale-et : has_form (letters "ET") word ≡ true → Some (instant_at date time S.Ephemeris) ≡ in_scale date time word
  unfolding in_scale
  scale-et e = rw e

  pub scale-ut : has_form (letters "ET") word ≡ false → has_form (letters "UT") word ≡ true → Some (instant_at date time S.Universal) ≡ in_scale date time word
  unfolding in_scale
  scale-ut e u = rw (e, u)

  pub scale-none : has_form (letters "ET") word ≡ false → has_form (letters "UT") word ≡ false → None ≡ in_scale date time word
  unfolding in_scale
  scale-none e u = rw (e, u)

-- the words are read one after the other, and tested together
module _ (s date after time scale behind : List ℕ) (a b c : Bool) (d : date ≡ word_in s) (f : after ≡ after_word s) (t : time ≡ word_in after)
    (g : scale ≡ after_word after) (h : behind ≡ after_word scale) (x : a ≡ is_date date) (y : b ≡ is_time time) (z : c ≡ all_of C.Blank behind) where
  tested : cond a (cond b (cond c (in_scale date time (word_in scale)) None) None) None ≡ instant_of s
  unfolding instant_of timed scaled
  tested = rw (x, y, z, h, g, t, f, d)

  pub read-not : (a && b && c) ≡ false → None ≡ instant_of s
  read-not e = by a b c e ∙ tested
    where
      by : (a b c : Bool) → (a && b && c) ≡ false
          → None ≡ cond a (cond b (cond c (in_scale date time (word_in scale)) None) None) None
      by false b c e = refl
      by true false c e = refl
      by true true false e = refl
      by true true true e = absurd (let q : ◌≡◌ {A = ℕ} 0 1 = cc in omega arith)

  pub read_is : (a && b && c) ≡ true → in_scale date time (word_in scale) ≡ instant_of s
  read_is e = by a b c e ∙ tested
    where
      by : (a b c : Bool) → (a && b && c) ≡ true
          → in_scale date time (word_in scale) ≡ cond a (cond b (cond c (in_scale date time (word_in scale)) None) None) None
      by true true true e = refl
      by true true false e = absurd (let q : ◌≡◌ {A = ℕ} 0 1 = cc in omega arith)
      by true false c e = absurd (let q : ◌≡◌ {A = ℕ} 0 1 = cc in omega arith)
      by false b c e = absurd (let q : ◌≡◌ {A = ℕ} 0 1 = cc in omega arith)

-- ---- TAI less UTC

module _ (s word behind : List ℕ) (a b : Bool) (n : ℕ) (w : word ≡ word_in s) (h : behind ≡ after_word s) (x : a ≡ all_of C.Blank behind)
    (y : b ≡ has_form (letters "00") word) (z : n ≡ two_at word 0) where
  seconds-tested : cond (a && b && leb 10 n) n 0 ≡ seconds_in s
  unfolding seconds_in
  seconds-tested = rw (x, y, z, h, w)

  pub seconds-none : (a && b && leb 10 n) ≡ false → 0 ≡ seconds_in s
  seconds-none e = sym (ap (λ (t : Bool). cond t n 0) e) ∙ seconds-tested

  pub seconds_some : (a && b && leb 10 n) ≡ true → n ≡ seconds_in s
  seconds_some e = sym (ap (λ (t : Bool). cond t n 0) e) ∙ seconds-tested

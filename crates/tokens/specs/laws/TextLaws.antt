-- Laws of text: how a run of bytes goes on, and lines one after the other.
use Rattle.std.specs.Prelude.{◌≡◌, Bool, true, false, List, [], ◌∷◌, ℕ, zero, suc, ◌+◌, ◌-◌, ◌≤◌, ◌<◌, length, get_or, take, drop}
use Rattle.std.proofs.Math.Path.{refl}
use Rattle.std.proofs.Common.{sym, ap, ◌∙◌, add-one, arith, length-drop, drop_of_length-le, drop-cons, drop-drop, take_all, length-take-le}
use Rattle.tokens.specs.declared.Class.{Class}
use Rattle.tokens.specs.declared.Class.TheVariants as C
use Rattle.tokens.specs.Text.{is_in, run_of, start_of, before, lines_of}

-- ---- the rest of a list

-- from a place that is in it
pub from_here : {A : Type 0} (s : List A) (i : ℕ) (d : A) → i < length s → drop i s ≡ get_or s i d ∷ drop (i + 1) s
from_here s i d h = rw (add-one, drop-cons s i d h)

-- from its end on
pub from_end : {A : Type 0} (s : List A) (i : ℕ) → length s ≤ i → drop i s ≡ []
from_end s i h = drop_of_length-le s {i = i} h

-- what stands at a place that is in it needs no default
pub any_default : (s : List ℕ) (i d e : ℕ) → i < length s → get_or s i d ≡ get_or s i e
any_default [] i d e h = absurd (omega arith)
any_default (x ∷ s) zero d e h = refl
any_default (x ∷ s) (suc i) d e h = any_default s i d e (omega arith)

-- a part of a slice up to its end is the rest of it
pub rest-is : {A : Type 0} (s : List A) (i : ℕ) → take (length s - i) (drop i s) ≡ drop i s
rest-is s i = let e = length-drop i s in take_all (length s - i) (drop i s) (omega arith)

-- ---- runs

module _ (c : Class) where
  pub run_in : (x : ℕ) (s : List ℕ) → is_in c x ≡ true → run_of c (x ∷ s) ≡ suc (run_of c s)
  unfolding run_of
  run_in x s e = rw e

  pub run_out : (x : ℕ) (s : List ℕ) → is_in c x ≡ false → run_of c (x ∷ s) ≡ 0
  unfolding run_of
  run_out x s e = rw e

  pub run-nil : run_of c [] ≡ 0
  unfolding run_of
  run-nil = refl

  pub run-le : (s : List ℕ) → run_of c s ≤ length s
  run-le [] = omega (arith, run-nil)
  run-le (x ∷ s) = by (is_in c x) refl (run-le s)
    where
      by : (b : Bool) → is_in c x ≡ b → run_of c s ≤ length s → run_of c (x ∷ s) ≤ suc (length s)
      by true e h = omega (arith, run_in x s e)
      by false e h = omega (arith, run_out x s e)

  -- the first n bytes are of the class
  abbrev pub Ran : List ℕ → ℕ → Type 0
  Ran s n = (run_of c s ≡ n + run_of c (drop n s)) × (n ≤ length s)

  pub ran-none : (s : List ℕ) → Ran s 0
  ran-none s = (omega arith, omega arith)

  pub ran-more : (s : List ℕ) (n : ℕ) → Ran s n → n < length s → is_in c (get_or s n 0) ≡ true → Ran s (n + 1)
  ran-more s n r h e = let q = ap (run_of c) (from_here s n 0 h) ∙ run_in (get_or s n 0) (drop (n + 1) s) e in (omega (arith, r.0), omega arith)

  pub ran_out : (s : List ℕ) (n : ℕ) → Ran s n → n < length s → is_in c (get_or s n 0) ≡ false → (n ≡ run_of c s) × (n ≤ length s)
  ran_out s n r h e = let q = ap (run_of c) (from_here s n 0 h) ∙ run_out (get_or s n 0) (drop (n + 1) s) e in (omega (arith, r.0), omega arith)

  pub ran-all : (s : List ℕ) (n : ℕ) → Ran s n → length s ≤ n → (n ≡ run_of c s) × (n ≤ length s)
  ran-all s n r h = let q = ap (run_of c) (from_end s n h) ∙ run-nil in (omega (arith, r.0), r.1)

  -- ---- the first byte
  pub start-nil : (s : List ℕ) → length s ≡ 0 → (0 ≡ start_of c s) × (0 ≤ length s)
  start-nil [] h = (refl, omega arith)
  start-nil (x ∷ s) h = absurd (omega arith)

  pub start-in : (s : List ℕ) → 0 < length s → is_in c (get_or s 0 0) ≡ true → (1 ≡ start_of c s) × (1 ≤ length s)
  start-in [] h e = absurd (omega arith)
  start-in (x ∷ s) h e = (rw e, omega arith)

  pub start-out : (s : List ℕ) → 0 < length s → is_in c (get_or s 0 0) ≡ false → (0 ≡ start_of c s) × (0 ≤ length s)
  start-out [] h e = absurd (omega arith)
  start-out (x ∷ s) h e = (rw e, omega arith)

-- ---- lines

pub lines-nil : lines_of [] ≡ []
unfolding lines_of
lines-nil = refl

line_in : (x : ℕ) (s : List ℕ) → is_in C.Line x ≡ true → lines_of (x ∷ s) ≡ before x (lines_of s)
unfolding lines_of
line_in x s e = rw e

line_out : (x : ℕ) (s : List ℕ) → is_in C.Line x ≡ false → lines_of (x ∷ s) ≡ [] ∷ lines_of s
unfolding lines_of
line_out x s e = rw e

-- a text's first line, and the text after it
abbrev First : List ℕ → Type 0
First s = lines_of s ≡ take (run_of C.Line s) s ∷ lines_of (drop (suc (run_of C.Line s)) s)

first_by : (x : ℕ) (s : List ℕ) → before x (lines_of s) ≡ (x ∷ take (run_of C.Line s) s) ∷ lines_of (drop (suc (run_of C.Line s)) s) → First (x ∷ s)
first_by x s h = by (is_in C.Line x) refl
  where
    by : (b : Bool) → is_in C.Line x ≡ b → First (x ∷ s)
    by true e = rw (line_in x s e, run_in C.Line x s e) h
    by false e = rw (line_out x s e, run_out C.Line x s e)

line_first : (x : ℕ) (s : List ℕ) → First (x ∷ s)
line_first x [] = first_by x [] (rw (lines-nil, run-nil C.Line))
line_first x (y ∷ t) = first_by x (y ∷ t) (rw (line_first y t))

-- the line at a place of the text, and those after it
lines_at : (s : List ℕ) (at : ℕ) → at < length s → lines_of (drop at s)
    ≡ take (run_of C.Line (drop at s)) (drop at s) ∷ lines_of (drop (at + run_of C.Line (drop at s) + 1) s)
lines_at s at h = by (drop at s) refl (from_here s at 0 h)
  where
    further : (n : ℕ) → at + suc n ≡ at + n + 1
    further n = omega arith

    by : (l : List ℕ) → drop at s ≡ l → l ≡ get_or s at 0 ∷ drop (at + 1) s → lines_of l ≡ take (run_of C.Line l) l ∷ lines_of (drop (at + run_of C.Line l + 1) s)
    by [] e q = let z : ◌≡◌ {A = ℕ} 0 1 = cc in absurd (omega arith)
    by (x ∷ t) e q =
        line_first x t
        ∙ ap (λ (k : List ℕ). take (run_of C.Line (x ∷ t)) (x ∷ t) ∷ lines_of k)
        (ap (drop (suc (run_of C.Line (x ∷ t)))) (sym e) ∙ drop-drop (suc (run_of C.Line (x ∷ t))) at s
        ∙ ap (λ (k : ℕ). drop k s) (further (run_of C.Line (x ∷ t))))

-- n bytes long: the line as a part of a slice has it
module _ (s : List ℕ) (at n : ℕ) (h : at < length s) (e : n ≡ run_of C.Line (drop at s)) where
  abbrev pub line_at : List ℕ
  line_at = take (at + n - at) (drop at s)

  pub line-within : at + n ≤ length s
  line-within = omega (arith, run-le C.Line (drop at s), length-drop at s)

  pub line-length : length line_at ≡ n
  line-length = length-take-le (at + n - at) (drop at s) (omega (arith, line-within, length-drop at s)) ∙ omega arith

  pub line-next : lines_of (drop at s) ≡ line_at ∷ lines_of (drop (at + n + 1) s)
  line-next =
      lines_at s at h
      ∙ ap (λ (m : ℕ). take m (drop at s) ∷ lines_of (drop (at + m + 1) s)) (sym e)
      ∙ ap (λ (m : ℕ). take m (drop at s) ∷ lines_of (drop (at + n + 1) s)) back
    where
      back : n ≡ at + n - at
      back = omega arith

pub lines_end : (s : List ℕ) (at : ℕ) → length s ≤ at → lines_of (drop at s) ≡ []
lines_end s at h = rw (from_end s at h) lines-nil

-- A station's line read word by word.
use Rattle.std.specs.Prelude.{ℕ, suc, ◌+◌, ◌-◌, ◌≤◌, ◌<◌, ◌≡◌, refl, true, false, cond, List, [], ◌∷◌, ◌++◌, ℤ, nat_abs, length, take, drop, set, Result, Ok, Some, Err, None, Option}
use Rattle.std.proofs.Common.{sym, ap, ◌∙◌, lt-ltb, le-ltb, eq-eqb, ne_eqb, length-set, length-drop, take-suc-set, take_all, drop-drop}
use native.Mathlib.Omega.{arith}
use Rattle.std.proofs.Math.Decide.{dec_lt}
use Rattle.request_text.specs.declared.Fault as request
use Rattle.request_format.specs.declared.fields.Shape.TheVariants as S
use Rattle.tokens.specs.declared.Class.TheVariants as C
use Rattle.tokens.specs.Text.{run_of, all_of}
use Rattle.tokens.specs.laws.TextLaws.{rest-is, run-le}
use Rattle.request_text.specs.Lines.{value_of, word_in, after_word}
use Rattle.request_text.specs.laws.LineLaws.{value_room}
use Rattle.request_text.specs.Typing.{InRoom}
use Rattle.network_text.specs.declared.Fault.{Fault}
use Rattle.network_text.specs.declared.Fault.TheVariants as F
use Rattle.network_text.specs.declared.Said.TheVariants as Said
use Rattle.network_text.specs.Stations.{field_of, fault_of, by_value, word_of, amount_of, onward, node_of, words_from, station_of}

-- ---- the number of a request that a word is

pub field_low : (k : ℕ) → k < 5 → 22 + k ≡ field_of k
field_low k h = rw (lt-ltb k 5 h)

pub field_clock : (k : ℕ) → 5 ≤ k → 22 ≡ field_of k
field_clock k h = rw (le-ltb k 5 h)

module _ (k : ℕ) (f : request.Fault) where
  pub fault-clock : k ≡ 5 → F.Clock ≡ fault_of k f
  fault-clock e = rw (eq-eqb k 5 e)

  pub fault-other : (k ≡ 5 → ⊥) → F.Typed f ≡ fault_of k f
  fault-other h = rw (ne_eqb k 5 h)

pub word_by : (k field : ℕ) (w : List ℕ) (line : Result (Option (ℕ × ℤ)) request.Fault) → field ≡ field_of k → line ≡ value_of S.Eclipse field w → by_value k line ≡ word_of k w
unfolding word_of
word_by k field w line q v = ap (by_value k) (v ∙ ap (λ (n : ℕ). value_of S.Eclipse n w) q)

-- what a request's line says, and the same with the fault of word k in place of its fault
pub record Mapped (k : ℕ) (line : Result (Option (ℕ × ℤ)) request.Fault) (m : Result (Option (ℕ × ℤ)) Fault) : Type 0 where
  pub fault : (f : request.Fault) → line ≡ Err f → m ≡ Err (fault_of k f)
  pub kept : (x : Option (ℕ × ℤ)) → line ≡ Ok x → m ≡ Ok x

abbrev pub told_by : Result (Option (ℕ × ℤ)) Fault → Result ℤ Fault
told_by (Ok (Some (j, z))) = Ok z
told_by (Ok None) = Err F.Clock
told_by (Err f) = Err f

mapped-told : (k : ℕ) (line : Result (Option (ℕ × ℤ)) request.Fault) (m : Result (Option (ℕ × ℤ)) Fault) → Mapped k line m → told_by m ≡ by_value k line
mapped-told k (Ok (Some (j, z))) m p = ap told_by (p.kept (Some (j, z)) refl)
mapped-told k (Ok None) m p = ap told_by (p.kept None refl)
mapped-told k (Err f) m p = ap told_by (p.fault f refl)

pub word-told : (k field : ℕ) (w : List ℕ) (line : Result (Option (ℕ × ℤ)) request.Fault) (m : Result (Option (ℕ × ℤ)) Fault) → Mapped k line m
    → field ≡ field_of k → line ≡ value_of S.Eclipse field w → (x : Result (Option (ℕ × ℤ)) Fault) → m ≡ x → told_by x ≡ word_of k w
word-told k field w line m p q v x e = ap told_by (sym e) ∙ mapped-told k line m p ∙ word_by k field w line q v

-- a value is small
pub field_less : (k : ℕ) → field_of k < 30
field_less k =
    elim (dec_lt k 5) [
      | yes l ↦ omega (arith, field_low k l)
      | no l ↦ let h : 5 ≤ k = omega arith in omega (arith, field_clock k h)
    ]

pub word_small : (k : ℕ) (w : List ℕ) (z : ℤ) → word_of k w ≡ Ok z → nat_abs z ≤ 4294967296
unfolding word_of
word_small k w z e = by (value_of S.Eclipse (field_of k) w) (value_room S.Eclipse (field_of k) w (field_less k)) e
  where
    by : (line : Result (Option (ℕ × ℤ)) request.Fault) → InRoom 30 line → by_value k line ≡ Ok z → nat_abs z ≤ 4294967296
    by (Ok (Some (j, y))) r q = let t : y ≡ z = cc in rw (← t) r.1
    by (Err f) r q = let x : ◌≡◌ {A = ℕ} 0 1 = cc in absurd (omega arith)
    by (Ok None) r q = let x : ◌≡◌ {A = ℕ} 0 1 = cc in absurd (omega arith)

-- ---- the words one after the other

-- the words before word k gave the first numbers of the row, and end before byte `at`
pub record Rowed (s : List ℕ) (row : List ℤ) (at k : ℕ) : Type 0 where
  pub left : station_of s ≡ words_from (6 - k) k (take k row) (drop at s)
  pub six : length row ≡ 6
  pub place : at ≤ length s
  pub few : k ≤ 6

words-end : (k : ℕ) (vs : List ℤ) (s : List ℕ) → words_from 0 k vs s ≡ cond (all_of C.Blank s) (Ok (Said.Station (node_of vs))) (Err F.Clock)
unfolding words_from
words-end k vs s = refl

words_next : (n k : ℕ) (vs : List ℤ) (s : List ℕ)
    → words_from (suc n) k vs s ≡ onward (word_of k (word_in s)) (words_from n (k + 1) (vs ++ amount_of (word_of k (word_in s)) ∷ []) (after_word s))
unfolding words_from
words_next n k vs s = refl

module _ (s : List ℕ) where
  pub rowed-start : (row : List ℤ) → length row ≡ 6 → Rowed s row 0 0
  unfolding station_of
  rowed-start row h = record { left = refl; six = h; place = omega arith; few = omega arith }

  module _ (row : List ℤ) (at k : ℕ) (r : Rowed s row at k) where
    -- no word is left
    module _ (h : 6 ≤ k) where
      told : station_of s ≡ cond (all_of C.Blank (drop at s)) (Ok (Said.Station (node_of row))) (Err F.Clock)
      told =
          let none : 6 - k ≡ 0 = omega arith in
          r.left ∙ ap (λ n. words_from n k (take k row) (drop at s)) none ∙ words-end k (take k row) (drop at s)
          ∙ ap (λ vs. cond (all_of C.Blank (drop at s)) (Ok (Said.Station (node_of vs))) (Err F.Clock)) (take_all k row (omega (arith, r.six)))

      pub rowed-all : all_of C.Blank (take (length s - at) (drop at s)) ≡ true → (Ok (Said.Station (node_of row))) ≡ station_of s
      rowed-all e = sym (told ∙ rw (sym (ap (all_of C.Blank) (rest-is s at)) ∙ e))

      pub rowed-more : all_of C.Blank (take (length s - at) (drop at s)) ≡ false → (Err F.Clock) ≡ station_of s
      rowed-more e = sym (told ∙ rw (sym (ap (all_of C.Blank) (rest-is s at)) ∙ e))

    module _ (low : k < 6) (gap : ℕ) (lead : gap ≡ run_of C.Blank (take (length s - at) (drop at s))) where
      g : gap ≡ run_of C.Blank (drop at s)
      g = lead ∙ ap (run_of C.Blank) (rest-is s at)

      pub gap_within : at + gap ≤ length s
      gap_within = omega (arith, r.place, g, run-le C.Blank (drop at s), length-drop at s)

      module _ (size : ℕ) (word : size ≡ run_of C.Word (take (length s - (at + gap)) (drop (at + gap) s))) where
        w : size ≡ run_of C.Word (drop (at + gap) s)
        w = word ∙ ap (run_of C.Word) (rest-is s (at + gap))

        pub word-within : at + gap + size ≤ length s
        word-within = omega (arith, gap_within, w, run-le C.Word (drop (at + gap) s), length-drop (at + gap) s)

        -- what stands after the blanks, and after the word
        lead_is : drop (at + gap) s ≡ drop (run_of C.Blank (drop at s)) (drop at s)
        lead_is = sym (drop-drop gap at s) ∙ ap (λ n. drop n (drop at s)) g

        word-is : take (at + gap + size - (at + gap)) (drop (at + gap) s) ≡ word_in (drop at s)
        word-is =
            let n : at + gap + size - (at + gap) ≡ size = omega arith in
            ap (λ m. take m (drop (at + gap) s)) (n ∙ w) ∙ ap (λ l. take (run_of C.Word l) l) lead_is

        after_is : drop (at + gap + size) s ≡ after_word (drop at s)
        after_is = sym (drop-drop size (at + gap) s) ∙ ap (λ n. drop n (drop (at + gap) s)) w ∙ ap (λ l. drop (run_of C.Word l) l) lead_is

        module _ (x : Result ℤ Fault) (v : x ≡ word_of k (take (at + gap + size - (at + gap)) (drop (at + gap) s))) where
          here : station_of s ≡ onward x (words_from (6 - (k + 1)) (k + 1) (take k row ++ amount_of x ∷ []) (drop (at + gap + size) s))
          here =
              let n : 6 - k ≡ suc (6 - (k + 1)) = omega arith in
              r.left ∙ ap (λ m. words_from m k (take k row) (drop at s)) n ∙ words_next (6 - (k + 1)) k (take k row) (drop at s)
              ∙ ap (λ y. onward y (words_from (6 - (k + 1)) (k + 1) (take k row ++ amount_of y ∷ []) (after_word (drop at s)))) (sym (v ∙ ap (word_of k) word-is))
              ∙ ap (λ l. onward x (words_from (6 - (k + 1)) (k + 1) (take k row ++ amount_of x ∷ []) l)) (sym after_is)

          pub rowed-turn : (z : ℤ) → x ≡ Ok z → Rowed s (set row k z) (at + gap + size) (k + 1)
          rowed-turn z e =
              let one : k + 1 ≡ suc k = omega arith in
              record {
                left =
                    here ∙ ap (λ y. onward y (words_from (6 - (k + 1)) (k + 1) (take k row ++ amount_of y ∷ []) (drop (at + gap + size) s))) e
                    ∙ ap (λ vs. words_from (6 - (k + 1)) (k + 1) vs (drop (at + gap + size) s))
                    (sym (ap (λ n. take n (set row k z)) one ∙ take-suc-set row k z (omega (arith, r.six))));
                six = length-set row k z ∙ r.six;
                place = word-within;
                few = omega arith;
              }

          pub rowed-fault : (f : Fault) → x ≡ Err f → (Err f) ≡ station_of s
          rowed-fault f e = sym (here ∙ ap (λ y. onward y (words_from (6 - (k + 1)) (k + 1) (take k row ++ amount_of y ∷ []) (drop (at + gap + size) s))) e)

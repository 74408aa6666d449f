-- A number read digit by digit, up to 2^63.
use Rattle.std.specs.Prelude.{ℕ, zero, suc, ◌+◌, ◌-◌, ◌*◌, ◌≤◌, ◌<◌, min, ◌≡◌, Bool, ◌&&◌, eqb, leb, ltb, take, ℤ, pos, nat_abs, ◌-ℤ◌, Err, Ok}
use Rattle.std.proofs.Math.Path.{refl, sym, ap, ap₂}
use Rattle.std.proofs.Common.{◌∙◌, add-one}
use Rattle.std.proofs.Math.Bool.{true, false, cond}
use mathlib.Core.List.{List, [], ◌∷◌}
use Rattle.std.proofs.Math.Nat.{min-eq_left, min-eq_right, min-le_left, min-le_right}
use native.Mathlib.Omega.{arith}
use borrow.Author.Tests.{lt-ltb, le-ltb, le-leb, ltb-false, leb-true, leb-false}
use Rattle.std.proofs.Math.ListN.{length, get_or, drop}
use Rattle.std.proofs.Math.Seq.{drop-cons, drop-length}
use Rattle.tokens.specs.declared.Class.TheVariants as C
use Rattle.tokens.specs.Text.{all_of, start_of}
use Rattle.tokens.specs.laws.TextLaws.{rest-is}
use Rattle.table_elements.specs.declared.typed_rows.Fault.TheVariants as F
use Rattle.table_elements.specs.Reading.{appended, digits_of, is_whole, with_sign, number_of}

-- a number, or 2^63 where it is above that
unfoldable pub capped : ℕ → ℕ
capped n = min n 9223372036854775808

pub capped-low : (n : ℕ) → n ≤ 9223372036854775808 → capped n ≡ n
unfolding capped
capped-low n h = min-eq_left h

pub capped-high : (n : ℕ) → 9223372036854775808 ≤ n → capped n ≡ 9223372036854775808
unfolding capped
capped-high n h = min-eq_right h

-- a number is capped once, at the end
capped-digit : (n d : ℕ) → capped (10 * capped n + d) ≡ capped (10 * n + d)
capped-digit n d = by (leb n 9223372036854775808) refl
  where
    by : (b : Bool) → leb n 9223372036854775808 ≡ b → capped (10 * capped n + d) ≡ capped (10 * n + d)
    by true b = ap (λ k. capped (10 * k + d)) (capped-low n (leb-true n 9223372036854775808 b))
    by false b =
        let h = leb-false n 9223372036854775808 b in
        let e = capped-high n (omega arith) in
        capped-high (10 * capped n + d) (omega arith) ∙ sym (capped-high (10 * n + d) (omega arith))

pub capped_small : (n : ℕ) → capped n ≤ 9223372036854775808
unfolding capped
capped_small n = min-le_right n 9223372036854775808

pub capped_twice : (n : ℕ) → capped (capped n) ≡ capped n
capped_twice n = capped-low (capped n) (capped_small n)

pub capped_above : (n : ℕ) → 9223372036854775807 < capped n → 9223372036854775807 < n
unfolding capped
capped_above n h = omega (arith, min-le_left n 9223372036854775808)

pub capped_below : (n : ℕ) → capped n ≤ 9223372036854775807 → capped n ≡ n
capped_below n h = by (leb n 9223372036854775808) refl
  where
    by : (b : Bool) → leb n 9223372036854775808 ≡ b → capped n ≡ n
    by true b = capped-low n (leb-true n 9223372036854775808 b)
    by false b = let t = leb-false n 9223372036854775808 b in absurd (omega (arith, capped-high n (omega arith)))

pub capped-appended : (s : List ℕ) (n m : ℕ) → capped n ≡ capped m → capped (appended n s) ≡ capped (appended m s)
unfolding appended
capped-appended [] n m e = e
capped-appended (x ∷ s) n m e =
    capped-appended s (10 * n + (x - 48)) (10 * m + (x - 48))
    (sym (capped-digit n (x - 48)) ∙ ap (λ k. capped (10 * k + (x - 48))) e ∙ capped-digit m (x - 48))

pub digit_low : (n x d : ℕ) → d ≡ x - 48 → 10 * n + d ≤ 9223372036854775808 → 10 * n + d ≡ capped (10 * n + (x - 48))
digit_low n x d e h = rw (← e) (sym (capped-low (10 * n + d) h))

-- ---- digits written one after the other: those that are left give what is to be read
pub record Appending (digits : List ℕ) (n i : ℕ) : Type 0 where
  pub within : i ≤ length digits
  pub small : n ≤ 9223372036854775808
  pub rest : capped (appended n (drop i digits)) ≡ capped (appended 0 digits)

pub appending_start : (digits : List ℕ) → Appending digits 0 0
appending_start digits = record { within = omega arith; small = omega arith; rest = refl }

module _ (digits : List ℕ) (n i : ℕ) (f : Appending digits n i) where
  pub appending-turn : i < length digits → (m : ℕ) → m ≡ capped (10 * n + (get_or digits i 0 - 48)) → Appending digits m (i + 1)
  unfolding appended
  appending-turn h m q =
      let e : drop i digits ≡ get_or digits i 0 ∷ drop (i + 1) digits = rw (add-one, drop-cons digits i 0) in
      let k : capped m ≡ capped (10 * n + (get_or digits i 0 - 48)) = ap capped q ∙ capped_twice (10 * n + (get_or digits i 0 - 48)) in
      record {
        within = omega arith;
        small = rw q (capped_small (10 * n + (get_or digits i 0 - 48)));
        rest = capped-appended (drop (i + 1) digits) m (10 * n + (get_or digits i 0 - 48)) k ∙ (rw e at f.rest);
      }

  pub appending-end : length digits ≤ i → n ≡ capped (appended 0 digits)
  unfolding appended
  appending-end h =
      let w : i ≡ length digits = omega (arith, f.within) in
      let d : drop i digits ≡ [] = ap (λ j. drop j digits) w ∙ drop-length digits in
      sym (capped-low n f.small) ∙ ap (λ l. capped (appended n l)) (sym d) ∙ f.rest

-- ---- the number that a word is

module _ (w : List ℕ) (minus : ℕ) (m : minus ≡ start_of C.Minus w) where
  -- what stands after the minus, as a part of a slice has it
  abbrev digits : List ℕ
  digits = take (length w - minus) (drop minus w)

  same : digits ≡ digits_of w
  same = rest-is w minus ∙ ap (λ k. drop k w) m

  pub number-none : length digits ≡ 0 → Err F.NotWhole ≡ number_of w
  unfolding number_of
  number-none h = rw (← same, h)

  pub number-other : all_of C.Digit digits ≡ false → Err F.NotWhole ≡ number_of w
  unfolding number_of
  number-other h = rw (← same, h) (by (ltb 0 (length digits)))
    where
      by : (b : Bool) → Err F.NotWhole ≡ cond (b && false) (cond (ltb 9223372036854775807 (appended 0 digits)) (Err F.TooLarge)
          (Ok (with_sign (start_of C.Minus w) (appended 0 digits)))) (Err F.NotWhole)
      by true = refl
      by false = refl

  module _ (some : 0 < length digits) (all : all_of C.Digit digits ≡ true) (n : ℕ) (e : n ≡ capped (appended 0 digits)) where
    pub number-large : 9223372036854775807 < n → Err F.TooLarge ≡ number_of w
    unfolding number_of
    number-large h =
        let large : 9223372036854775807 < appended 0 digits = capped_above (appended 0 digits) (omega arith) in
        rw (← same, lt-ltb 0 (length digits) some, all, lt-ltb 9223372036854775807 (appended 0 digits) large)

    pub number_is : n ≤ 9223372036854775807 → (z : ℤ) → z ≡ with_sign minus n → Ok z ≡ number_of w
    unfolding number_of
    number_is h z q =
        let k : n ≡ appended 0 digits = e ∙ capped_below (appended 0 digits) (omega arith) in
        let low : appended 0 digits ≤ 9223372036854775807 = omega arith in
        let v : z ≡ with_sign (start_of C.Minus w) (appended 0 digits) = q ∙ ap₂ with_sign m k in
        rw (← same, lt-ltb 0 (length digits) some, all, le-ltb 9223372036854775807 (appended 0 digits) low) (ap Ok v)

-- ---- a number that is taken is one of 64 bits

size_minus : (n : ℕ) → nat_abs (pos 0 -ℤ pos n) ≡ n
size_minus zero = refl
size_minus (suc k) = rw (le-leb 1 (suc k) (omega arith)) (omega arith)

size-signed : (minus n : ℕ) → nat_abs (with_sign minus n) ≡ n
size-signed minus n = by (eqb minus 1)
  where
    by : (b : Bool) → nat_abs (cond b (pos 0 -ℤ pos n) (pos n)) ≡ n
    by true = size_minus n
    by false = refl

pub number_size : (w : List ℕ) (z : ℤ) → number_of w ≡ Ok z → nat_abs z ≤ 9223372036854775807
unfolding number_of
number_size w z q = by (appended 0 (digits_of w)) (is_whole w) (ltb 9223372036854775807 (appended 0 (digits_of w))) refl q
  where
    by : (n : ℕ) (a b : Bool) → ltb 9223372036854775807 n ≡ b
        → cond a (cond b (Err F.TooLarge) (Ok (with_sign (start_of C.Minus w) n))) (Err F.NotWhole) ≡ Ok z → nat_abs z ≤ 9223372036854775807
    by n false b e q = let t : ◌≡◌ {A = ℕ} 0 1 = cc in absurd (omega arith)
    by n true true e q = let t : ◌≡◌ {A = ℕ} 0 1 = cc in absurd (omega arith)
    by n true false e q =
        let t : with_sign (start_of C.Minus w) n ≡ z = cc in
        let l = ltb-false 9223372036854775807 n e in
        rw (← t, size-signed (start_of C.Minus w) n) l

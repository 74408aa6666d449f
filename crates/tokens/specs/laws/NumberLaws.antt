-- Laws of typed numbers.
use Rattle.std.specs.Prelude.{◌≡◌, refl, Bool, true, false, ℕ, zero, suc, ◌+◌, ◌-◌, ◌≤◌, ◌<◌, get_or, take, drop, Err, Ok}
use Rattle.std.proofs.Common.{sym, ◌∙◌, add-zero, arith, lt-ltb, le-ltb, get_or-drop, drop-drop}
use Rattle.std.proofs.Math.Path.{ap}
use mathlib.Core.List.{List}
use Rattle.std.proofs.Math.Nat.{sub-zero}
use Rattle.std.proofs.Math.Decide.{dec_lt}
use Rattle.std.proofs.Math.ListN.{length}
use Rattle.tokens.specs.declared.NotUnits.TheVariants as NotUnits
use Rattle.tokens.specs.declared.Class.TheVariants as C
use Rattle.tokens.specs.Text.{run_of, all_of, start_of}
use Rattle.tokens.specs.laws.TextLaws.{rest-is, from_end, run-nil}
use Rattle.tokens.specs.Numbers.{digit_after, appended, unsigned, wholes, pointed, decimals, is_number, is_whole, amount, capped, units_of}

pub capped_below : (n : ℕ) → n < 4294967296 → capped n ≡ n
unfolding capped
capped_below n h = rw (lt-ltb n 4294967296 h)

pub capped_above : (n : ℕ) → 4294967296 ≤ n → capped n ≡ 4294967296
unfolding capped
capped_above n h = rw (le-ltb n 4294967296 h)

-- a number at most the cap is its own
pub capped_small : (n : ℕ) → n ≤ 4294967296 → capped n ≡ n
capped_small n h =
    elim (dec_lt n 4294967296) [
      | yes l ↦ capped_below n l
      | no l ↦ capped_above n (omega arith) ∙ omega arith
    ]

pub capped_le : (n : ℕ) → capped n ≤ 4294967296
capped_le n =
    elim (dec_lt n 4294967296) [
      | yes l ↦ omega (arith, capped_below n l)
      | no l ↦ let g : 4294967296 ≤ n = omega arith in omega (arith, capped_above n g)
    ]

-- a digit after a capped number
capped-digit : (n x : ℕ) → capped (digit_after (capped n) x) ≡ capped (digit_after n x)
capped-digit n x =
    elim (dec_lt n 4294967296) [
      | yes l ↦ rw (capped_below n l)
      | no l ↦ let g : 4294967296 ≤ n = omega arith in
          rw (capped_above n g) (capped_above (digit_after 4294967296 x) (omega arith) ∙ sym (capped_above (digit_after n x) (omega arith)))
    ]

-- so digits may be capped as they come
pub capped_on : (k n : ℕ) (s : List ℕ) → capped (appended (capped n) k s) ≡ capped (appended n k s)
unfolding appended
capped_on zero n s = capped_small (capped n) (capped_le n)
capped_on (suc k) n s =
    let x = get_or s 0 48 in
    sym (capped_on k (digit_after (capped n) x) (drop 1 s))
    ∙ ap (λ (m : ℕ). capped (appended m k (drop 1 s))) (capped-digit n x)
    ∙ capped_on k (digit_after n x) (drop 1 s)

-- one digit more of the text
pub appended-step : (k n : ℕ) (s : List ℕ) → appended n (suc k) s ≡ appended (digit_after n (get_or s 0 48)) k (drop 1 s)
unfolding appended
appended-step k n s = refl

appended-at : (k n i : ℕ) (s : List ℕ) → appended n (suc k) (drop i s) ≡ appended (digit_after n (get_or s i 48)) k (drop (i + 1) s)
appended-at k n i s =
    appended-step k n (drop i s)
    ∙ ap (λ (l : List ℕ). appended (digit_after n (get_or (drop i s) 0 48)) k l) (drop-drop 1 i s)
    ∙ ap (λ (x : ℕ). appended (digit_after n x) k (drop (i + 1) s)) (get_or-drop i s 0 48 ∙ ap (λ (j : ℕ). get_or s j 48) (add-zero i))

pub appended-none : (n : ℕ) (s : List ℕ) → appended n 0 s ≡ n
unfolding appended
appended-none n s = refl

-- the digits that are left after i of them
abbrev pub Appended : ℕ → List ℕ → ℕ → ℕ → ℕ → Type 0
Appended n s digits m i = (capped (appended n digits s) ≡ capped (appended m (digits - i) (drop i s))) × (i ≤ digits) × (m ≤ 4294967296)

pub append-start : (n : ℕ) (s : List ℕ) (digits : ℕ) → n ≤ 4294967296 → Appended n s digits n 0
append-start n s digits h = (ap (λ (k : ℕ). capped (appended n k s)) (sym (sub-zero digits)), omega arith, h)

pub append-more : (n : ℕ) (s : List ℕ) (digits m i x next : ℕ) → Appended n s digits m i → i < digits → x ≡ get_or s i 48
    → (next ≡ capped (digit_after m x)) × (next ≤ 4294967296) → Appended n s digits next (i + 1)
append-more n s digits m i x next a h e t = (
  a.0 ∙ ap (λ (k : ℕ). capped (appended m k (drop i s))) left ∙ ap capped (appended-at (digits - (i + 1)) m i s)
      ∙ sym (capped_on (digits - (i + 1)) (digit_after m (get_or s i 48)) (drop (i + 1) s))
      ∙ ap (λ (k : ℕ). capped (appended k (digits - (i + 1)) (drop (i + 1) s))) (ap (λ (y : ℕ). capped (digit_after m y)) (sym e) ∙ sym t.0),
  omega arith,
  t.1,
)
  where
    left : digits - i ≡ suc (digits - (i + 1))
    left = omega arith

pub append-all : (n : ℕ) (s : List ℕ) (digits m i : ℕ) → Appended n s digits m i → digits ≤ i → (m ≡ capped (appended n digits s)) × (m ≤ 4294967296)
append-all n s digits m i a h =
    (sym (a.0 ∙ ap (λ (k : ℕ). capped (appended m k (drop i s))) none ∙ ap capped (appended-none m (drop i s)) ∙ capped_small m a.2), a.2)
  where
    none : digits - i ≡ 0
    none = omega arith

-- ---- a word taken apart

-- the rest of a list, as a slice of it is
abbrev pub part : List ℕ → ℕ → List ℕ
part s i = take (length s - i) (drop i s)

-- what stands after the sign, how many digits, and what stands after them and after the point
pub record Split (w : List ℕ) (sign digits point : ℕ) : Type 0 where
  pub body : part w sign ≡ unsigned w
  pub whole : digits ≡ wholes w
  pub decs : part (part (part w sign) digits) point ≡ decimals w

pub split : (w : List ℕ) (sign digits point : ℕ) → sign ≡ start_of C.Sign w → digits ≡ run_of C.Digit (part w sign) → point
    ≡ start_of C.Point (part (part w sign) digits)
    → Split w sign digits point
split w sign digits point e f g =
    let body : part w sign ≡ unsigned w = rest-is w sign ∙ ap (λ (i : ℕ). drop i w) e in
    let whole : digits ≡ wholes w = f ∙ ap (run_of C.Digit) body in
    let after : part (part w sign) digits ≡ pointed w = rest-is (part w sign) digits ∙ ap (drop digits) body ∙ ap (λ (i : ℕ). drop i (unsigned w)) whole in
    record {
      body = body;
      whole = whole;
      decs = rest-is (part (part w sign) digits) point ∙ ap (drop point) after ∙ ap (λ (i : ℕ). drop i (pointed w)) (g ∙ ap (start_of C.Point) after);
    }

units_no_number : (places : ℕ) (w : List ℕ) → is_number w ≡ false → (Err NotUnits.NotNumber) ≡ units_of places w
unfolding units_of
units_no_number places w e = rw e

units_no_whole : (places : ℕ) (w : List ℕ) → is_number w ≡ true → is_whole places w ≡ false → (Err NotUnits.NotWhole) ≡ units_of places w
unfolding units_of
units_no_whole places w e f = rw (e, f)

units_are : (places : ℕ) (w : List ℕ) → is_number w ≡ true → is_whole places w ≡ true → Ok (capped (amount places w)) ≡ units_of places w
unfolding units_of
units_are places w e f = rw (e, f)

module _ (places : ℕ) (w : List ℕ) (sign digits point : ℕ) (s : Split w sign digits point) where
  abbrev found : List ℕ
  found = part (part (part w sign) digits) point

  no-digits : all_of C.Digit found ≡ false → is_number w ≡ false
  unfolding is_number
  no-digits q = rw (← s.decs, q)

  pub split-other : all_of C.Digit found ≡ false → (Err NotUnits.NotNumber) ≡ units_of places w
  split-other e = units_no_number places w (no-digits e)

  no_digit : all_of C.Digit found ≡ true → digits + length found ≡ 0 → is_number w ≡ false
  unfolding is_number
  no_digit q y = rw (← s.decs, q, ← s.whole) (le-ltb 0 (digits + length found) (omega arith))

  pub split-empty : all_of C.Digit found ≡ true → digits + length found ≡ 0 → (Err NotUnits.NotNumber) ≡ units_of places w
  split-empty e z = units_no_number places w (no_digit e z)

  is-number : all_of C.Digit found ≡ true → (digits + length found ≡ 0 → ⊥) → is_number w ≡ true
  unfolding is_number
  is-number q y = rw (← s.decs, q, ← s.whole) (lt-ltb 0 (digits + length found) (omega arith))

  is-exact : (b : Bool) → all_of C.Zero (drop places found) ≡ b → is_whole places w ≡ b
  unfolding is_whole
  is-exact b e = rw (← s.decs) e

  pub split-fraction : all_of C.Digit found ≡ true → (digits + length found ≡ 0 → ⊥) → all_of C.Zero (drop places found) ≡ false → (Err NotUnits.NotWhole) ≡ units_of places w
  split-fraction e z f = units_no_whole places w (is-number e z) (is-exact false f)

  amount-is : amount places w ≡ appended (appended 0 digits (part w sign)) places found
  unfolding amount
  amount-is =
      ap (appended (appended 0 (wholes w) (unsigned w)) places) (sym s.decs)
      ∙ ap (λ (l : List ℕ). appended (appended 0 (wholes w) l) places found) (sym s.body)
      ∙ ap (λ (k : ℕ). appended (appended 0 k (part w sign)) places found) (sym s.whole)

  pub split-units : (n total : ℕ) → all_of C.Digit found ≡ true → (digits + length found ≡ 0 → ⊥) → all_of C.Zero (drop places found) ≡ true
      → n ≡ capped (appended 0 digits (part w sign)) → total ≡ capped (appended n places found) → Ok total ≡ units_of places w
  split-units n total e z f p q =
      ap Ok (q ∙ ap (λ (m : ℕ). capped (appended m places found)) p ∙ capped_on places (appended 0 digits (part w sign)) found ∙ ap capped (sym amount-is))
      ∙ units_are places w (is-number e z) (is-exact true f)

-- decimals that are not there are 0
pub whole_short : (places : ℕ) (s : List ℕ) → length s ≤ places → true ≡ all_of C.Zero (drop places s)
whole_short places s h = rw (from_end s places h, run-nil C.Zero)

-- units are at most the cap
pub units_small : (places : ℕ) (w : List ℕ) (n : ℕ) → units_of places w ≡ Ok n → n ≤ 4294967296
units_small places w n e = by (is_number w) (is_whole places w) refl refl
  where
    by : (a b : Bool) → is_number w ≡ a → is_whole places w ≡ b → n ≤ 4294967296
    by true true p q = let t = units_are places w p q in let z : n ≡ capped (amount places w) = cc in omega (arith, capped_le (amount places w))
    by true false p q = let t = units_no_whole places w p q in let z : ◌≡◌ {A = ℕ} 0 1 = cc in absurd (omega arith)
    by false b p q = let t = units_no_number places w p in let z : ◌≡◌ {A = ℕ} 0 1 = cc in absurd (omega arith)

-- A number and a pattern, put part by part.
use Rattle.std.specs.Prelude.{ℕ, ◌+◌, ◌/◌, ◌%◌, ◌≤◌, ◌<◌, ◌≡◌, refl, List, [], ◌∷◌, ◌++◌, Bool, true, false, cond, eqb, ℤ, pos, negsuc, nat_abs, ◌≤ℤ◌, ◌<ℤ◌, length, get_or, drop}
use Rattle.std.proofs.Common.{sym, ap, ◌∙◌, arith, add-one, eq-eqb, ne_eqb, drop-cons}
use Rattle.std.proofs.Math.Seq.{drop-length}
use Rattle.rounding.specs.laws.Order.{<-parts}
use Rattle.decimal_text.specs.Decimals.{digit, decimal, signed}
use Rattle.decimal_text.specs.laws.DecimalLaws.{decimal_small, decimal-more}
use Rattle.decimal_text.specs.Texts.{Put}
use Rattle.decimal_text.specs.laws.TextLaws.{put_then, Putting, putting_start, putting-turn, putting-end}
use Rattle.decimal_text.specs.Patterns.{piece, number_after, filled}

-- ---- a number

pub number_small : (n : ℕ) → n < 10 → (old : List ℕ) (at : ℕ) (new : List ℕ) (r : ℕ) → Put old at (digit n ∷ []) new r → Put old at (decimal n) new r
number_small n h old at new r p = rw (decimal_small n h) p

pub number_more : (n : ℕ) → 10 ≤ n → (old mid new : List ℕ) (at r q : ℕ) → length old < 18446744073709551616
    → Put old at (decimal (n / 10)) mid r → Put mid r (decimal (n % 10)) new q → Put old at (decimal n) new q
number_more n h old mid new at r q l p w =
    rw (decimal-more n h, ← decimal_small (n % 10) (omega arith)) (put_then old mid new at r q (decimal (n / 10)) (decimal (n % 10)) l p w)

-- ---- a number with its sign

signed_below : (z : ℤ) → z <ℤ pos 0 → signed z ≡ 45 ∷ decimal (nat_abs z)
unfolding signed
signed_below (pos n) l = absurd (omega (arith, <-parts l))
signed_below (negsuc n) l = refl

signed_above : (z : ℤ) → pos 0 ≤ℤ z → signed z ≡ decimal (nat_abs z)
unfolding signed
signed_above (pos n) l = refl
signed_above (negsuc n) l = absurd l.le

module _ (z : ℤ) (n : ℕ) (e : n ≡ nat_abs z) where
  pub minus-then : z <ℤ pos 0 → (old mid new : List ℕ) (at r q : ℕ) → length old < 18446744073709551616
      → Put old at (45 ∷ []) mid r → Put mid r (decimal n) new q → Put old at (signed z) new q
  minus-then h old mid new at r q l p w = rw (signed_below z h, ← e) (put_then old mid new at r q (45 ∷ []) (decimal n) l p w)

  pub no_minus : pos 0 ≤ℤ z → (old new : List ℕ) (at r : ℕ) → Put old at (decimal n) new r → Put old at (signed z) new r
  no_minus h old new at r p = rw (signed_above z h, ← e) p

-- ---- bytes as they are

-- the bytes before the i-th are put
pub record Copying (old : List ℕ) (start : ℕ) (text out : List ℕ) (at i : ℕ) : Type 0 where
  pub within : i ≤ length text
  pub putting : Putting old start text out at (drop i text)

pub copying_start : (old : List ℕ) (start : ℕ) (text : List ℕ) → start < 18446744073709551616 → length old < 18446744073709551616
    → Copying old start text old start 0
copying_start old start text h g = record { within = omega arith; putting = putting_start old start text h g }

module _ (old : List ℕ) (start : ℕ) (text out : List ℕ) (at i : ℕ) (f : Copying old start text out at i) where
  pub copying-turn : i < length text → (new : List ℕ) (r : ℕ) → Put out at (get_or text i 0 ∷ []) new r → Copying old start text new r (i + 1)
  copying-turn h new r p =
      let e : drop i text ≡ get_or text i 0 ∷ drop (i + 1) text = rw (add-one, drop-cons text i 0) in
      let g : Putting old start text out at (get_or text i 0 ∷ drop (i + 1) text) = rw e at f.putting in
      record {
        within = omega arith;
        putting = putting-turn old start text out at (get_or text i 0 ∷ []) (drop (i + 1) text) new r g p;
      }

  pub copying-end : length text ≤ i → Put old start text out at
  copying-end h =
      let w : i ≡ length text = omega (arith, f.within) in
      let e : drop i text ≡ [] = ap (λ j. drop j text) w ∙ drop-length text in
      putting-end old start text out at (rw e at f.putting)

-- ---- a pattern's byte

module _ (x : ℕ) (v : ℤ) (old new : List ℕ) (at r : ℕ) where
  pub piece-number : x ≡ 35 → (w : ℤ) → w ≡ v → Put old at (signed w) new r → Put old at (piece x v) new r
  unfolding piece
  piece-number e w q p = rw (eq-eqb x 35 e, ← q) p

  pub piece-self : (x ≡ 35 → ⊥) → Put old at (x ∷ []) new r → Put old at (piece x v) new r
  unfolding piece
  piece-self n p = rw (ne_eqb x 35 n) p

-- ---- a pattern

filled-nil : (numbers : List ℤ) (k : ℕ) → filled numbers k [] ≡ []
unfolding filled
filled-nil numbers k = refl

filled_cons : (numbers : List ℤ) (k x : ℕ) (s : List ℕ)
    → filled numbers k (x ∷ s) ≡ piece x (get_or numbers k (pos 0)) ++ filled numbers (number_after x k) s
unfolding filled
filled_cons numbers k x s = refl

-- the bytes before the i-th are put, with the numbers before the k-th
pub record Filling (old : List ℕ) (start : ℕ) (pattern : List ℕ) (numbers : List ℤ) (out : List ℕ) (at k i : ℕ) : Type 0 where
  pub within : i ≤ length pattern
  pub low : k ≤ i
  pub putting : Putting old start (filled numbers 0 pattern) out at (filled numbers k (drop i pattern))

pub filling_start : (old : List ℕ) (start : ℕ) (pattern : List ℕ) (numbers : List ℤ) → start < 18446744073709551616
    → length old < 18446744073709551616 → Filling old start pattern numbers old start 0 0
filling_start old start pattern numbers h g =
    record { within = omega arith; low = omega arith; putting = putting_start old start (filled numbers 0 pattern) h g }

number_after_low : (x k i : ℕ) → k ≤ i → number_after x k ≤ i + 1
number_after_low x k i h = by (eqb x 35)
  where
    by : (b : Bool) → cond b (k + 1) k ≤ i + 1
    by true = omega arith
    by false = omega arith

module _ (old : List ℕ) (start : ℕ) (pattern : List ℕ) (numbers : List ℤ) (out : List ℕ) (at k i : ℕ)
    (f : Filling old start pattern numbers out at k i) where
  pub filling-end : length pattern ≤ i → Put old start (filled numbers 0 pattern) out at
  filling-end h =
      let w : i ≡ length pattern = omega (arith, f.within) in
      let d : drop i pattern ≡ [] = ap (λ j. drop j pattern) w ∙ drop-length pattern in
      let e : filled numbers k (drop i pattern) ≡ [] = ap (filled numbers k) d ∙ filled-nil numbers k in
      putting-end old start (filled numbers 0 pattern) out at (rw e at f.putting)

  module _ (h : i < length pattern) (v : ℤ) (e : v ≡ get_or numbers k (pos 0)) where
    next-piece : filled numbers k (drop i pattern)
        ≡ piece (get_or pattern i 0) v ++ filled numbers (number_after (get_or pattern i 0) k) (drop (i + 1) pattern)
    next-piece =
        ap (filled numbers k) (drop-cons pattern i 0 h ∙ ap (λ j. get_or pattern i 0 ∷ drop j pattern) (sym (add-one i)))
        ∙ filled_cons numbers k (get_or pattern i 0) (drop (i + 1) pattern)
        ∙ ap (λ y. piece (get_or pattern i 0) y ++ filled numbers (number_after (get_or pattern i 0) k) (drop (i + 1) pattern)) (sym e)

    pub filling-turn : (new : List ℕ) (r j : ℕ) → Put out at (piece (get_or pattern i 0) v) new r → j ≡ number_after (get_or pattern i 0) k
        → Filling old start pattern numbers new r j (i + 1)
    filling-turn new r j p q =
        let x = get_or pattern i 0 in
        let rest = filled numbers (number_after x k) (drop (i + 1) pattern) in
        let g : Putting old start (filled numbers 0 pattern) out at (piece x v ++ rest) = rw next-piece at f.putting in
        let t : Filling old start pattern numbers new r (number_after x k) (i + 1) =
        record {
          within = omega arith;
          low = number_after_low x k i f.low;
          putting = putting-turn old start (filled numbers 0 pattern) out at (piece x v) rest new r g p;
        } in
        rw q t

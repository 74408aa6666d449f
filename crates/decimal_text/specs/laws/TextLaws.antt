-- Texts put one after the other.
use Rattle.std.specs.Prelude.{ℕ, zero, suc, ◌+◌, ◌-◌, ◌≤◌, ◌<◌, min, ◌≡◌, refl, List, [], ◌∷◌, ◌++◌, Bool, true, false, leb, length, set, take, drop}
use Rattle.std.proofs.Common.{sym, ap, ◌∙◌, append-nil, arith, add-zero, add_comm, le_of_lt, leb-true, leb-false, length-append, length-drop, drop_of_length-le, take_all}
use Rattle.std.proofs.Math.Nat.{min-eq_left, min-eq_right, min-le_right}
use Rattle.std.proofs.lemmas.List.Edits.{sets}
use Rattle.std.proofs.Math.Seq.{set_out, length-sets}
use Rattle.rounding.specs.laws.Stores.{sets_append}
use Rattle.decimal_text.specs.Texts.{capped, Put}

-- ---- the cap

pub capped-low : (n : ℕ) → n < 18446744073709551616 → capped n ≡ n
unfolding capped
capped-low n h = min-eq_left (omega arith)

pub capped-high : (n : ℕ) → 18446744073709551615 ≤ n → capped n ≡ 18446744073709551615
unfolding capped
capped-high n h = min-eq_right h

-- a number is below its cap's end, or it is capped
pub data Capped (n : ℕ) : Type 0 where
  low : n < 18446744073709551615 → capped n ≡ n → Capped n
  high : 18446744073709551615 ≤ n → capped n ≡ 18446744073709551615 → Capped n

pub is-capped : (n : ℕ) → Capped n
is-capped n = by (leb 18446744073709551615 n) refl
  where
    by : (b : Bool) → leb 18446744073709551615 n ≡ b → Capped n
    by true b = let h = leb-true 18446744073709551615 n b in high h (capped-high n h)
    by false b = let h = leb-false 18446744073709551615 n b in low h (capped-low n (omega arith))

pub capped_fits : (n : ℕ) → capped n < 18446744073709551616
capped_fits n = by (is-capped n)
  where
    by : Capped n → capped n < 18446744073709551616
    by (low h e) = omega arith
    by (high h e) = omega arith

-- a place is capped once, at the end
pub capped-sum : (a b : ℕ) → capped (capped a + b) ≡ capped (a + b)
capped-sum a b = by (is-capped a)
  where
    by : Capped a → capped (capped a + b) ≡ capped (a + b)
    by (low h e) = ap (λ n. capped (n + b)) e
    by (high h e) = capped-high (capped a + b) (omega arith) ∙ sym (capped-high (a + b) (omega arith))

-- ---- stores

-- past the end nothing changes
sets_past : (x l : List ℕ) (i : ℕ) → length l ≤ i → sets l i x ≡ l
sets_past [] l i h = refl
sets_past (a ∷ x) l i h = ap (λ k. sets k (suc i) x) (set_out l i a h) ∙ sets_past x l (suc i) (omega arith)

sets_capped : (x l : List ℕ) (i : ℕ) → length l < 18446744073709551616 → sets l (capped i) x ≡ sets l i x
sets_capped x l i h = by (is-capped i)
  where
    by : Capped i → sets l (capped i) x ≡ sets l i x
    by (low g e) = ap (λ k. sets l k x) e
    by (high g e) = sets_past x l (capped i) (omega arith) ∙ sym (sets_past x l i (omega arith))

-- ---- texts

pub put_same : (old : List ℕ) (at : ℕ) (text new : List ℕ) (r : ℕ) → Put old at text new r → length new ≡ length old
put_same old at text new r p = ap length p.room ∙ length-sets old at text

pub put_nil : (old : List ℕ) (at : ℕ) → at < 18446744073709551616 → Put old at [] old at
put_nil old at h = record { place = sym (ap capped (add-zero at) ∙ capped-low at h); room = refl }

-- one text after the other
pub put_then : (old mid new : List ℕ) (at r q : ℕ) (x y : List ℕ) → length old < 18446744073709551616
    → Put old at x mid r → Put mid r y new q → Put old at (x ++ y) new q
put_then old mid new at r q x y h p w =
    let e : at + length x + length y ≡ at + length (x ++ y) = omega (arith, length-append x y) in
    let l : length mid < 18446744073709551616 = omega (arith, put_same old at x mid r p) in
    record {
      place = w.place ∙ ap (λ k. capped (k + length y)) p.place ∙ capped-sum (at + length x) (length y) ∙ ap capped e;
      room =
          w.room ∙ ap (λ k. sets mid k y) p.place ∙ sets_capped y mid (at + length x) l
          ∙ ap (λ k. sets k (at + length x) y) p.room ∙ sym (sets_append x y old at);
    }

-- a byte at a place that the buffer has, and at one that it has not
pub put_in : (old : List ℕ) (at x : ℕ) → at < length old → length old < 18446744073709551616 → Put old at (x ∷ []) (set old at x) (at + 1)
put_in old at x h g = record { place = sym (capped-low (at + 1) (omega arith)); room = refl }

pub put_past : (old : List ℕ) (at x : ℕ) → length old ≤ at → at + 1 < 18446744073709551616 → Put old at (x ∷ []) old (at + 1)
put_past old at x h g = record { place = sym (capped-low (at + 1) g); room = sym (set_out old at x h) }

-- a byte at the greatest place
pub put_last : (old : List ℕ) (at x : ℕ) → length old ≤ at → at ≡ 18446744073709551615 → Put old at (x ∷ []) old at
put_last old at x h e = record { place = e ∙ sym (capped-high (at + 1) (omega arith)); room = sym (set_out old at x h) }

-- ---- a text put at the start of what is left of a buffer

sets_cons : (x : ℕ) (text l : List ℕ) (n : ℕ) → sets (x ∷ l) (suc n) text ≡ x ∷ sets l n text
sets_cons x [] l n = refl
sets_cons x (a ∷ text) l n = sets_cons x text (set l n a) (suc n)

sets_left : (n : ℕ) (l text : List ℕ) → n ≤ length l → take n l ++ sets (drop n l) 0 text ≡ sets l n text
sets_left zero l text h = refl
sets_left (suc n) [] text h = absurd (omega arith)
sets_left (suc n) (x ∷ l) text h = ap (λ k. x ∷ k) (sets_left n l text (omega arith)) ∙ sym (sets_cons x text l n)

sets_clipped : (l text : List ℕ) (at : ℕ) → sets l (min at (length l)) text ≡ sets l at text
sets_clipped l text at = by (leb at (length l)) refl
  where
    by : (b : Bool) → leb at (length l) ≡ b → sets l (min at (length l)) text ≡ sets l at text
    by true b = rw (min-eq_left (leb-true at (length l) b))
    by false b =
        let h = leb-false at (length l) b in
        rw (min-eq_right (le_of_lt h)) (sets_past text l (length l) (omega arith) ∙ sym (sets_past text l at (omega arith)))

-- as a caller borrows what is left, and gets it back
pub put_left : (old : List ℕ) (at from : ℕ) (text new : List ℕ) (n r : ℕ) → from ≡ min at (length old)
    → Put (take (length old - from) (drop from old)) 0 text new n → r ≡ capped (at + n)
    → Put old at text (take from old ++ (new ++ drop (length old - from) (drop from old))) r
put_left old at from text new n r e p q =
    let s : capped (at + capped (0 + length text)) ≡ capped (capped (0 + length text) + at) = ap capped (add_comm at (capped (0 + length text))) in
    let t : 0 + length text + at ≡ at + length text = omega arith in
    let h : from ≤ length old = omega (arith, e, min-le_right at (length old)) in
    let l : length (drop from old) ≤ length old - from = omega (arith, length-drop from old) in
    record {
      place = q ∙ ap (λ k. capped (at + k)) p.place ∙ s ∙ capped-sum (0 + length text) at ∙ ap capped t;
      room =
          ap (λ k. take from old ++ (new ++ k)) (drop_of_length-le (drop from old) l)
          ∙ ap (λ k. take from old ++ k) (append-nil new ∙ p.room ∙ ap (λ k. sets k 0 text) (take_all (length old - from) (drop from old) l))
          ∙ sets_left from old text h ∙ ap (λ k. sets old k text) e ∙ sets_clipped old text at;
    }

-- ---- a text that is being put: what is left of it, once put, gives what is to be left

pub record Putting (old : List ℕ) (start : ℕ) (text out : List ℕ) (at : ℕ) (left : List ℕ) : Type 0 where
  pub fits : at < 18446744073709551616
  pub short : length old < 18446744073709551616
  pub same : length out ≡ length old
  pub rest : (new : List ℕ) (r : ℕ) → Put out at left new r → Put old start text new r

module _ (old : List ℕ) (start : ℕ) (text : List ℕ) where
  pub putting_start : start < 18446744073709551616 → length old < 18446744073709551616 → Putting old start text old start text
  putting_start h g = record { fits = h; short = g; same = refl; rest = λ new r p. p }

  pub putting-turn : (out : List ℕ) (at : ℕ) (x y new : List ℕ) (r : ℕ) → Putting old start text out at (x ++ y) → Put out at x new r
      → Putting old start text new r y
  putting-turn out at x y new r f p =
      record {
        fits = rw p.place (capped_fits (at + length x));
        short = f.short;
        same = put_same out at x new r p ∙ f.same;
        rest = λ more q w. f.rest more q (put_then out new more at r q x y (omega (arith, f.same, f.short)) p w);
      }

  pub putting-end : (out : List ℕ) (at : ℕ) → Putting old start text out at [] → Put old start text out at
  putting-end out at f = f.rest out at (put_nil out at f.fits)

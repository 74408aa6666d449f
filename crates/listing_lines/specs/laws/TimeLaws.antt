-- How the code comes by a time: it divides a natural number, which is the thousandths and 100,000 days, and takes the
-- days off again.
use Rattle.std.specs.Prelude.{ℕ, zero, suc, ◌+◌, ◌/◌, ◌%◌, ◌<◌, ◌≡◌, List, [], ◌∷◌, ◌++◌, ℤ, negsuc, ◌+ℤ◌, ◌-ℤ◌, ◌*ℤ◌, ◌≤ℤ◌, ◌<ℤ◌, length}
use Rattle.std.proofs.Common.{sym, ap, ap₂, ◌∙◌, arith, mod-lt}
use Rattle.std.proofs.Math.Nat.{div-add-mod}
use Rattle.std.proofs.Math.IntN.{pos}
use Rattle.rounding.specs.Near.{floor_z}
use Rattle.rounding.specs.laws.Floor.{floor-is, floor_unique}
use Rattle.rounding.specs.Parts.{pos_p}
use Rattle.rounding.specs.laws.Order.{zs, <-parts, ≤-parts}
use Rattle.rounding.specs.laws.Ring.{num, ◌⊕◌, ◌⊖◌, ◌⊗◌, v0, v1, v2, v3, v4, v5, ring}
use Rattle.rounding.specs.laws.Cert.{leq, less, equ, ◌⊞◌, certify, certify-<}
use Rattle.decimal_text.specs.Decimals.{signed}
use Rattle.decimal_text.specs.Texts.{letters, Put}
use Rattle.decimal_text.specs.laws.TextLaws.{put_nil}
use Rattle.decimal_text.specs.laws.RowLaws.{joined}
use Rattle.listing_lines.specs.Times.{of_day_text, day_text, time_text}

-- ---- rounding down after a shift by s times the divisor

module _ (n : ℤ) (b s m : ℕ) (above : 0 < b) (shifted : n +ℤ pos b *ℤ pos s ≡ pos m) where
  -- 0 is n, 1 the divisor, 2 the shift, 3 the shifted number, 4 its quotient and 5 its remainder
  abbrev e : List ℤ
  e = n ∷ pos b ∷ pos s ∷ pos m ∷ pos (m / b) ∷ pos (m % b) ∷ []

  divided : pos b *ℤ pos (m / b) +ℤ pos (m % b) ≡ pos m
  divided = ap pos (div-add-mod m b)

  small : pos (m % b) <ℤ pos b
  small = let l = mod-lt m {m = b} above in omega (arith, zs)

  pub floor-shifted : floor_z n (pos b) ≡ pos (m / b) -ℤ pos s
  floor-shifted =
      let h : pos 0 <ℤ pos b = omega (arith, zs) in
      let r : pos 0 ≤ℤ pos (m % b) = omega (arith, zs) in
      floor_unique h (floor-is n (pos b) h)
      (record {
        low = certify 0 e (v1 ⊗ (v4 ⊖ v2)) v0 (equ (v1 ⊗ v4 ⊕ v5) v3 divided ⊞ equ v3 (v0 ⊕ v1 ⊗ v2) (sym shifted) ⊞ leq (num 0) v5 r) tt;
        high = certify-< 0 e v0 (v1 ⊗ (v4 ⊖ v2) ⊕ v1) (equ v3 (v1 ⊗ v4 ⊕ v5) (sym divided) ⊞ equ (v0 ⊕ v1 ⊗ v2) v3 shifted ⊞ less v5 v1 small) tt;
      })

  -- and what is left of n
  pub rest-shifted : n -ℤ pos b *ℤ floor_z n (pos b) ≡ pos (m % b)
  rest-shifted =
      ap (λ q. n -ℤ pos b *ℤ q) floor-shifted
      ∙ ring e (v0 ⊖ v1 ⊗ (v4 ⊖ v2)) (v0 ⊕ v1 ⊗ v2 ⊖ v1 ⊗ v4) tt
      ∙ ap (λ z. z -ℤ pos b *ℤ pos (m / b)) (shifted ∙ sym divided)
      ∙ ring e (v1 ⊗ v4 ⊕ v5 ⊖ v1 ⊗ v4) v5 tt

-- ---- a time

-- of n tenths, 100,000 days up
days_up : (n : ℤ) (m : ℕ) → n +ℤ pos 86400000000 ≡ pos m → time_text n ≡ of_day_text (m % 864000) ++ day_text (pos (m / 864000) -ℤ pos 100000)
unfolding time_text
days_up n m e =
    ap₂ (λ t d. of_day_text t ++ day_text d) (ap pos_p (rest-shifted n 864000 100000 m (omega arith) e)) (floor-shifted n 864000 100000 m (omega arith) e)

-- of the tenths of n thousandths, 100,000 days up
pub time_up : (n : ℤ) (m : ℕ) → n +ℤ pos 8640000000000 ≡ pos m
    → time_text (floor_z n (pos 100)) ≡ of_day_text (m / 100 % 864000) ++ day_text (pos (m / 100 / 864000) -ℤ pos 100000)
time_up n m e =
    let f = floor-shifted n 100 86400000000 m (omega arith) e in
    days_up (floor_z n (pos 100)) (m / 100)
    (ap (λ z. z +ℤ pos 86400000000) f ∙ ring (pos (m / 100) ∷ pos 86400000000 ∷ []) (v0 ⊖ v1 ⊕ v1) v0 tt)

-- ---- the day

module _ (d : ℤ) (old : List ℕ) (at : ℕ) where
  pub day-before : d <ℤ pos 0 → (new : List ℕ) (r : ℕ) → Put old at (signed d ++ letters "d") new r → Put old at (day_text d) new r
  unfolding day_text
  day-before h new r p = by d h p
    where
      by : (z : ℤ) → z <ℤ pos 0 → Put old at (signed z ++ letters "d") new r → Put old at (day_text z) new r
      by (pos n) h p = absurd (omega (arith, <-parts h))
      by (negsuc n) h p = p

  pub day-after : pos 0 <ℤ d → (mid new : List ℕ) (r q : ℕ) → length old < 18446744073709551616
      → Put old at (letters "+") mid r → Put mid r (signed d ++ letters "d") new q → Put old at (day_text d) new q
  unfolding day_text
  day-after h mid new r q l p w = by d h (joined l p w)
    where
      by : (z : ℤ) → pos 0 <ℤ z → Put old at (letters "+" ++ (signed z ++ letters "d")) new q → Put old at (day_text z) new q
      by (pos zero) h p = absurd (omega (arith, <-parts h))
      by (pos (suc n)) h p = p
      by (negsuc n) h p = absurd h.lt

  pub same-day : pos 0 ≤ℤ d → d ≤ℤ pos 0 → at < 18446744073709551616 → Put old at (day_text d) old at
  unfolding day_text
  same-day h g k = by d h g
    where
      by : (z : ℤ) → pos 0 ≤ℤ z → z ≤ℤ pos 0 → Put old at (day_text z) old at
      by (pos zero) h g = put_nil old at k
      by (pos (suc n)) h g = absurd (omega (arith, ≤-parts g))
      by (negsuc n) h g = absurd h.le

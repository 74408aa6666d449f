-- What `size` answers, by the exponent field. Numbers only: 2^1074 is a variable where omega works.
use mathlib.Core.Path.{◌≡◌, refl, sym, ap, ◌∙◌}
use Prim.Native.Nat.{ℕ, zero, suc, ◌+◌, ◌-◌, ◌*◌, ◌/◌, ◌^◌, ◌≤◌, ◌<◌, min}
use native.Mathlib.Omega.{arith}
use native.Mathlib.Nat.{mul-one, mul_comm, mul_left_comm, mul_right_comm, mul-add, mul-le-mul, mul-div-mul_left, le-div_iff_mul-le, le-add_right, le_of_eq, le_trans}
use lib.Pow.{pow-add, pow_pos, pow_mono}
use Rattle.rounding.specs.Near.{half_up}
use Rattle.binary64.specs.laws.Fields.{size_of}
use Rattle.binary64.proofs.laws.ReadingLaws.{twice_positive}

-- where a size is too large; the weight of the leading digit
abbrev limit : ℕ
limit = 2 ^ 63

abbrev leading : ℕ
leading = 2 ^ 52

-- a common factor of both parts of the fraction
pub shared : (x n d : ℕ) → 0 < x → half_up (x * n) (x * d) ≡ half_up n d
shared x n d p =
    ap (λ (m : ℕ). m / (2 * (x * d))) (sym (mul-add x (2 * n) d ∙ ap (λ (m : ℕ). m + x * d) (mul_left_comm x 2 n)))
    ∙ ap (λ (m : ℕ). x * (2 * n + d) / m) (mul_left_comm 2 x d)
    ∙ mul-div-mul_left (2 * n + d) (2 * d) p

-- c·d ≤ n
pub at_least : (c n d : ℕ) → 0 < d → c * d ≤ n → c ≤ half_up n d
at_least c n d p h = (le-div_iff_mul-le (twice_positive d p)).1 (go (c * (2 * d)) (c * d) (mul_left_comm c 2 d) h)
  where
    go : (x y : ℕ) → x ≡ 2 * y → y ≤ n → x ≤ 2 * n + d
    go x y e l = omega arith

capped : (n c : ℕ) → c ≤ n → c ≡ min n c
capped n c h = omega arith

module _ (s t : ℕ) where
  -- no leading digit
  pub field-zero : (f : ℕ) → f ≡ 0 → half_up (t * s) (2 ^ 1074) ≡ size_of s f t
  unfolding size_of
  field-zero zero e = ap (λ (n : ℕ). half_up (n * s) (2 ^ 1074)) (sym (mul-one t))
  field-zero (suc j) e = absurd (no j e)
    where
      no : (j : ℕ) → suc j ≡ 0 → ⊥
      no j e = omega arith

  -- 2^j·2^k is 2^1074
  fraction : (q x z y : ℕ) → 0 < x → x * z ≡ y → half_up (q * s) z ≡ half_up (q * x * s) y
  fraction q x z y p e =
      sym
      (ap (λ (n : ℕ). half_up n y) (mul_right_comm q x s ∙ mul_comm (q * s) x)
      ∙ ap (λ (n : ℕ). half_up (x * (q * s)) n) (sym e)
      ∙ shared x (q * s) z p)

  pub field-usual : (f : ℕ) → (f ≡ 0 → ⊥) → f ≤ 1075 → half_up ((leading + t) * s) (2 ^ (1075 - f)) ≡ size_of s f t
  unfolding size_of
  field-usual zero n h = absurd (n refl)
  field-usual (suc j) n h =
      fraction (leading + t) (2 ^ j) (2 ^ (1075 - suc j)) (2 ^ 1074) (pow_pos j)
      (sym (pow-add 2 j (1075 - suc j)) ∙ ap (λ (n : ℕ). 2 ^ n) (join j h))
    where
      join : (j : ℕ) → suc j ≤ 1075 → j + (1075 - suc j) ≡ 1074
      join j h = omega arith

  -- (2^52 + t)·2^j·s is at least 2^63·2^1074
  reach : (x y : ℕ) → y ≤ x → 2048 ≤ s → limit * y ≤ (leading + t) * x * s
  reach x y h g =
      le_trans (le_of_eq (go y)) (mul-le-mul (mul-le-mul (le-add_right leading t) h) g)
    where
      go : (y : ℕ) → limit * y ≡ leading * y * 2048
      go y = omega arith

  pub field-large : (f : ℕ) → 1075 < f → 2048 ≤ s → limit ≡ min (size_of s f t) limit
  unfolding size_of
  field-large zero h g = absurd (no h)
    where
      no : 1075 < 0 → ⊥
      no h = omega arith
  field-large (suc j) h g =
      capped (half_up ((leading + t) * 2 ^ j * s) (2 ^ 1074)) limit
      (at_least limit ((leading + t) * 2 ^ j * s) (2 ^ 1074) (pow_pos 1074) (reach (2 ^ j) (2 ^ 1074) (pow_mono (le j h)) g))
    where
      le : (j : ℕ) → 1075 < suc j → 1074 ≤ j
      le j h = omega arith

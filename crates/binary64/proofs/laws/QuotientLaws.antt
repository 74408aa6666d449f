-- A quotient of two whole numbers as a double: n / S, rounded once, is read with the scale S as n, for S up to 2^53
-- and n below 2^51. The quotient is less than one step of its last digit away from the exact one; that step, times the
-- scale, is less than half a unit. 2^1074 is a variable, P, where omega works.
use Rattle.std.specs.Prelude.{◌≡◌, refl, Bool, true, false, cond, T, eqb, Float}
use Rattle.std.proofs.Common.{sym, ap, ◌∙◌, subst, arith, le_trans, le_of_eq, lt_of_le_of_lt, div-mul-le_self, div-add-mod', mod-lt, zero-mul, mul-one, mul_comm, mul_assoc, mul_left_comm, mul-pos, mul-le-mul_left, mul-le-mul_right, suc-mul, eqb→eq, pow-add, pow_pos}
use Prim.Native.Nat.{ℕ, zero, suc, ◌+◌, ◌-◌, ◌*◌, ◌/◌, ◌%◌, ◌^◌, ◌≤◌, ◌<◌, compare}
use Rattle.std.proofs.Math.Nat.{div-eq_of_lt-le}
use Rattle.std.proofs.Math.Pow.{pow-lt}
use Rattle.std.specs.Float.{nan, inf, fin, binary64}
use Rattle.std.specs.Float.Ieee.{up, down, unlike, size, round, div}
use Rattle.std.specs.Float.Ieee.Digits.{size_reaches}
use Rattle.std.specs.Float.Ieee.Fits.{down_pos, nearest-le, round_is}
use Rattle.std.specs.Float.Ieee.Nearest.{nearest-ge, closest}
use Rattle.std.specs.Float.Ieee.Exact.{HasValue, units_val}
use Rattle.std.specs.Float.Ieee.Order.{drop, kept}
use Rattle.std.specs.Float.Ieee.Scale.{round_same, grid, overflow, finite}
use Rattle.rounding.specs.Near.{half_up}
use Rattle.binary64.specs.Doubles.{signed, ReadsBack}
use Rattle.binary64.proofs.laws.ReadingLaws.{units_value}

-- ---- `closest n u` times u is at most u away from n
closest_above : (n u : ℕ) → closest n u * u ≤ n + u
closest_above n u =
    go (closest n u * u) (suc (n / u) * u) (mul-le-mul_right u (nearest-le (n / u) (compare (n % u * 2) u))) (suc-mul (n / u) u) (div-mul-le_self n u)
  where
    go : (x y : ℕ) → x ≤ y → y ≡ n / u * u + u → n / u * u ≤ n → x ≤ n + u
    go x y a b c = omega arith

closest_below : (n u : ℕ) → 0 < u → n ≤ closest n u * u + u
closest_below n u p =
    go (n / u * u) (n % u) (closest n u * u) (div-add-mod' n u) (mod-lt n p) (mul-le-mul_right u (nearest-ge (n / u) (compare (n % u * 2) u)))
  where
    go : (x y z : ℕ) → x + y ≡ n → y < u → x ≤ z → n ≤ z + u
    go x y z a b c = omega arith

-- ---- n / S in units of 1 / P: how many digits are dropped, and what a step of the last kept one is, times S
module _ (n S P : ℕ) (S0 : 0 < S) (S1 : 2 * S < P) (n1 : n < 2 ^ 51) where
  abbrev K : ℕ
  K = drop 53 (n * P) S

  abbrev step : ℕ
  step = S * 2 ^ K

  many : (z : ℕ) → z ≡ size (n * P / S) → 53 < z → 2 * (S * 2 ^ (z - 53)) < P
  many z e h =
      thin (S * 2 ^ (z - 53)) (2 ^ (z - 1) * S) (n * P) scaled (le_trans (mul-le-mul_right S reached) (div-mul-le_self (n * P) S)) (mul-le-mul_right P top)
    where
      reached : 2 ^ (z - 1) ≤ n * P / S
      reached = size_reaches (n * P / S) (z - 1) (subst (λ (x : ℕ). z - 1 < x) e (omega arith))

      top : n ≤ 2251799813685247
      top = omega arith

      scaled : 2 ^ (z - 1) * S ≡ 2 ^ 52 * (S * 2 ^ (z - 53))
      scaled =
          let j : 52 + (z - 53) ≡ z - 1 = omega arith in
          ap (λ (x : ℕ). 2 ^ x * S) (sym j)
          ∙ ap (λ (x : ℕ). x * S) (pow-add 2 52 (z - 53))
          ∙ mul_assoc (2 ^ 52) (2 ^ (z - 53)) S
          ∙ ap (λ (x : ℕ). 2 ^ 52 * x) (mul_comm (2 ^ (z - 53)) S)

      thin : (x y w : ℕ) → y ≡ 2 ^ 52 * x → y ≤ w → w ≤ 2251799813685247 * P → 2 * x < P
      thin x y w a b c = omega arith

  step_small : 2 * step < P
  step_small = go (size (n * P / S)) refl
    where
      go : (z : ℕ) → z ≡ size (n * P / S) → 2 * (S * 2 ^ (size (n * P / S) - 53)) < P
      go z e = subst (λ (x : ℕ). 2 * (S * 2 ^ (x - 53)) < P) e (by (z - 53) refl)
        where
          by : (d : ℕ) → z - 53 ≡ d → 2 * (S * 2 ^ (z - 53)) < P
          by zero f = subst (λ (x : ℕ). 2 * (S * 2 ^ x) < P) (sym f) (subst (λ (x : ℕ). 2 * x < P) (sym (mul-one S)) S1)
          by (suc d) f = many z e (omega arith)

  abbrev g : ℕ
  g = kept 53 (n * P) S * 2 ^ K

  gS : g * S ≡ closest (n * P) step * step
  gS = mul_assoc (kept 53 (n * P) S) (2 ^ K) S ∙ ap (λ (x : ℕ). kept 53 (n * P) S * x) (mul_comm (2 ^ K) S)

  step-pos : 0 < step
  step-pos = mul-pos S0 (pow_pos K)

  above : 2 * (g * S) < 2 * (n * P) + P
  above = go (g * S) (closest (n * P) step * step) gS (closest_above (n * P) step)
    where
      go : (x y : ℕ) → x ≡ y → y ≤ n * P + step → 2 * x < 2 * (n * P) + P
      go x y a b = omega (arith, step_small)

  below : 2 * (n * P) < 2 * (g * S) + P
  below = go (g * S) (closest (n * P) step * step) gS (closest_below (n * P) step step-pos)
    where
      go : (x y : ℕ) → x ≡ y → n * P ≤ y + step → 2 * (n * P) < 2 * x + P
      go x y a b = omega (arith, step_small)

  -- so the nearest whole number to the rounded quotient times S is n
  same-unit : half_up (g * S) P ≡ n
  same-unit = div-eq_of_lt-le (2 * P) (lo (n * (2 * P)) (mul_left_comm n 2 P)) (hi ((n + 1) * (2 * P)) (more (n + 1) refl))
    where
      lo : (x : ℕ) → x ≡ 2 * (n * P) → x ≤ 2 * (g * S) + P
      lo x e = omega (arith, below)

      more : (m : ℕ) → m ≡ n + 1 → m * (2 * P) ≡ 2 * (n * P) + 2 * P
      more m e =
          let s : suc n * (2 * P) ≡ n * (2 * P) + 2 * P = suc-mul n (2 * P) in
          let l : n * (2 * P) ≡ 2 * (n * P) = mul_left_comm n 2 P in
          let f : m ≡ suc n = omega arith in
          ap (λ (x : ℕ). x * (2 * P)) f ∙ s ∙ ap (λ (x : ℕ). x + 2 * P) l

      hi : (x : ℕ) → x ≡ 2 * (n * P) + 2 * P → 2 * (g * S) + P < x
      hi x e = omega (arith, above)

  -- and the quotient is far from overflow
  g-small : g ≤ 2 ^ 51 * P
  g-small = go (g * S) (n * P) above (le_trans (le_of_eq (sym (mul-one g))) (mul-le-mul_left g S0)) (le_trans (mul-le-mul_right P top) (le_of_eq refl))
    where
      top : n ≤ 2251799813685247
      top = omega arith

      go : (x w : ℕ) → 2 * x < 2 * w + P → g ≤ x → w ≤ 2251799813685247 * P → g ≤ 2 ^ 51 * P
      go x w a b c = omega arith

-- ---- the rounded quotient, and what it is read as
value_finite : (x : Float) (s : Bool) (a c : ℕ) → HasValue x s a c → finite x ≡ true
value_finite nan s a c v = absurd v
value_finite (inf t) s a c v = absurd v
value_finite (fin t m e) s a c v = refl

module _ (s : Bool) (n S : ℕ) (S0 : 0 < S) (S1 : S ≤ 2 ^ 53) (n1 : n < 2 ^ 51) where
  twice-small : 2 * S < 2 ^ 1074
  twice-small = lt_of_le_of_lt (mul-le-mul_left 2 S1) (pow-lt {i = 54} {j = 1074} (omega arith))

  room : grid binary64 n S < overflow binary64
  room =
      lt_of_le_of_lt (g-small n S (2 ^ 1074) S0 twice-small n1)
      (lt_of_le_of_lt (le_of_eq (sym (pow-add 2 51 1074))) (pow-lt {i = 51 + 1074} {j = 1074 + 1024} (omega arith)))

  quotient : HasValue (round binary64 s n S) s (grid binary64 n S) (2 ^ 1074)
  quotient =
      subst (λ (z : Float). HasValue z s (grid binary64 n S) (2 ^ 1074)) (sym (round_is binary64 s n S))
      (units_val binary64 s (kept 53 (n * 2 ^ 1074) S) (drop 53 (n * 2 ^ 1074) S) room)

  pub round-back : ReadsBack S (signed s n) (round binary64 s n S)
  round-back =
      record {
        is_finite = value_finite (round binary64 s n S) s (grid binary64 n S) (2 ^ 1074) quotient;
        units =
            units_value S (round binary64 s n S) s (grid binary64 n S) (2 ^ 1074) (pow_pos 1074) quotient
            ∙ ap (λ (x : ℕ). signed s x) (same-unit n S (2 ^ 1074) S0 twice-small n1);
      }

-- ---- a quotient of two whole numbers as doubles is that of the numbers, rounded once
not_zero : (m u d S : ℕ) → 0 < S → 0 < d → m * u * 1 ≡ S * d → (T (eqb m 0) → ⊥)
not_zero m u d S p q e t = no (S * d) (mul-pos p q) (sym e ∙ ap (λ (x : ℕ). x * u * 1) (eqb→eq m 0 t) ∙ ap (λ (x : ℕ). x * 1) (zero-mul u))
  where
    no : (x : ℕ) → 0 < x → x ≡ 0 * 1 → ⊥
    no x p e = omega arith

skip : (b : Bool) (u v : Float) → (T b → ⊥) → cond b u v ≡ v
skip true u v n = absurd (n tt)
skip false u v n = refl

sign_left : (s t r : Bool) → s ≡ r → t ≡ false → unlike s t ≡ r
sign_left true true r a b = absurd (subst (λ (x : Bool). T x) b tt)
sign_left true false r a b = a
sign_left false true r a b = absurd (subst (λ (x : Bool). T x) b tt)
sign_left false false r a b = a

pub div_value : (x y : Float) (s : Bool) (n S : ℕ) → 0 < S → HasValue x s n 1 → HasValue y false S 1 → div binary64 x y ≡ round binary64 s n S
unfolding div
div_value nan y s n S p v w = absurd v
div_value (inf t) y s n S p v w = absurd v
div_value (fin t m e) nan s n S p v w = absurd w
div_value (fin t m e) (inf r) s n S p v w = absurd w
div_value (fin t m e) (fin r k d) s n S p v w =
    skip (eqb k 0) (cond (eqb m 0) nan (inf (unlike t r))) (round binary64 (unlike t r) (m * up e * down d) (k * up d * down e))
    (not_zero k (up d) (down d) S p (down_pos d) w.1)
    ∙ ap (λ (b : Bool). round binary64 b (m * up e * down d) (k * up d * down e)) (sign_left t r s v.0 w.0)
    ∙ round_same binary64 s (m * up e * down d) (k * up d * down e) n S
    (subst (λ (x : ℕ). 0 < x * down e) (sym kd) (mul-pos (mul-pos p (down_pos d)) (down_pos e))) p
    (ap (λ (x : ℕ). x * down d * S) me ∙ turn n (down e) (down d) S ∙ ap (λ (x : ℕ). n * (x * down e)) (sym kd))
  where
    me : m * up e ≡ n * down e
    me = sym (mul-one (m * up e)) ∙ v.1

    kd : k * up d ≡ S * down d
    kd = sym (mul-one (k * up d)) ∙ w.1

    turn : (n a b S : ℕ) → n * a * b * S ≡ n * (S * b * a)
    turn n a b S = simp (mul_assoc, mul_comm, mul_left_comm)

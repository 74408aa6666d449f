-- What `scaled` works out: q·s in two words, and from them the nearest whole number to q·s / 2^k. Numbers only.
use mathlib.Core.Path.{◌≡◌, sym, ap, ◌∙◌, subst}
use Prim.Native.Nat.{ℕ, suc, ◌+◌, ◌-◌, ◌*◌, ◌/◌, ◌%◌, ◌^◌, ◌≤◌, ◌<◌, min}
use native.Mathlib.Omega.{arith}
use native.Mathlib.Nat.{add-mul, mul_assoc, mul_comm, mul_right_comm, mul_left_comm, mul-le-mul, mul-le-mul_right, one-mul, suc-mul}
use native.Mathlib.Nat.{div-add-mod', div-eq_of_lt, div-div-eq-div-mul, mul-div-mul_left, mul-add-div_right, div-lt_iff_lt-mul, div-le_self}
use native.Mathlib.Nat.{mod-eq_of_lt, le_trans}
use lib.Pow.{pow-add, pow_pos, pow_mono, pow-lt}
use lib.Dec.{lit<}
use Rattle.rounding.specs.Near.{half_up}
use Rattle.binary64.proofs.laws.ReadingLaws.{twice_positive}

-- what 64 bits count; where a size is too large; what q is split by
abbrev word : ℕ
word = 2 ^ 64

abbrev limit : ℕ
limit = 2 ^ 63

abbrev part : ℕ
part = 2 ^ 26

-- ---- one division, with D for 2^k and W for 2^26

-- D divides W: E·D is W
low_nat : (a b D E W : ℕ) → 0 < D → E * D ≡ W → half_up (a * W + b) D ≡ a * E + (2 * b + D) / (2 * D)
low_nat a b D E W p e =
    ap (λ (n : ℕ). n / (2 * D)) (split (a * W) (ap (λ (w : ℕ). a * w) (sym e) ∙ sym (mul_assoc a E D)))
    ∙ mul-add-div_right (twice_positive D p) (a * E) (2 * b + D)
  where
    split : (x : ℕ) → x ≡ a * E * D → 2 * (x + b) + D ≡ a * E * (2 * D) + (2 * b + D)
    split x q = let m : a * E * (2 * D) ≡ 2 * (a * E * D) = mul_left_comm (a * E) 2 D in omega arith

-- W·2h is D
mid_nat : (a b h D W : ℕ) → 0 < W → b < W → D ≡ W * (2 * h) → half_up (a * W + b) D ≡ (a + h) / (2 * h)
mid_nat a b h D W p l e =
    ap (λ (d : ℕ). (2 * (a * W + b) + d) / (2 * d)) e
    ∙ ap (λ (n : ℕ). n / (2 * (W * (2 * h)))) gather
    ∙ mul-div-mul_left ((a + h) * W + b) (W * (2 * h)) (lit< tt)
    ∙ sym (div-div-eq-div-mul ((a + h) * W + b) W (2 * h))
    ∙ ap (λ (n : ℕ). n / (2 * h)) (mul-add-div_right p (a + h) b ∙ ap (λ (n : ℕ). a + h + n) (div-eq_of_lt l) ∙ none (a + h))
  where
    none : (n : ℕ) → n + 0 ≡ n
    none n = omega arith

    gather : 2 * (a * W + b) + W * (2 * h) ≡ 2 * ((a + h) * W + b)
    gather =
        let x : (a + h) * W ≡ a * W + h * W = add-mul a h W in
        let y : W * (2 * h) ≡ 2 * (h * W) = mul_left_comm W 2 h ∙ ap (λ (n : ℕ). 2 * n) (mul_comm W h) in
        omega arith

high_nat : (n D : ℕ) → 2 * n < D → half_up n D ≡ 0
high_nat n D h = div-eq_of_lt (omega arith)

-- ---- the two words of q·s
abbrev pub high_word : ℕ → ℕ → ℕ
high_word q s = q / part * s + q % part * s / part

abbrev pub low_word : ℕ → ℕ → ℕ
low_word q s = q % part * s % part

words : (q s : ℕ) → high_word q s * part + low_word q s ≡ q * s
words q s =
    let e : q * s ≡ q / part * s * part + q % part * s =
    ap (λ (n : ℕ). n * s) (sym (div-add-mod' q part))
    ∙ add-mul (q / part * part) (q % part) s
    ∙ ap (λ (n : ℕ). n + q % part * s) (mul_right_comm (q / part) part s)
    in
    omega arith

module _ (q s k : ℕ) (hq : q < 2 ^ 53) (hs : s ≤ 100_000_000) where
  pub low_small : q % part * s ≤ 6710886300000000
  low_small = let h : q % part ≤ 67108863 = omega arith in mul-le-mul h hs

  pub top_small : q / part * s ≤ 13421772700000000
  top_small = let h : q / part ≤ 134217727 = omega arith in mul-le-mul h hs

  pub high_small : high_word q s < 18014398509481984
  high_small = omega (arith, low_small, top_small)

  product_small : q * s < 1208925819614629174706176
  product_small =
      let g : q ≤ 9007199254740991 = omega arith in
      let h : q * s ≤ 900719925474099100000000 = mul-le-mul g hs in
      omega arith

capped : (n : ℕ) → n ≤ limit → n ≡ min n limit
capped n h = omega arith

-- ---- 1 << n, as the machine has it
pub one_shl : (n : ℕ) → n < 64 → 1 * 2 ^ n % word ≡ 2 ^ n
one_shl n h = ap (λ (x : ℕ). x % word) (one-mul (2 ^ n)) ∙ mod-eq_of_lt (pow-lt h)

pow_join : (i j n : ℕ) → i + j ≡ n → 2 ^ i * 2 ^ j ≡ 2 ^ n
pow_join i j n e = sym (pow-add 2 i j) ∙ ap (λ (x : ℕ). 2 ^ x) e

twice_pow : (k : ℕ) → 2 ^ (k + 1) ≡ 2 * 2 ^ k
twice_pow k = pow-add 2 k 1 ∙ mul_comm (2 ^ k) 2

-- ---- with the numbers as variables: E·D is 2^26, and L·E is 2^63
module _ (a b D E L : ℕ) (l : b < part) (d : 0 < D) (e : E * D ≡ part) (m : L * E ≡ limit) where
  low_part : (2 * b + D) / (2 * D) ≤ E
  low_part = let h : (2 * b + D) / (2 * D) < suc E = (div-lt_iff_lt-mul (twice_positive D d)).1 (under (suc E * (2 * D)) (E * D) scale e) in omega arith
    where
      scale : suc E * (2 * D) ≡ 2 * (E * D) + 2 * D
      scale =
          let x : E * (2 * D) ≡ 2 * (E * D) = mul_left_comm E 2 D in
          let y : suc E * (2 * D) ≡ E * (2 * D) + 2 * D = suc-mul E (2 * D) in
          omega arith

      under : (x y : ℕ) → x ≡ 2 * y + 2 * D → y ≡ part → 2 * b + D < x
      under x y p q = omega arith

  reaches : L ≤ a → limit ≡ min (a * E + (2 * b + D) / (2 * D)) limit
  reaches h = go (a * E) (L * E) (mul-le-mul_right E h) m
    where
      go : (x y : ℕ) → y ≤ x → y ≡ limit → limit ≡ min (x + (2 * b + D) / (2 * D)) limit
      go x y p q = omega arith

  below : a < L → a * E + E ≤ limit
  below h = go (a * E) (suc a * E) (L * E) (suc-mul a E) (mul-le-mul_right E h) m
    where
      go : (x y z : ℕ) → y ≡ x + E → y ≤ z → z ≡ limit → x + E ≤ limit
      go x y z p q r = omega arith

  fits_sum : a < L → a * E + (2 * b + D) / (2 * D) ≤ limit
  fits_sum h = omega (arith, low_part, below h)

  under-sum : a < L → a * E < word
  under-sum h = omega (arith, below h)

module _ (q s k : ℕ) (hq : q < 2 ^ 53) (hs : s ≤ 100_000_000) where
  abbrev near-here : ℕ
  near-here = half_up (q * s) (2 ^ k)

  low-word-small : low_word q s < part
  low-word-small = omega arith

  -- ---- k up to 26
  module _ (h : k ≤ 26) where
    ED : 2 ^ (26 - k) * 2 ^ k ≡ part
    ED = pow_join (26 - k) k 26 (omega arith)

    Le : 2 ^ (37 + k) * 2 ^ (26 - k) ≡ limit
    Le = pow_join (37 + k) (26 - k) 63 (omega arith)

    is-low : near-here ≡ high_word q s * 2 ^ (26 - k) + (2 * low_word q s + 2 ^ k) / (2 * 2 ^ k)
    is-low =
        ap (λ (n : ℕ). half_up n (2 ^ k)) (sym (words q s)) ∙ low_nat (high_word q s) (low_word q s) (2 ^ k) (2 ^ (26 - k)) part (pow_pos k) ED

    pub large : 1 * 2 ^ (37 + k) % word ≤ high_word q s → limit ≡ min near-here limit
    large t =
        reaches (high_word q s) (low_word q s) (2 ^ k) (2 ^ (26 - k)) (2 ^ (37 + k)) low-word-small (pow_pos k) ED Le
        (subst (λ (n : ℕ). n ≤ high_word q s) (one_shl (37 + k) (omega arith)) t)
        ∙ ap (λ (n : ℕ). min n limit) (sym is-low)

    pub half-small : 2 * low_word q s + 1 * 2 ^ k % word < word
    half-small =
        let p : 2 ^ k ≤ part = pow_mono h in
        let o : 1 * 2 ^ k % word ≡ 2 ^ k = one_shl k (omega arith) in
        omega (arith, low-word-small)

    module _ (t : high_word q s < 1 * 2 ^ (37 + k) % word) where
      under-limit : high_word q s < 2 ^ (37 + k)
      under-limit = subst (λ (n : ℕ). high_word q s < n) (one_shl (37 + k) (omega arith)) t

      code-low : high_word q s * 2 ^ (26 - k) % word + (2 * low_word q s + 1 * 2 ^ k % word) / 2 ^ (k + 1) ≡ near-here
      code-low =
          ap (λ (n : ℕ). n + (2 * low_word q s + 1 * 2 ^ k % word) / 2 ^ (k + 1))
          (mod-eq_of_lt (under-sum (high_word q s) (low_word q s) (2 ^ k) (2 ^ (26 - k)) (2 ^ (37 + k)) low-word-small (pow_pos k) ED Le under-limit))
          ∙ ap (λ (n : ℕ). high_word q s * 2 ^ (26 - k) + (2 * low_word q s + n) / 2 ^ (k + 1)) (one_shl k (omega arith))
          ∙ ap (λ (n : ℕ). high_word q s * 2 ^ (26 - k) + (2 * low_word q s + 2 ^ k) / n) (twice_pow k)
          ∙ sym is-low

      low-le : near-here ≤ limit
      low-le =
          subst (λ (n : ℕ). n ≤ limit) (sym is-low)
          (fits_sum (high_word q s) (low_word q s) (2 ^ k) (2 ^ (26 - k)) (2 ^ (37 + k)) low-word-small (pow_pos k) ED Le under-limit)

      pub low_fits : high_word q s * 2 ^ (26 - k) % word + (2 * low_word q s + 1 * 2 ^ k % word) / 2 ^ (k + 1) < word
      low_fits = subst (λ (n : ℕ). n < word) (sym code-low) (go near-here low-le)
        where
          go : (n : ℕ) → n ≤ limit → n < word
          go n p = omega arith

      pub low-is : high_word q s * 2 ^ (26 - k) % word + (2 * low_word q s + 1 * 2 ^ k % word) / 2 ^ (k + 1) ≡ min near-here limit
      low-is = code-low ∙ capped near-here low-le

  -- ---- k from 27 to 82
  module _ (g : 26 < k) (h : k ≤ 82) where
    half_is : 1 * 2 ^ (k - 27) % word ≡ 2 ^ (k - 27)
    half_is = one_shl (k - 27) (omega arith)

    half_le : 2 ^ (k - 27) ≤ 36028797018963968
    half_le = let p : k - 27 ≤ 55 = omega arith in pow_mono p

    pub mid-fits : high_word q s + 1 * 2 ^ (k - 27) % word < word
    mid-fits = omega (arith, half_is, half_le, high_small q s k hq hs)

    split : 2 ^ k ≡ part * (2 * 2 ^ (k - 27))
    split = sym (ap (λ (n : ℕ). part * n) (pow_join 1 (k - 27) (k - 26) (omega arith)) ∙ pow_join 26 (k - 26) k (omega arith))

    code-mid : (high_word q s + 1 * 2 ^ (k - 27) % word) / 2 ^ (k - 26) ≡ near-here
    code-mid =
        ap (λ (n : ℕ). (high_word q s + n) / 2 ^ (k - 26)) half_is
        ∙ ap (λ (n : ℕ). (high_word q s + 2 ^ (k - 27)) / n) (sym (pow_join 1 (k - 27) (k - 26) (omega arith)))
        ∙ sym
        (ap (λ (n : ℕ). half_up n (2 ^ k)) (sym (words q s))
        ∙ mid_nat (high_word q s) (low_word q s) (2 ^ (k - 27)) (2 ^ k) part (lit< tt) low-word-small split)

    pub mid-is : (high_word q s + 1 * 2 ^ (k - 27) % word) / 2 ^ (k - 26) ≡ min near-here limit
    mid-is =
        code-mid
        ∙ capped near-here
        (subst (λ (n : ℕ). n ≤ limit) code-mid (le_trans (div-le_self (high_word q s + 1 * 2 ^ (k - 27) % word) (2 ^ (k - 26))) sum-le))
      where
        sum-le : high_word q s + 1 * 2 ^ (k - 27) % word ≤ limit
        sum-le = omega (arith, half_is, half_le, high_small q s k hq hs)

  -- ---- k above 82
  pub high_is : 82 < k → 0 ≡ min near-here limit
  high_is h =
      let p : 2417851639229258349412352 ≤ 2 ^ k = pow_mono {i = 81} (omega arith) in
      sym (ap (λ (n : ℕ). min n limit) (high_nat (q * s) (2 ^ k) (omega (arith, product_small q s k hq hs))))

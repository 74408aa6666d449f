-- A number in decimal, read back, is the number; its bytes are digits; it starts with no 0 but where it is 0; and how
-- long it is.
use Rattle.std.specs.Prelude.{ℕ, zero, suc, ◌+◌, ◌-◌, ◌*◌, ◌/◌, ◌%◌, ◌^◌, ◌≤◌, ◌<◌, ◌≡◌, refl, List, [], ◌∷◌, ◌++◌, Bool, true, false, ltb, ℤ, pos, negsuc, length}
use Rattle.std.proofs.Common.{sym, ap, ◌∙◌, arith, pow-suc, lt-ltb, le-ltb, ltb-true, ltb-false, length-append}
use Rattle.decimal_text.specs.Decimals.{digit, digits_of, decimal, signed, read_after, Digits}

-- ---- the recursion

digits_small : (fuel n : ℕ) → n < 10 → digits_of (suc fuel) n ≡ digit n ∷ []
unfolding digits_of
digits_small fuel n h = rw (lt-ltb n 10 h)

digits_more : (fuel n : ℕ) → 10 ≤ n → digits_of (suc fuel) n ≡ digits_of fuel (n / 10) ++ (digit (n % 10) ∷ [])
unfolding digits_of
digits_more fuel n h = rw (le-ltb n 10 h)

-- more fuel changes nothing
fuel_step : (a b n : ℕ) → (10 ≤ n → digits_of a (n / 10) ≡ digits_of b (n / 10)) → (t : Bool) → ltb n 10 ≡ t → digits_of (suc a) n ≡ digits_of (suc b) n
fuel_step a b n r true t = digits_small a n (ltb-true n 10 t) ∙ sym (digits_small b n (ltb-true n 10 t))
fuel_step a b n r false t =
    let l = ltb-false n 10 t in
    digits_more a n l ∙ ap (λ s. s ++ (digit (n % 10) ∷ [])) (r l) ∙ sym (digits_more b n l)

digits_enough : (a b n : ℕ) → n ≤ a → n ≤ b → digits_of (suc a) n ≡ digits_of (suc b) n
digits_enough zero b n h k = fuel_step zero b n (λ l. absurd (omega arith)) (ltb n 10) refl
digits_enough (suc a) zero n h k = fuel_step (suc a) zero n (λ l. absurd (omega arith)) (ltb n 10) refl
digits_enough (suc a) (suc b) n h k =
    fuel_step (suc a) (suc b) n (λ l. digits_enough a b (n / 10) (omega arith) (omega arith)) (ltb n 10) refl

pub decimal_small : (n : ℕ) → n < 10 → decimal n ≡ digit n ∷ []
unfolding decimal
decimal_small n h = digits_small n n h

pub decimal-more : (n : ℕ) → 10 ≤ n → decimal n ≡ decimal (n / 10) ++ (digit (n % 10) ∷ [])
unfolding decimal
decimal-more zero h = absurd (omega arith)
decimal-more (suc n) h =
    digits_more (suc n) (suc n) h
    ∙ ap (λ s. s ++ (digit (suc n % 10) ∷ [])) (digits_enough n (suc n / 10) (suc n / 10) (omega arith) (omega arith))

-- what holds of one digit, and of a number where it holds of its tenth, holds of every number
decimal_by : (P : ℕ → Type 0) → ((n : ℕ) → n < 10 → P n) → ((n : ℕ) → 10 ≤ n → P (n / 10) → P n) → (n : ℕ) → P n
decimal_by P small more n = go n n (omega arith)
  where
    which : (n : ℕ) → (10 ≤ n → P (n / 10)) → (t : Bool) → ltb n 10 ≡ t → P n
    which n r true t = small n (ltb-true n 10 t)
    which n r false t = more n (ltb-false n 10 t) (r (ltb-false n 10 t))

    go : (fuel n : ℕ) → n ≤ fuel → P n
    go zero n h = which n (λ l. absurd (omega arith)) (ltb n 10) refl
    go (suc fuel) n h = which n (λ l. go fuel (n / 10) (omega arith)) (ltb n 10) refl

-- ---- read back

read-append : (n : ℕ) (x y : List ℕ) → read_after n (x ++ y) ≡ read_after (read_after n x) y
read-append n [] y = refl
read-append n (a ∷ x) y = read-append (n * 10 + (a - 48)) x y

-- a number in decimal, read as one, is the number
pub read_back : (n : ℕ) → read_after 0 (decimal n) ≡ n
read_back =
    decimal_by (λ n. read_after 0 (decimal n) ≡ n)
    (λ n h. ap (read_after 0) (decimal_small n h) ∙ (let e : 0 * 10 + (48 + n - 48) ≡ n = omega arith in e))
    (λ n h r. ap (read_after 0) (decimal-more n h) ∙ read-append 0 (decimal (n / 10)) (digit (n % 10) ∷ [])
    ∙ (let e : read_after 0 (decimal (n / 10)) * 10 + (48 + n % 10 - 48) ≡ n = omega arith in e))

-- ---- only digits, and no 0 before others

digits_append : (x : List ℕ) (d : ℕ) → Digits x → d < 10 → Digits (x ++ (digit d ∷ []))
digits_append [] d h l = (omega arith, omega arith, tt)
digits_append (a ∷ x) d h l = (h.0, h.1, digits_append x d h.2 l)

pub all_digits : (n : ℕ) → Digits (decimal n)
all_digits =
    decimal_by (λ n. Digits (decimal n))
    (λ n h. rw (decimal_small n h) (omega arith, omega arith, tt))
    (λ n h r. rw (decimal-more n h) (digits_append (decimal (n / 10)) (n % 10) r (omega arith)))

-- the first byte of a number that is not 0 is no 0
pub record Leads (s : List ℕ) : Type 0 where
  pub first : ℕ
  pub rest : List ℕ
  pub is : s ≡ first ∷ rest
  pub above : 48 < first

pub no_leading_zero : (n : ℕ) → 0 < n → Leads (decimal n)
no_leading_zero =
    decimal_by (λ n. 0 < n → Leads (decimal n))
    (λ n h p. record { first = digit n; rest = []; is = decimal_small n h; above = omega arith })
    (λ n h r p.
    let l = r (omega arith) in
    record {
      first = l.first;
      rest = l.rest ++ (digit (n % 10) ∷ []);
      is = decimal-more n h ∙ ap (λ s. s ++ (digit (n % 10) ∷ [])) l.is;
      above = l.above;
    })

-- ---- length

length-step : (k n : ℕ) → (10 ≤ n → length (decimal (n / 10)) ≤ k) → (t : Bool) → ltb n 10 ≡ t → length (decimal n) ≤ suc k
length-step k n r true t = rw (decimal_small n (ltb-true n 10 t)) (omega arith)
length-step k n r false t =
    let l = ltb-false n 10 t in
    let q = r l in
    rw (decimal-more n l) (omega (arith, length-append (decimal (n / 10)) (digit (n % 10) ∷ [])))

-- a number below 10^k has k digits at most
pub decimal-length : (k n : ℕ) → n < 10 ^ suc k → length (decimal n) ≤ suc k
decimal-length zero n h = length-step zero n (λ l. absurd (let e : 10 ^ 1 ≡ 10 = refl in omega arith)) (ltb n 10) refl
decimal-length (suc k) n h =
    length-step (suc k) n (λ l. decimal-length k (n / 10) (let p = pow-suc 10 (suc k) in omega arith)) (ltb n 10) refl

-- a number of 64 bits has 20 digits at most
pub decimal_64 : (n : ℕ) → n < 18446744073709551616 → length (decimal n) ≤ 20
decimal_64 n h = decimal-length 19 n (let e : 10 ^ 20 ≡ 100000000000000000000 = refl in omega arith)

-- ---- with a sign

-- the number that a text with or without a minus is
pub data Reads : List ℕ → ℤ → Type 0 where
  plain : (s : List ℕ) → Digits s → Reads s (pos (read_after 0 s))
  minus : (s : List ℕ) (n : ℕ) → Digits s → read_after 0 s ≡ suc n → Reads (45 ∷ s) (negsuc n)

pub reads_signed : (z : ℤ) → Reads (signed z) z
unfolding signed
reads_signed (pos n) = let e = read_back n in rw e at (plain (decimal n) (all_digits n))
reads_signed (negsuc n) = minus (decimal (suc n)) n (all_digits (suc n)) (read_back (suc n))

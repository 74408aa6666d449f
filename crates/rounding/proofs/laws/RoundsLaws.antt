-- Laws of the rounds of the root.
--   bits_enough, bits-least   n has these bits, and no fewer
--   rounds_leading, rounds_few   leading zeros give the number of rounds; it is at most 30 below 2^60
--   held-is, held-last   after each round the number held is the root of the bits taken in so far, after the last that of n
--   start, one_more, no_more, finish, small   the loop: before its first round, a round that adds one or none, after its last; and what
--                                              it has in hand is small
use Rattle.std.specs.Prelude.{◌≡◌, refl, Bool, true, false, cond, ℕ, zero, suc, ◌+◌, ◌*◌, ◌-◌, ◌/◌, ◌%◌, ◌^◌, ◌≤◌, ◌<◌, leb}
use Rattle.std.proofs.Common.{sym, ◌∙◌, subst, arith, mul-le-mul, lt_of_not-le, lt_of_lt_of_le, div-le_self, div-one, pow-suc, le-leb}
use Rattle.std.proofs.Math.Path.{ap}
use Rattle.std.proofs.Math.Nat.{div-div-eq-div-mul, div-eq_of_lt, sub-zero, pow-le-pow_right}
use Rattle.std.proofs.lemmas.Bool.{lt-leb}
use Rattle.std.specs.Int.Count.{count_leading_zeros}
use Rattle.std.proofs.lemmas.Nat.{leading_length}
use Rattle.rounding.specs.Root.{IsRoot, more, root}
use Rattle.rounding.specs.laws.RootLaws.{root_is, root_unique, more-is}
use Rattle.rounding.specs.Rounds.{bits_in, bits, rounds_of, taken, held, Holds}

bits-leading : (f n : ℕ) → bits_in f n + count_leading_zeros f n ≡ f
unfolding count_leading_zeros
bits-leading zero n = refl
bits-leading (suc f) zero = omega arith
bits-leading (suc f) (suc m) = omega (arith, bits-leading f (suc m / 2))

pub bits_enough : (n : ℕ) → n < 18446744073709551616 → n < 2 ^ bits n
unfolding bits
bits_enough n h =
    let (m, e, l, u) = leading_length 64 n h in
    let same : m ≡ bits_in 64 n = omega (arith, e, bits-leading 64 n) in
    subst (λ (b : ℕ). n < 2 ^ b) same l

bits-within : (f n b : ℕ) → n < 2 ^ b → bits_in f n ≤ b
bits-within zero n b h = omega arith
bits-within (suc f) zero b h = omega arith
bits-within (suc f) (suc m) zero h = absurd (omega arith)
bits-within (suc f) (suc m) (suc b) h = omega (arith, bits-within f (suc m / 2) b (omega (arith, pow-suc 2 b)))

pub bits-least : (n b : ℕ) → n < 2 ^ b → bits n ≤ b
unfolding bits
bits-least n b h = bits-within 64 n b h

pub rounds_leading : (n : ℕ) → (65 - count_leading_zeros 64 n) / 2 ≡ rounds_of n
unfolding rounds_of bits
rounds_leading n = omega (arith, bits-leading 64 n)

pub rounds_within : (n k : ℕ) → n < 2 ^ (2 * k) → rounds_of n ≤ k
unfolding rounds_of
rounds_within n k h = omega (arith, bits-least n (2 * k) h)

-- "at most 30 for anything below 2^60"
pub rounds_few : (n : ℕ) → n < 2 ^ 60 → rounds_of n ≤ 30
rounds_few n h = rounds_within n 30 h

rounds_enough : (n : ℕ) → n < 18446744073709551616 → n < 2 ^ (2 * rounds_of n)
unfolding rounds_of
rounds_enough n h =
    lt_of_lt_of_le (bits_enough n h) (pow-le-pow_right {n = 2} (omega arith) {i = bits n} {j = 2 * rounds_of n} (omega arith))

-- ---- n without its last bits, two for each round to come: nothing before the first round; a quarter of what it is a
-- round later; all of n after the last

before-first : (n : ℕ) → n < 18446744073709551616 → n / 2 ^ (2 * (rounds_of n - 0)) ≡ 0
before-first n h = ap (λ (j : ℕ). n / 2 ^ (2 * j)) (sub-zero (rounds_of n)) ∙ div-eq_of_lt (rounds_enough n h)

quarter : (n k : ℕ) → k < rounds_of n → n / 2 ^ (2 * (rounds_of n - k)) ≡ n / 2 ^ (2 * (rounds_of n - suc k)) / 4
quarter n k h = ap (λ (t : ℕ). n / t) power ∙ sym (div-div-eq-div-mul n (2 ^ (2 * j)) 4)
  where
    j : ℕ
    j = rounds_of n - suc k

    two-more : 2 * (rounds_of n - k) ≡ suc (suc (2 * j))
    two-more = omega arith

    power : 2 ^ (2 * (rounds_of n - k)) ≡ 2 ^ (2 * j) * 4
    power = ap (λ (t : ℕ). 2 ^ t) two-more ∙ omega (arith, pow-suc 2 (suc (2 * j)), pow-suc 2 (2 * j))

none_left : (n : ℕ) → rounds_of n - rounds_of n ≡ 0
none_left n = omega arith

after_last : (n : ℕ) → n / 2 ^ (2 * (rounds_of n - rounds_of n)) ≡ n
after_last n = ap (λ (j : ℕ). n / 2 ^ (2 * j)) (none_left n) ∙ div-one n

-- "After each round the number held is the root of the bits taken in so far, from the top."
pub held-is : (n k : ℕ) → n < 18446744073709551616 → k ≤ rounds_of n → IsRoot (taken n k) (held n k)
unfolding held
held-is n zero h l = record { low = omega arith; high = omega (arith, before-first n h) }
held-is n (suc k) h l = more-is (taken n (suc k)) (held n k) (rw (← quarter n k l) (held-is n k h (omega arith)))

pub held-last : (n : ℕ) → n < 18446744073709551616 → held n (rounds_of n) ≡ root n
held-last n h =
    root_unique (subst (λ (m : ℕ). IsRoot m (held n (rounds_of n))) (after_last n) (held-is n (rounds_of n) h (omega arith))) (root_is n h)

-- ---- the loop

pub start : (n : ℕ) → n < 18446744073709551616 → Holds n (rounds_of n) 0 0
unfolding held
start n h =
    let e = none_left n in
    record { few = omega arith; number = sym (ap (held n) e); above = sym (ap (λ (k : ℕ). taken n k) e ∙ before-first n h) }

module _ (n i r rest : ℕ) (h : Holds n (i + 1) r rest) where
  abbrev m : ℕ
  m = n / 2 ^ (2 * i)

  abbrev k : ℕ
  k = rounds_of n - (i + 1)

  next : rounds_of n - i ≡ suc k
  next = omega (arith, h.few)

  to_come : rounds_of n - (rounds_of n - i) ≡ i
  to_come = omega (arith, h.few)

  taken_next : taken n (rounds_of n - i) ≡ m
  taken_next = ap (λ (j : ℕ). n / 2 ^ (2 * j)) to_come

  above : r * r + rest ≡ m / 4
  above =
      h.above ∙ quarter n k (omega (arith, h.few)) ∙ ap (λ (j : ℕ). taken n j / 4) (sym next) ∙ ap (λ (t : ℕ). t / 4) taken_next

  held_next : held n (rounds_of n - i) ≡ more m r
  unfolding held
  held_next =
      ap (held n) next ∙ ap (λ (s : ℕ). more (taken n (suc k)) s) (sym h.number)
      ∙ ap (λ (t : ℕ). more t r) (ap (λ (j : ℕ). taken n j) (sym next) ∙ taken_next)

  digit : (b : Bool) → leb ((2 * r + 1) * (2 * r + 1)) m ≡ b → more m r ≡ cond b (2 * r + 1) (2 * r)
  digit b e = ap (λ (x : Bool). cond x (2 * r + 1) (2 * r)) e

  later : (s t : ℕ) → more m r ≡ s → s * s + t ≡ m → Holds n i s t
  later s t d e = record { few = omega (arith, h.few); number = sym (held_next ∙ d); above = e ∙ sym taken_next }

  pub one_more : 4 * r + 1 ≤ 4 * rest + m % 4 → Holds n i (2 * r + 1) (4 * rest + m % 4 - (4 * r + 1))
  one_more t =
      let e : (2 * r + 1) * (2 * r + 1) + (4 * rest + m % 4 - (4 * r + 1)) ≡ m = omega (arith, above) in
      later (2 * r + 1) (4 * rest + m % 4 - (4 * r + 1)) (digit true (le-leb ((2 * r + 1) * (2 * r + 1)) m (omega arith))) e

  pub no_more : 4 * rest + m % 4 < 4 * r + 1 → Holds n i (2 * r) (4 * rest + m % 4)
  no_more t =
      let e : (2 * r) * (2 * r) + (4 * rest + m % 4) ≡ m = omega (arith, above) in
      later (2 * r) (4 * rest + m % 4) (digit false (lt-leb ((2 * r + 1) * (2 * r + 1)) m (omega arith))) e

pub finish : (n r rest : ℕ) → n < 18446744073709551616 → Holds n 0 r rest → r ≡ root n
finish n r rest h d = d.number ∙ ap (held n) (sub-zero (rounds_of n)) ∙ held-last n h

square_small : {r : ℕ} → r * r < 18446744073709551616 → r < 4294967296
square_small {r} h = omega (arith, lt_of_not-le big)
  where
    big : 4294967296 ≤ r → ⊥
    big g = omega (arith, mul-le-mul g g)

-- the state is small enough for the machine
pub record Small (i r rest : ℕ) : Type 0 where
  pub to_come : i ≤ 32
  pub number : r < 4294967296
  pub above : rest ≤ 2 * r

pub small : (n i r rest : ℕ) → n < 18446744073709551616 → Holds n i r rest → Small i r rest
small n i r rest h d =
    record {
      to_come = omega (arith, d.few, rounds_within n 32 h);
      number = square_small (omega (arith, is.low, div-le_self n (2 ^ (2 * (rounds_of n - (rounds_of n - i))))));
      above = omega (arith, is.high, d.above);
    }
  where
    is : IsRoot (taken n (rounds_of n - i)) r
    is = subst (λ (s : ℕ). IsRoot (taken n (rounds_of n - i)) s) (sym d.number) (held-is n (rounds_of n - i) h (omega arith))

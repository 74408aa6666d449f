-- What callers use of table S. For each k from 0 to 900:
--   entry-rule, entry-only   S k is within half a unit, and no other number is
--   nearest, S-nearest       S k as a number that is computed with no near
--   entry-small, entry-least, entry-low   at most 10^8; from entry 1 on at least entry 1; up to entry 251 at most that
--   entry_0, entry_300, entry_900         the entries that document 01 names
--   entry-squares, entry-squares-less     the squares of two entries whose angles make 90 degrees, or a tenth less, make nearly 10^16
-- Why: a number that is less than half a unit away is the only one within half a unit (`closer`), and that test and
-- the sizes are computed once over all k.
use Rattle.std.specs.Prelude.{◌≡◌, Bool, true, false, cond, [], ◌∷◌, ℕ, ◌+◌, ◌-◌, ◌*◌, ◌/◌, ◌≤◌, ◌<◌, min, T, leb, ltb, ℤ, pos, negsuc, ◌+ℤ◌, ◌-ℤ◌, ◌*ℤ◌, ◌≤ℤ◌}
use Rattle.std.proofs.Common.{sym, ◌∙◌, arith, le-leb, leb→le}
use Rattle.std.proofs.Math.Path.{ap}
use Rattle.std.proofs.Math.Nat.{lt_of_mul-lt-mul_left}
use Rattle.std.proofs.Math.Dec.{ltb→lt}
use Rattle.std.proofs.Math.IntN.{nat_abs, -ℤ-+ℤ_cancel, +ℤ_idl}
use Rattle.std.specs.Int.Signed.{le_z_yes}
use Rattle.rounding.specs.laws.Order.{nat_abs_product, nat_abs_minus}
use Rattle.rounding.specs.laws.Ring.{◌⊖◌, ◌⊗◌, ring, v0, v1, v2, v3}
use Rattle.rounding.specs.Near.{near}
use Rattle.rounding.proofs.laws.NearLaws.{near-error}
use Rattle.sine_table.specs.Table.{factorial, numerator, denominator, common, term, series, HalfUnit, S}
use Rattle.sine_table.specs.laws.Computed.{both, both_left, both_right, up_to, at_up_to}

-- ---- one number within half a unit

none : (z : ℤ) → nat_abs z ≡ 0 → z ≡ pos 0
none (pos n) e = ap pos e
none (negsuc n) e = absurd (omega arith)

-- q is at most a half of W away from z / W, and x less than a half: |W·(q − x)| is less than W, so q − x is 0
one-within : (W : ℕ) (z q x : ℤ) → 2 * nat_abs (pos W *ℤ q -ℤ z) ≤ W → 2 * nat_abs (pos W *ℤ x -ℤ z) < W → q ≡ x
one-within W z q x h l =
    let apart : pos W *ℤ (q -ℤ x) ≡ (pos W *ℤ q -ℤ z) -ℤ (pos W *ℤ x -ℤ z)
    = ring (pos W ∷ z ∷ q ∷ x ∷ []) (v0 ⊗ (v2 ⊖ v3)) ((v0 ⊗ v2 ⊖ v1) ⊖ (v0 ⊗ v3 ⊖ v1)) tt in
    let near : W * nat_abs (q -ℤ x) < W * 1
    = omega (arith, nat_abs_product (pos W) (q -ℤ x), ap nat_abs apart, nat_abs_minus (pos W *ℤ q -ℤ z) (pos W *ℤ x -ℤ z)) in
    let same : q -ℤ x ≡ pos 0 = none (q -ℤ x) (omega (arith, lt_of_mul-lt-mul_left W near)) in
    sym (-ℤ-+ℤ_cancel q x) ∙ ap (λ (y : ℤ). y +ℤ x) same ∙ +ℤ_idl x

common_positive : pos 1 ≤ℤ pos common
unfolding factorial denominator common
common_positive = le_z_yes tt

-- twice the distance of x from 10^8 times the series
abbrev away : ℕ → ℕ → ℕ
away k x = 2 * nat_abs (pos common *ℤ pos x -ℤ pos 100_000_000 *ℤ series k)

-- x is less than half a unit away
unfoldable closer : ℕ → ℕ → Bool
unfolding factorial numerator denominator term series common
closer k x = ltb (away k x) common

module _ (k x : ℕ) (t : T (closer k x)) where
  closer-less : away k x < common
  unfolding closer
  closer-less = ltb→lt (away k x) common t

  closer-rule : HalfUnit k x
  closer-rule = record { half_unit = omega (arith, closer-less) }

  closer-near : near (pos 100_000_000 *ℤ series k) (pos common) ≡ pos x
  closer-near =
      let z = pos 100_000_000 *ℤ series k in
      one-within common z (near z (pos common)) (pos x) (near-error z (pos common) common_positive) closer-less

  closer-value : x ≡ S k
  unfolding S
  closer-value = ap nat_abs (sym closer-near)

  closer-only : (y : ℕ) → HalfUnit k y → y ≡ x
  closer-only y h = ap nat_abs (one-within common (pos 100_000_000 *ℤ series k) (pos y) (pos x) h.half_unit closer-less)

-- ---- all entries

-- the number within half a unit, computed
unfoldable pub nearest : ℕ → ℕ
unfolding factorial numerator denominator term series common
nearest k = (2 * nat_abs (pos 100_000_000 *ℤ series k) + common) / (2 * common)

-- from entry 1 on at least entry 1
unfoldable least : ℕ → ℕ → Bool
least k x = leb (min k 1 * 174_533) x

-- up to entry 251 at most that, and then at most 10^8
abbrev limit : ℕ → ℕ
limit k = cond (leb k 251) 42_419_942 100_000_000

unfoldable most : ℕ → ℕ → Bool
most k x = leb x (limit k)

unfoldable tested : ℕ → Bool
unfolding closer least most nearest
tested k = both (closer k (nearest k)) (both (least k (nearest k)) (most k (nearest k)))

all_tested : T (up_to tested 901)
unfolding tested
all_tested = tt

module _ (k : ℕ) (h : k < 901) where
  tests : T (both (closer k (nearest k)) (both (least k (nearest k)) (most k (nearest k))))
  unfolding tested
  tests = at_up_to tested 901 all_tested k h

  is-closer : T (closer k (nearest k))
  is-closer = both_left (closer k (nearest k)) (both (least k (nearest k)) (most k (nearest k))) tests

  ranges : T (both (least k (nearest k)) (most k (nearest k)))
  ranges = both_right (closer k (nearest k)) (both (least k (nearest k)) (most k (nearest k))) tests

  pub S-nearest : S k ≡ nearest k
  S-nearest = sym (closer-value k (nearest k) is-closer)

  S-least : min k 1 * 174_533 ≤ S k
  unfolding least
  S-least = rw S-nearest (leb→le (min k 1 * 174_533) (nearest k) (both_left (least k (nearest k)) (most k (nearest k)) ranges))

  S-most : S k ≤ limit k
  unfolding most
  S-most = rw S-nearest (leb→le (nearest k) (limit k) (both_right (least k (nearest k)) (most k (nearest k)) ranges))

  pub entry-rule : HalfUnit k (S k)
  entry-rule = rw S-nearest (closer-rule k (nearest k) is-closer)

  pub entry-only : (y : ℕ) → HalfUnit k y → y ≡ S k
  entry-only y r = rw S-nearest (closer-only k (nearest k) is-closer y r)

  pub entry-small : S k ≤ 100_000_000
  entry-small = omega (arith, S-most, within (leb k 251))
    where
      within : (b : Bool) → cond b 42_419_942 100_000_000 ≤ 100_000_000
      within true = omega arith
      within false = omega arith

  pub entry-least : 0 < k → 174_533 ≤ S k
  entry-least l = omega (arith, S-least)

-- up to 25.1 degrees
pub entry-low : (k : ℕ) → k ≤ 251 → S k ≤ 42_419_942
entry-low k h = rw (le-leb k 251 h) at (S-most k (omega arith))

-- ---- "Entry 0 is 0, entry 300 is 50,000,000, entry 900 is 10^8."

pub entry_0 : S 0 ≡ 0
unfolding closer
entry_0 = sym (closer-value 0 0 tt)

pub entry_300 : S 300 ≡ 50_000_000
unfolding closer
entry_300 = sym (closer-value 300 50_000_000 tt)

pub entry_900 : S 900 ≡ 100_000_000
unfolding closer
entry_900 = sym (closer-value 900 100_000_000 tt)

-- ---- the sum of two squares: of an entry and of the one that makes 90 degrees with it, or a tenth of a degree less

unfoldable full : ℕ → ℕ → Bool
full j k = leb 9_982_500_000_000_000 (nearest j * nearest j + nearest k * nearest k)

unfoldable pairs : ℕ → Bool
unfolding full nearest
pairs k = both (full k (900 - k)) (full k (899 - k))

all-pairs : T (up_to pairs 901)
unfolding pairs
all-pairs = tt

module _ (k : ℕ) (h : k < 901) where
  sum : (j : ℕ) → j < 901 → T (full k j) → 9_982_500_000_000_000 ≤ S k * S k + S j * S j
  unfolding full
  sum j l t = rw (S-nearest k h, S-nearest j l) (leb→le 9_982_500_000_000_000 (nearest k * nearest k + nearest j * nearest j) t)

  pair : T (both (full k (900 - k)) (full k (899 - k)))
  unfolding pairs
  pair = at_up_to pairs 901 all-pairs k h

  pub entry-squares : 9_982_500_000_000_000 ≤ S k * S k + S (900 - k) * S (900 - k)
  entry-squares = sum (900 - k) (omega arith) (both_left (full k (900 - k)) (full k (899 - k)) pair)

  pub entry-squares-less : 9_982_500_000_000_000 ≤ S k * S k + S (899 - k) * S (899 - k)
  entry-squares-less = sum (899 - k) (omega arith) (both_right (full k (900 - k)) (full k (899 - k)) pair)

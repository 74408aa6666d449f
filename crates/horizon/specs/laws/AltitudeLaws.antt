-- What callers use of the altitude.
--   largest-is, largest-unique      it is the largest k that is meant, and the only one: so a search by halving has found it
--   smallest-is, smallest-unique    likewise
--   smallest_next                   in a rising table the smallest over a + 1 is the next after the largest under a
--   kept-size, kept-sign            a kept sine is at most 10^8 in size, and of the same sign
--   altitude-size                   the altitude lies in -900..900
--   altitude_above, altitude_below  it is not below 0 exactly where the sine is not
use Rattle.std.specs.Prelude.{◌≡◌, Bool, ◌⊎◌, ℤ, negsuc, nat_abs, ◌≤ℤ◌, ◌<ℤ◌}
use Rattle.std.proofs.Math.Path.{refl, sym}
use Rattle.std.proofs.Common.{◌∙◌, ap, le_antisymm, lt_of_not-le, eq-or-lt_of_le}
use Rattle.std.proofs.Math.Bool.{true, false, cond}
use Rattle.std.proofs.Math.Logic.{inl, inr, ⊎_elim}
use Prim.Native.Nat.{ℕ, zero, suc, ◌≤◌, ◌<◌}
use native.Mathlib.Omega.{arith}
use borrow.Author.Tests.{leb-true, leb-false}
use Rattle.std.proofs.Math.Dec.{leb}
use Rattle.std.proofs.Math.IntN.{pos, neg_ℤ}
use Rattle.std.specs.Int.Signed.{lt_z}
use Rattle.rounding.specs.laws.Order.{zs, lt_z_true, lt_z_false, nat_abs_opposite, nat_abs_le}
use Rattle.rounding.specs.Units.{one}
use Rattle.sine_table.specs.Table.{S}
use Rattle.sine_table.specs.laws.TableLaws.{entry_0, entry_900}
use Rattle.sine_table.specs.laws.Rising.{S_rises}
use Rattle.horizon.specs.Altitude.{kept, LargestUnder, largest_under, SmallestOver, smallest_over, altitude}

-- ---- the sine, kept
pub kept-size : (z : ℤ) → nat_abs (kept z) ≤ 100000000
unfolding kept
kept-size z = first (lt_z one z) refl
  where
    second : (t : Bool) → lt_z z (neg_ℤ one) ≡ t → z ≤ℤ one → nat_abs (cond t (neg_ℤ one) z) ≤ 100000000
    second true e h = omega arith
    second false e h = nat_abs_le z (lt_z_false z (neg_ℤ one) e) h

    first : (t : Bool) → lt_z one z ≡ t → nat_abs (cond t one (cond (lt_z z (neg_ℤ one)) (neg_ℤ one) z)) ≤ 100000000
    first true e = omega arith
    first false e = second (lt_z z (neg_ℤ one)) refl (lt_z_false one z e)

module _ (z : ℤ) where
  pub kept_high : one <ℤ z → kept z ≡ one
  unfolding kept
  kept_high h = by (lt_z one z) refl
    where
      by : (t : Bool) → lt_z one z ≡ t → cond t one (cond (lt_z z (neg_ℤ one)) (neg_ℤ one) z) ≡ one
      by true e = refl
      by false e = let k = lt_z_false one z e in absurd (omega (arith, zs))

  pub kept_low : z <ℤ neg_ℤ one → kept z ≡ neg_ℤ one
  unfolding kept
  kept_low h = first (lt_z one z) refl
    where
      second : (t : Bool) → lt_z z (neg_ℤ one) ≡ t → cond t (neg_ℤ one) z ≡ neg_ℤ one
      second true e = refl
      second false e = let k = lt_z_false z (neg_ℤ one) e in absurd (omega (arith, zs))

      first : (t : Bool) → lt_z one z ≡ t → cond t one (cond (lt_z z (neg_ℤ one)) (neg_ℤ one) z) ≡ neg_ℤ one
      first true e = let k = lt_z_true one z e in absurd (omega (arith, zs))
      first false e = second (lt_z z (neg_ℤ one)) refl

  pub kept_same : z ≤ℤ one → neg_ℤ one ≤ℤ z → kept z ≡ z
  unfolding kept
  kept_same h l = first (lt_z one z) refl
    where
      second : (t : Bool) → lt_z z (neg_ℤ one) ≡ t → cond t (neg_ℤ one) z ≡ z
      second true e = let k = lt_z_true z (neg_ℤ one) e in absurd (omega (arith, zs))
      second false e = refl

      first : (t : Bool) → lt_z one z ≡ t → cond t one (cond (lt_z z (neg_ℤ one)) (neg_ℤ one) z) ≡ z
      first true e = let k = lt_z_true one z e in absurd (omega (arith, zs))
      first false e = second (lt_z z (neg_ℤ one)) refl

  -- of the same sign
  pub kept_above : pos 0 ≤ℤ z → pos 0 ≤ℤ kept z
  unfolding kept
  kept_above h = first (lt_z one z)
    where
      second : (t : Bool) → lt_z z (neg_ℤ one) ≡ t → pos 0 ≤ℤ cond t (neg_ℤ one) z
      second true e = let k = lt_z_true z (neg_ℤ one) e in absurd (omega (arith, zs))
      second false e = h

      first : (t : Bool) → pos 0 ≤ℤ cond t one (cond (lt_z z (neg_ℤ one)) (neg_ℤ one) z)
      first true = omega (arith, zs)
      first false = second (lt_z z (neg_ℤ one)) refl

  pub kept-below : z <ℤ pos 0 → kept z <ℤ pos 0
  unfolding kept
  kept-below h = first (lt_z one z) refl
    where
      second : (t : Bool) → cond t (neg_ℤ one) z <ℤ pos 0
      second true = omega (arith, zs)
      second false = h

      first : (t : Bool) → lt_z one z ≡ t → cond t one (cond (lt_z z (neg_ℤ one)) (neg_ℤ one) z) <ℤ pos 0
      first true e = let k = lt_z_true one z e in absurd (omega (arith, zs))
      first false e = second (lt_z z (neg_ℤ one))

-- ---- the two searches, over any table
module _ (T : ℕ → ℕ) where
  pub largest-le : (a n : ℕ) → largest_under T a n ≤ n
  unfolding largest_under
  largest-le a zero = omega arith
  largest-le a (suc n) = by (leb (T (suc n)) a) (largest-le a n)
    where
      by : (t : Bool) → largest_under T a n ≤ n → cond t (suc n) (largest_under T a n) ≤ suc n
      by true h = omega arith
      by false h = omega arith

  pub largest-is : (a n : ℕ) → T 0 ≤ a → LargestUnder T a n (largest_under T a n)
  unfolding largest_under
  largest-is a zero z = record { small = omega arith; holds = z; above = λ j h k. absurd (omega arith) }
  largest-is a (suc n) z = by (leb (T (suc n)) a) refl (largest-is a n z)
    where
      by : (t : Bool) → leb (T (suc n)) a ≡ t → LargestUnder T a n (largest_under T a n) → LargestUnder T a (suc n) (cond t (suc n) (largest_under T a n))
      by true e i = record { small = omega arith; holds = leb-true (T (suc n)) a e; above = λ j h k. absurd (omega arith) }
      by false e i =
          let top = leb-false (T (suc n)) a e in
          record {
            small = omega (arith, i.small);
            holds = i.holds;
            above = λ j h k. ⊎_elim (λ (w : j ≡ suc n). rw w top) (λ (w : j < suc n). i.above j h (omega arith)) (eq-or-lt_of_le k);
          }

  pub largest-unique : {a n j k : ℕ} → LargestUnder T a n j → LargestUnder T a n k → j ≡ k
  largest-unique {a} {n} {j} {k} x y = le_antisymm (under j k x y) (under k j y x)
    where
      under : (j k : ℕ) → LargestUnder T a n j → LargestUnder T a n k → j ≤ k
      under j k x y = omega (arith, lt_of_not-le (λ (g : k < j). let w = y.above j g x.small in let v = x.holds in absurd (omega arith)))

  pub smallest-le : (b n : ℕ) → smallest_over T b n ≤ n
  unfolding smallest_over
  smallest-le b zero = omega arith
  smallest-le b (suc n) = by (leb b (T (smallest_over T b n))) (smallest-le b n)
    where
      by : (t : Bool) → smallest_over T b n ≤ n → cond t (smallest_over T b n) (suc n) ≤ suc n
      by true h = omega arith
      by false h = omega arith

  -- nothing before it reaches b; it does, or it is n
  record First (b n k : ℕ) : Type 0 where
    below : (j : ℕ) → j < k → T j < b
    reached : (b ≤ T k) ⊎ (k ≡ n)

  first-is : (b n : ℕ) → First b n (smallest_over T b n)
  unfolding smallest_over
  first-is b zero = record { below = λ j h. absurd (omega arith); reached = inr refl }
  first-is b (suc n) = by (smallest_over T b n) (leb b (T (smallest_over T b n))) refl (first-is b n)
    where
      by : (k : ℕ) (t : Bool) → leb b (T k) ≡ t → First b n k → First b (suc n) (cond t k (suc n))
      by k true e i = record { below = i.below; reached = inl (leb-true b (T k) e) }
      by k false e i =
          let not = leb-false b (T k) e in
          let last : k ≡ n = ⊎_elim (λ (w : b ≤ T k). absurd (omega arith)) (λ (w : k ≡ n). w) i.reached in
          record {
            below = λ j h. ⊎_elim (λ (w : j ≡ n). rw (w ∙ sym last) not) (λ (w : j < n). i.below j (omega arith)) (eq-or-lt_of_le (omega arith));
            reached = inr refl;
          }

  pub smallest-is : (b n : ℕ) → b ≤ T n → SmallestOver T b n (smallest_over T b n)
  smallest-is b n h =
      let f = first-is b n in
      record {
        small = smallest-le b n;
        holds = ⊎_elim (λ (w : b ≤ T (smallest_over T b n)). w) (λ (w : smallest_over T b n ≡ n). rw w h) f.reached;
        below = f.below;
      }

  pub smallest-unique : {b n j k : ℕ} → SmallestOver T b n j → SmallestOver T b n k → j ≡ k
  smallest-unique {b} {n} {j} {k} x y = le_antisymm (under j k x y) (under k j y x)
    where
      under : (j k : ℕ) → SmallestOver T b n j → SmallestOver T b n k → j ≤ k
      under j k x y = omega (arith, lt_of_not-le (λ (g : k < j). let w = x.below k g in let v = y.holds in absurd (omega arith)))

-- ---- over table S
pub rises-≤ : (j k : ℕ) → j ≤ k → k ≤ 900 → S j ≤ S k
rises-≤ j k h l = ⊎_elim (λ (e : j ≡ k). omega (arith, ap S e)) (λ (i : j < k). omega (arith, S_rises j k i l)) (eq-or-lt_of_le h)

pub under-is : (a : ℕ) → LargestUnder S a 900 (largest_under S a 900)
under-is a = largest-is S a 900 (rw entry_0 (omega arith))

pub over-is : (b : ℕ) → b ≤ 100000000 → SmallestOver S b 900 (smallest_over S b 900)
over-is b h = smallest-is S b 900 (rw entry_900 h)

-- the largest under a lies before 900 where a is less than 10^8, and the next is the smallest over a + 1
pub smallest_next : (a : ℕ) → a < 100000000 → smallest_over S (suc a) 900 ≡ suc (largest_under S a 900)
smallest_next a h =
    let k = largest_under S a 900 in
    let i = under-is a in
    let before : k < 900 =
    ⊎_elim (λ (w : k ≡ 900). absurd (omega (arith, ap S w, entry_900, i.holds))) (λ (w : k < 900). w) (eq-or-lt_of_le i.small) in
    let next : SmallestOver S (suc a) 900 (suc k) =
    record {
      small = omega arith;
      holds = omega (arith, i.above (suc k) (omega arith) (omega arith));
      below = λ j l. omega (arith, i.holds, rises-≤ j k (omega arith) (omega arith));
    } in
    smallest-unique S (over-is (suc a) (omega arith)) next

-- ---- the altitude
pub altitude-size : (a : ℤ) → nat_abs (altitude S a) ≤ 900
unfolding altitude
altitude-size (pos a) = largest-le S a 900
altitude-size (negsuc a) = omega (arith, nat_abs_opposite (pos (smallest_over S (suc a) 900)), smallest-le S (suc a) 900)

pub altitude_above : (a : ℤ) → pos 0 ≤ℤ a → pos 0 ≤ℤ altitude S a
unfolding altitude
altitude_above (pos a) h = omega (arith, zs)
altitude_above (negsuc a) h = absurd (omega (arith, zs))

-- the smallest k over a number above 0 is not 0, where S is 0
negative : (k : ℕ) → 0 < k → neg_ℤ (pos k) <ℤ pos 0
negative zero h = absurd (omega arith)
negative (suc k) h = omega (arith, zs)

pub altitude_below : (a : ℤ) → nat_abs a ≤ 100000000 → a <ℤ pos 0 → altitude S a <ℤ pos 0
unfolding altitude
altitude_below (pos a) s h = absurd (omega (arith, zs))
altitude_below (negsuc a) s h = negative (smallest_over S (suc a) 900) (by (smallest_over S (suc a) 900) (over-is (suc a) s))
  where
    by : (k : ℕ) → SmallestOver S (suc a) 900 k → 0 < k
    by zero i = absurd (omega (arith, i.holds, entry_0))
    by (suc k) i = omega arith

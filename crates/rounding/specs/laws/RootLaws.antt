-- Laws of the root.
--   root_is, root_unique   it is the largest whole number whose square is at most n, and the only one
--   root_below, root-least it is at most k where the number is below (k + 1)², and at least k where k² is at most the number
--   root_mono, root_above  the root of the larger is no smaller; it is at least 1 where the number is
use Rattle.std.specs.Prelude.{◌≡◌, refl, Bool, true, false, cond, ℕ, zero, suc, ◌+◌, ◌*◌, ◌/◌, ◌^◌, ◌≤◌, ◌<◌, leb}
use Rattle.std.proofs.Common.{arith, mul-le-mul, le_antisymm, lt_of_not-le, pow-suc, leb-true, leb-false}
use Rattle.rounding.specs.Root.{IsRoot, more, digits, root}

pub root_unique : {n r s : ℕ} → IsRoot n r → IsRoot n s → r ≡ s
root_unique {n} {r} {s} h k = le_antisymm (below r s h k) (below s r k h)
  where
    below : (r s : ℕ) → IsRoot n r → IsRoot n s → r ≤ s
    below r s h k = omega (arith, lt_of_not-le clash)
      where
        clash : s < r → ⊥
        clash g = omega (arith, h.low, k.high, mul-le-mul {n₁ = s + 1} {m₁ = s + 1} {n₂ = r} {m₂ = r} (omega arith) (omega arith))

pub more-is : (n r : ℕ) → IsRoot (n / 4) r → IsRoot n (more n r)
more-is n r h = go (leb ((2 * r + 1) * (2 * r + 1)) n) refl
  where
    go : (t : Bool) → leb ((2 * r + 1) * (2 * r + 1)) n ≡ t → IsRoot n (cond t (2 * r + 1) (2 * r))
    go true e = record { low = leb-true ((2 * r + 1) * (2 * r + 1)) n e; high = omega (arith, h.high) }
    go false e = record { low = omega (arith, h.low); high = omega (arith, leb-false ((2 * r + 1) * (2 * r + 1)) n e) }

digits-is : (f n : ℕ) → n < 4 ^ f → IsRoot n (digits f n)
digits-is zero n h = record { low = omega (arith, h); high = omega (arith, h) }
digits-is (suc f) n h = more-is n (digits f (n / 4)) (digits-is f (n / 4) (omega (arith, pow-suc 4 f)))

pub root_is : (n : ℕ) → n < 18446744073709551616 → IsRoot n (root n)
unfolding root
root_is n h = digits-is 32 n h

-- ---- the root and the order
pub root_below : (n k : ℕ) → n < 18446744073709551616 → n < (k + 1) * (k + 1) → root n ≤ k
root_below n k h l = omega (arith, lt_of_not-le (λ (g : k + 1 ≤ root n). absurd (omega (arith, (root_is n h).low, mul-le-mul g g))))

pub root-least : (n k : ℕ) → n < 18446744073709551616 → k * k ≤ n → k ≤ root n
root-least n k h l = omega (arith, lt_of_not-le (λ (g : root n + 1 ≤ k). absurd (omega (arith, (root_is n h).high, mul-le-mul g g))))

pub root_mono : (a b : ℕ) → a ≤ b → b < 18446744073709551616 → root a ≤ root b
root_mono a b h l = root_below a (root b) (omega arith) (omega (arith, (root_is b l).high))

pub root_above : (n : ℕ) → 1 ≤ n → n < 18446744073709551616 → 1 ≤ root n
root_above n h l = root-least n 1 l (omega arith)

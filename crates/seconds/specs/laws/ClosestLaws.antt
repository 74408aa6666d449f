-- The closest second.
--   closest-is    what `closest_to` finds is the closest
--   closest-one   there is one such second
use Rattle.std.specs.Prelude.{◌≡◌, refl, Bool, true, false, cond, ℕ, zero, suc, ◌≤◌, ◌<◌, ℤ, ◌≤ℤ◌, ◌<ℤ◌}
use Rattle.std.proofs.Common.{sym, ⊎_elim, arith, eq-or-lt_of_le}
use Rattle.std.specs.Int.Signed.{lt_z, clash_ℤ}
use Rattle.rounding.specs.laws.Order.{zs, lt_z_true, lt_z_false, ≤ℤ_trans, <ℤ-≤}
use Rattle.sine.specs.laws.SineLaws.{either}
use Rattle.seconds.specs.Closest.{IsClosest, closest_to}

pub closest-is : (m : ℕ → ℤ) (n : ℕ) → IsClosest m n (closest_to m n)
unfolding closest_to
closest-is m zero =
    record {
      within = omega arith;
      smallest = λ k h. let e : k ≡ 0 = omega arith in rw e (omega (arith, zs));
      earliest = λ k h. absurd (omega arith);
    }
closest-is m (suc n) = go (lt_z (m (suc n)) (m (closest_to m n))) refl (closest-is m n)
  where
    below : {a b d : ℤ} → a <ℤ b → b ≤ℤ d → a <ℤ d
    below h k = omega (arith, zs)

    up_to : (P : ℕ → Type 0) → P (suc n) → ((k : ℕ) → k ≤ n → P k) → (k : ℕ) → k ≤ suc n → P k
    up_to P here rest k h = ⊎_elim (λ (w : k ≡ suc n). rw w here) (λ (w : k < suc n). rest k (omega arith)) (eq-or-lt_of_le h)

    go : (t : Bool) → lt_z (m (suc n)) (m (closest_to m n)) ≡ t → IsClosest m n (closest_to m n) → IsClosest m (suc n) (cond t (suc n) (closest_to m n))
    go true e i =
        let less = lt_z_true (m (suc n)) (m (closest_to m n)) e in
        record {
          within = omega arith;
          smallest = up_to (λ k. m (suc n) ≤ℤ m k) (omega (arith, zs)) (λ k h. ≤ℤ_trans (<ℤ-≤ less) (i.smallest k h));
          earliest = λ k h. below less (i.smallest k (omega arith));
        }
    go false e i =
        record {
          within = omega (arith, i.within);
          smallest = up_to (λ k. m (closest_to m n) ≤ℤ m k) (lt_z_false (m (suc n)) (m (closest_to m n)) e) i.smallest;
          earliest = i.earliest;
        }

-- there is one such second
not_before : (m : ℕ → ℤ) (n c d : ℕ) → IsClosest m n c → IsClosest m n d → c < d → ⊥
not_before m n c d i j h = clash_ℤ (j.earliest c h) (i.smallest d j.within)

pub closest-one : (m : ℕ → ℤ) (n c d : ℕ) → IsClosest m n c → IsClosest m n d → c ≡ d
closest-one m n c d i j =
    ⊎_elim (λ (h : c < d). absurd (not_before m n c d i j h))
    (λ (h : d ≤ c). ⊎_elim (λ (e : d ≡ c). sym e) (λ (l : d < c). absurd (not_before m n d c j i l)) (eq-or-lt_of_le h))
    (either d c)

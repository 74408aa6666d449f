-- C times a sine or a cosine of either sign (`either`), as Meridian has it of one that is not below 0; and a sum of
-- errors.
use Rattle.std.specs.Prelude.{◌≡◌, [], ◌∷◌, ℕ, suc, ◌+◌, ◌*◌, ◌≤◌, ℤ, neg_ℤ, ◌+ℤ◌, ◌-ℤ◌, ◌*ℤ◌, ◌≤ℤ◌}
use Rattle.std.proofs.Math.Path.{ap, subst}
use native.Mathlib.Omega.{arith}
use Rattle.std.proofs.Common.{le_trans, leb→le}
use Rattle.std.proofs.Math.Nat.{le_of_mul-le-mul_left}
use Rattle.std.proofs.Math.IntN.{pos, negsuc, nat_abs}
use Rattle.rounding.specs.laws.Order.{nat_abs_opposite}
use Rattle.rounding.specs.laws.Ring.{num, ◌⊖◌, ◌⊗◌, opp, ring, v0, v1, v2, v3, v4, v5}
use Rattle.sky_accuracy.specs.laws.Latitude.{weighted, Latitude, n-most}
use Rattle.sky_accuracy.specs.laws.Meridian.{meridian}

-- ---- p of either sign

-- C times p against the true C times P, in 10^-16 of a unit over m·K
unfoldable pub off : (K m n : ℕ) (C p P : ℤ) → ℤ
off K m n C p P = C *ℤ (p *ℤ (pos m *ℤ pos K)) -ℤ pos 10_000_000_000_000_000 *ℤ (pos n *ℤ P)

module _ {K m n a b : ℕ} {C q Q : ℤ} where
  turned : (k : ℕ) (P : ℤ) → Latitude K m n a b C (negsuc k) q P Q → Latitude K m n a b C (pos (suc k)) q (neg_ℤ P) Q
  unfolding weighted
  turned k P x =
      let s = ring (P ∷ []) (v0 ⊗ v0) (opp v0 ⊗ opp v0) tt in
      record {
        some_K = x.some_K;
        some = x.some;
        weight_a = x.weight_a;
        weight_b = x.weight_b;
        known_p = record {
          small = x.known_p.small;
          close =
              omega (
                arith,
                x.known_p.close,
                nat_abs_opposite (pos K *ℤ negsuc k -ℤ pos 100_000_000 *ℤ P),
                ap nat_abs (ring (pos K ∷ pos (suc k) ∷ P ∷ []) (v0 ⊗ v1 ⊖ num 100_000_000 ⊗ opp v2) (opp (v0 ⊗ opp v1 ⊖ num 100_000_000 ⊗ v2)) tt),
              );
        };
        known_q = x.known_q;
        circle = record { on = subst (λ (y : ℤ). 10_000_000_000_000_000 * nat_abs (y +ℤ Q *ℤ Q -ℤ pos (K * K)) ≤ K * K) s x.circle.on };
        C_positive = x.C_positive;
        C_most = x.C_most;
        rule = x.rule;
        exact = subst (λ (y : ℤ). 10_000_000_000_000_000 * nat_abs (pos (n * n) *ℤ (pos a *ℤ y +ℤ pos b *ℤ (Q *ℤ Q)) -ℤ pos (100_000_000 * (m * m) * (K * K))) ≤ 100_000_000 * (m * m) * (K * K)) s x.exact;
      }

  pub either : (p P : ℤ) → Latitude K m n a b C p q P Q → 1000 * nat_abs (off K m n C p P) ≤ 399_400_000_000 * (m * K)
  unfolding off
  either (pos p) P x = meridian x
  either (negsuc k) P x =
      omega (
        arith,
        meridian (turned k P x),
        nat_abs_opposite (off K m n C (negsuc k) P),
        ap nat_abs (ring (C ∷ pos (suc k) ∷ pos m ∷ pos K ∷ pos n ∷ P ∷ [])
            (v0 ⊗ (v1 ⊗ (v2 ⊗ v3)) ⊖ num 10_000_000_000_000_000 ⊗ (v4 ⊗ opp v5)) (opp (v0 ⊗ (opp v1 ⊗ (v2 ⊗ v3)) ⊖ num 10_000_000_000_000_000 ⊗ (v4 ⊗ v5))) tt),
      )

module _ {K m n a b : ℕ} {C q Q : ℤ} where
  pub n-limit : (p P : ℤ) → Latitude K m n a b C p q P Q → (pos 10_000 *ℤ pos n) ≤ℤ (pos 10_035 *ℤ pos m)
  n-limit (pos p) P x = n-most x
  n-limit (negsuc k) P x = n-most (turned k P x)

room : (k : ℕ) → 697_753_501_860_885_748_000_000 * k ≤ 10_000_000_000_000_000 * (11 * (6_378_245 * k))
room k = omega arith

regroup : (a b : ℕ) → 11 * (6_378_245 * (a * b)) ≡ 11 * (6_378_245 * a * b)
regroup a b = omega arith

-- the sum of four errors of P
pub P_sum : (x a b y g f o r : ℕ) → y ≡ 10_000_000_000_000_000 * x → y ≤ g + f + o + r → 2 * g ≤ 100_000_000 * (6_378_245 * (a * b)) * 100_000_000
    → 2 * f ≤ 6_378_245 * (a * b) * 100_000_000 * 100_000_000 → o ≤ 253_041_975_930_442_874_000_000 * (a * b) → r ≤ 32_052_325_000_000_000_000_000 * (a * b)
    → 2 * x ≤ 11 * (6_378_245 * a * b)
P_sum x a b y g f o r e l hg hf ho hr =
    subst (λ (n : ℕ). 2 * x ≤ n) (regroup a b)
    (le_of_mul-le-mul_left {m = 2 * x} {n = 11 * (6_378_245 * (a * b))} {k = 10_000_000_000_000_000} (le_trans more (room (a * b))) (leb→le 1 10_000_000_000_000_000 tt))
  where
    more : 10_000_000_000_000_000 * (2 * x) ≤ 697_753_501_860_885_748_000_000 * (a * b)
    more = omega arith

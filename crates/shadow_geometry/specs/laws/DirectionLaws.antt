-- What callers use of the direction.
--   quarter-is, largest-unique     within a quarter it is the largest k in 0..899 that reaches, and the only one:
--                                  so a search by halving that ends at such a k has found it
--   direction-first .. direction-none   the five cases, each by its signs
--   direction-limit                at most 3599, or 65,535
--   direction_diagonal, direction_south   document 01's two examples
use Rattle.std.specs.Prelude.{◌≡◌, Bool, ◌&&◌, ◌⊎◌, ℤ, negsuc, neg_ℤ, ◌*ℤ◌, ◌≤ℤ◌, ◌<ℤ◌}
use Rattle.std.proofs.Math.Path.{refl}
use Rattle.std.proofs.Common.{◌∙◌, ap, inl, inr, le_antisymm, lt_of_not-le, eq-or-lt_of_le}
use Rattle.std.proofs.Math.Bool.{true, false, cond}
use Rattle.std.proofs.Math.Logic.{⊎_elim}
use Prim.Native.Nat.{ℕ, zero, suc, ◌+◌, ◌-◌, ◌≤◌, ◌<◌}
use native.Mathlib.Omega.{arith}
use Rattle.std.proofs.Math.IntN.{pos, *ℤ-zero}
use Rattle.std.specs.Int.Signed.{lt_z, le_z, le_z_yes, lt_z_yes, clash_ℤ}
use Rattle.rounding.specs.laws.Order.{zs, <ℤ-≤, le_z_true, le_z_false, *ℤ_nonneg}
use Rattle.rounding.specs.laws.Tests.{yes-≤, no-≤, yes-<, no-<, together, not_left, not_right}
use Rattle.shadow_geometry.specs.Direction.{Largest, reaches, largest, quarter, direction}

-- ---- one quarter
module _ (S : ℕ → ℕ) (u v : ℤ) where
  pub largest-le : (n : ℕ) → largest S u v n ≤ n
  unfolding largest
  largest-le zero = omega arith
  largest-le (suc n) = go (reaches S u v (suc n)) (largest-le n)
    where
      go : (t : Bool) → largest S u v n ≤ n → cond t (suc n) (largest S u v n) ≤ suc n
      go true h = omega arith
      go false h = omega arith

  pub quarter-le : quarter S u v ≤ 899
  unfolding quarter
  quarter-le = largest-le 899

  pub largest-unique : {n j k : ℕ} → Largest S u v n j → Largest S u v n k → j ≡ k
  largest-unique {n} {j} {k} a b = le_antisymm (under j k a b) (under k j b a)
    where
      under : (j k : ℕ) → Largest S u v n j → Largest S u v n k → j ≤ k
      under j k a b = omega (arith, lt_of_not-le (λ (g : k < j). clash_ℤ (b.above j g a.small) a.holds))

  module _ (none : S 0 ≡ 0) (right : pos 0 ≤ℤ u) where
    reaches-zero : (v *ℤ pos (S 0)) ≤ℤ (u *ℤ pos (S 900))
    reaches-zero = rw (none, *ℤ-zero) (*ℤ_nonneg {a = u} {b = pos (S 900)} right (omega (arith, zs)))

    pub largest-is : (n : ℕ) → Largest S u v n (largest S u v n)
    unfolding largest
    largest-is zero = record { small = omega arith; holds = reaches-zero; above = λ j h k. absurd (omega arith) }
    largest-is (suc n) = go (reaches S u v (suc n)) refl (largest-is n)
      where
        go : (t : Bool) → reaches S u v (suc n) ≡ t → Largest S u v n (largest S u v n) → Largest S u v (suc n) (cond t (suc n) (largest S u v n))
        go true e i =
            record {
              small = omega arith;
              holds = le_z_true (v *ℤ pos (S (suc n))) (u *ℤ pos (S (900 - suc n))) e;
              above = λ j h k. absurd (omega arith);
            }
        go false e i =
            let top = le_z_false (v *ℤ pos (S (suc n))) (u *ℤ pos (S (900 - suc n))) e in
            record {
              small = omega (arith, i.small);
              holds = i.holds;
              above = λ j h k. ⊎_elim (λ (w : j ≡ suc n). rw w top) (λ (w : j < suc n). i.above j h (omega arith)) (eq-or-lt_of_le k);
            }

    -- "the largest k in 0..899 with u·S[900-k] ≥ v·S[k]"
    pub quarter-is : Largest S u v 899 (quarter S u v)
    unfolding quarter
    quarter-is = largest-is 899

-- ---- the five cases
-- the first of four tests that is true decides
abbrev first-of : (a b c d : Bool) (w x y z o : ℕ) → ℕ
first-of a b c d w x y z o = cond a w (cond b x (cond c y (cond d z o)))

module _ (S : ℕ → ℕ) {u v : ℤ} where
  -- north through east
  pub direction-first : pos 0 ≤ℤ u → pos 0 <ℤ v → direction S u v ≡ quarter S u v
  unfolding direction
  direction-first h k = rw (together (yes-≤ h) (yes-< k))

  pub direction-second : pos 0 <ℤ u → v ≤ℤ pos 0 → direction S u v ≡ 900 + quarter S (neg_ℤ v) u
  unfolding direction
  direction-second h k = rw (not_right (le_z (pos 0) u) (no-< k), together (yes-< h) (yes-≤ k))

  pub direction-third : u ≤ℤ pos 0 → v <ℤ pos 0 → direction S u v ≡ 1800 + quarter S (neg_ℤ u) (neg_ℤ v)
  unfolding direction
  direction-third h k = rw (not_right (le_z (pos 0) u) (no-< (<ℤ-≤ k)), not_left (le_z v (pos 0)) (no-< h), together (yes-≤ h) (yes-< k))

  pub direction-fourth : u <ℤ pos 0 → pos 0 ≤ℤ v → direction S u v ≡ 2700 + quarter S v (neg_ℤ u)
  unfolding direction
  direction-fourth h k =
      rw (not_left (lt_z (pos 0) v) (no-≤ h), not_left (le_z v (pos 0)) (no-< (<ℤ-≤ h)), not_right (le_z u (pos 0)) (no-< k), together (yes-< h) (yes-≤ k))

pub direction-none : (S : ℕ → ℕ) → direction S (pos 0) (pos 0) ≡ 65535
unfolding direction
direction-none S = refl

pub direction-limit : (S : ℕ → ℕ) (u v : ℤ) → (direction S u v ≤ 3599) ⊎ (direction S u v ≡ 65535)
unfolding direction
direction-limit S u v =
    go (le_z (pos 0) u && lt_z (pos 0) v) (lt_z (pos 0) u && le_z v (pos 0)) (le_z u (pos 0) && lt_z v (pos 0)) (lt_z u (pos 0) && le_z (pos 0) v)
    (quarter-le S u v) (quarter-le S (neg_ℤ v) u) (quarter-le S (neg_ℤ u) (neg_ℤ v)) (quarter-le S v (neg_ℤ u))
  where
    go : (a b c d : Bool) {w x y z : ℕ} → w ≤ 899 → x ≤ 899 → y ≤ 899 → z ≤ 899
        → (first-of a b c d w (900 + x) (1800 + y) (2700 + z) 65535 ≤ 3599) ⊎ (first-of a b c d w (900 + x) (1800 + y) (2700 + z) 65535 ≡ 65535)
    go true b c d hw hx hy hz = inl (omega arith)
    go false true c d hw hx hy hz = inl (omega arith)
    go false false true d hw hx hy hz = inl (omega arith)
    go false false false true hw hx hy hz = inl (omega arith)
    go false false false false hw hx hy hz = inr refl

-- ---- document 01's two examples, over every table that starts from 0 and rises
pub record Rising (S : ℕ → ℕ) : Type 0 where
  pub none : S 0 ≡ 0
  pub rises : (j k : ℕ) → j < k → k ≤ 900 → S j < S k

-- "(1,1) gives 450"
pub direction_diagonal : (S : ℕ → ℕ) → Rising S → direction S (pos 1) (pos 1) ≡ 450
direction_diagonal S h =
    let half : Largest S (pos 1) (pos 1) 899 450 =
    record { small = omega arith; holds = omega (arith, zs); above = λ j i k. omega (arith, zs, h.rises (900 - j) j (omega arith) (omega arith)) } in
    direction-first S (le_z_yes tt) (lt_z_yes tt) ∙ largest-unique S (pos 1) (pos 1) (quarter-is S (pos 1) (pos 1) h.none (le_z_yes tt)) half

-- "(0,-5) gives 1800"
pub direction_south : (S : ℕ → ℕ) → Rising S → direction S (pos 0) (negsuc 4) ≡ 1800
direction_south S h =
    let none : Largest S (pos 0) (pos 5) 899 0 =
    record { small = omega arith; holds = omega (arith, zs, h.none); above = λ j i k. omega (arith, zs, h.rises 0 j i (omega arith)) } in
    direction-third S (le_z_yes tt) (lt_z_yes tt) ∙ ap (λ (k : ℕ). 1800 + k)
    (largest-unique S (pos 0) (pos 5) (quarter-is S (pos 0) (pos 5) h.none (le_z_yes tt)) none)

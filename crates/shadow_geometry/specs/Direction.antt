-- The direction of the shadow's axis from the station, over a table S of sines (entry k for k tenths of a degree, 0 to
-- 900).
use Rattle.std.specs.Prelude.{Bool, ◌&&◌, cond, ℕ, zero, suc, ◌+◌, ◌-◌, ◌≤◌, ◌<◌, ℤ, pos, neg_ℤ, ◌*ℤ◌, ◌≤ℤ◌, ◌<ℤ◌}
use Rattle.std.specs.Int.Signed.{lt_z, le_z}

-- "the largest k in 0..899 with u·S[900-k] ≥ v·S[k]", for 899 any n: what is meant
pub record Largest (S : ℕ → ℕ) (u v : ℤ) (n k : ℕ) : Type 0 where
  pub small : k ≤ n
  pub holds : (v *ℤ pos (S k)) ≤ℤ (u *ℤ pos (S (900 - k)))
  pub above : (j : ℕ) → k < j → j ≤ n → (u *ℤ pos (S (900 - j))) <ℤ (v *ℤ pos (S j))

-- that k, searched for from n down: DirectionLaws, largest-is and largest-unique. 0 has it, since S[0] is 0
abbrev pub reaches : (S : ℕ → ℕ) (u v : ℤ) → ℕ → Bool
reaches S u v k = le_z (v *ℤ pos (S k)) (u *ℤ pos (S (900 - k)))

unfoldable pub largest : (S : ℕ → ℕ) (u v : ℤ) → ℕ → ℕ
largest S u v zero = 0
largest S u v (suc k) = cond (reaches S u v (suc k)) (suc k) (largest S u v k)

-- "Direction in tenths of a degree, north through east. For u ≥ 0, v > 0 it is the largest k in 0..899 with u·S[900-k]
-- ≥ v·S[k]."
unfoldable pub quarter : (S : ℕ → ℕ) (u v : ℤ) → ℕ
quarter S u v = largest S u v 899

-- "For u > 0, v ≤ 0 add 900 and use (-v, u); for u ≤ 0, v < 0 add 1800 and use (-u, -v);
-- for u < 0, v ≥ 0 add 2700 and use (v, -u). For u = v = 0 it is 65,535."
unfoldable pub direction : (S : ℕ → ℕ) (u v : ℤ) → ℕ
direction S u v =
    cond (le_z (pos 0) u && lt_z (pos 0) v) (quarter S u v)
    (cond (lt_z (pos 0) u && le_z v (pos 0)) (900 + quarter S (neg_ℤ v) u)
    (cond (le_z u (pos 0) && lt_z v (pos 0)) (1800 + quarter S (neg_ℤ u) (neg_ℤ v))
    (cond (lt_z u (pos 0) && le_z (pos 0) v) (2700 + quarter S v (neg_ℤ u))
    65535)))

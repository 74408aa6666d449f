-- Two mirrors.
--   cubic-opposite, quadratic-opposite   values with the other sign give coefficients with the other sign
--   cubic-reversed, quadratic-reversed   values in the opposite order of time change the sign of c1 and c3 alone
use Rattle.std.specs.Prelude.{◌≡◌, [], ◌∷◌, ℤ, neg_ℤ, ◌-ℤ◌, ◌*ℤ◌}
use Rattle.std.proofs.Math.IntN.{pos}
use Rattle.std.specs.Int.Signed.{le_z_yes}
use Rattle.rounding.specs.laws.Ring.{num, ◌⊕◌, ◌⊖◌, ◌⊗◌, opp, ring, v0, v1, v2, v3, v4, v5, v6}
use Rattle.rounding.specs.Near.{near}
use Rattle.rounding.proofs.laws.NearLaws.{near-opposite}
use Rattle.element_fits.specs.declared.least_squares.Hourly.{Hourly}
use Rattle.element_fits.specs.LeastSquares.{sum, first, second, third, cubic, quadratic}

abbrev pub opposite : Hourly → Hourly
opposite v =
    record {
      v0 = neg_ℤ v.v0;
      v1 = neg_ℤ v.v1;
      v2 = neg_ℤ v.v2;
      v3 = neg_ℤ v.v3;
      v4 = neg_ℤ v.v4;
      v5 = neg_ℤ v.v5;
      v6 = neg_ℤ v.v6;
    }

abbrev pub reversed : Hourly → Hourly
reversed v = record { v0 = v.v6; v1 = v.v5; v2 = v.v4; v3 = v.v3; v4 = v.v2; v5 = v.v1; v6 = v.v0 }

module _ (v : Hourly) where
  sum-opposite : sum (opposite v) ≡ neg_ℤ (sum v)
  unfolding sum
  sum-opposite =
      ring (v.v0 ∷ v.v1 ∷ v.v2 ∷ v.v3 ∷ v.v4 ∷ v.v5 ∷ v.v6 ∷ [])
      (opp v0 ⊕ opp v1 ⊕ opp v2 ⊕ opp v3 ⊕ opp v4 ⊕ opp v5 ⊕ opp v6) (opp (v0 ⊕ v1 ⊕ v2 ⊕ v3 ⊕ v4 ⊕ v5 ⊕ v6)) tt

  first-opposite : first (opposite v) ≡ neg_ℤ (first v)
  unfolding first
  first-opposite =
      ring (v.v0 ∷ v.v1 ∷ v.v2 ∷ v.v3 ∷ v.v4 ∷ v.v5 ∷ v.v6 ∷ [])
      (num 3 ⊗ (opp v6 ⊖ opp v0) ⊕ num 2 ⊗ (opp v5 ⊖ opp v1) ⊕ (opp v4 ⊖ opp v2)) (opp (num 3 ⊗ (v6 ⊖ v0) ⊕ num 2 ⊗ (v5 ⊖ v1) ⊕ (v4 ⊖ v2))) tt

  second-opposite : second (opposite v) ≡ neg_ℤ (second v)
  unfolding second
  second-opposite =
      ring (v.v0 ∷ v.v1 ∷ v.v2 ∷ v.v3 ∷ v.v4 ∷ v.v5 ∷ v.v6 ∷ [])
      (num 5 ⊗ (opp v0 ⊕ opp v6) ⊖ num 3 ⊗ (opp v2 ⊕ opp v4) ⊖ num 4 ⊗ opp v3) (opp (num 5 ⊗ (v0 ⊕ v6) ⊖ num 3 ⊗ (v2 ⊕ v4) ⊖ num 4 ⊗ v3)) tt

  third-opposite : third (opposite v) ≡ neg_ℤ (third v)
  unfolding third
  third-opposite =
      ring (v.v0 ∷ v.v1 ∷ v.v2 ∷ v.v3 ∷ v.v4 ∷ v.v5 ∷ v.v6 ∷ [])
      (opp v6 ⊖ opp v0 ⊖ (opp v5 ⊖ opp v1) ⊖ (opp v4 ⊖ opp v2)) (opp (v6 ⊖ v0 ⊖ (v5 ⊖ v1) ⊖ (v4 ⊖ v2))) tt

  sum-reversed : sum (reversed v) ≡ sum v
  unfolding sum
  sum-reversed =
      ring (v.v0 ∷ v.v1 ∷ v.v2 ∷ v.v3 ∷ v.v4 ∷ v.v5 ∷ v.v6 ∷ []) (v6 ⊕ v5 ⊕ v4 ⊕ v3 ⊕ v2 ⊕ v1 ⊕ v0) (v0 ⊕ v1 ⊕ v2 ⊕ v3 ⊕ v4 ⊕ v5 ⊕ v6) tt

  first-reversed : first (reversed v) ≡ neg_ℤ (first v)
  unfolding first
  first-reversed =
      ring (v.v0 ∷ v.v1 ∷ v.v2 ∷ v.v3 ∷ v.v4 ∷ v.v5 ∷ v.v6 ∷ [])
      (num 3 ⊗ (v0 ⊖ v6) ⊕ num 2 ⊗ (v1 ⊖ v5) ⊕ (v2 ⊖ v4)) (opp (num 3 ⊗ (v6 ⊖ v0) ⊕ num 2 ⊗ (v5 ⊖ v1) ⊕ (v4 ⊖ v2))) tt

  second-reversed : second (reversed v) ≡ second v
  unfolding second
  second-reversed =
      ring (v.v0 ∷ v.v1 ∷ v.v2 ∷ v.v3 ∷ v.v4 ∷ v.v5 ∷ v.v6 ∷ [])
      (num 5 ⊗ (v6 ⊕ v0) ⊖ num 3 ⊗ (v4 ⊕ v2) ⊖ num 4 ⊗ v3) (num 5 ⊗ (v0 ⊕ v6) ⊖ num 3 ⊗ (v2 ⊕ v4) ⊖ num 4 ⊗ v3) tt

  third-reversed : third (reversed v) ≡ neg_ℤ (third v)
  unfolding third
  third-reversed =
      ring (v.v0 ∷ v.v1 ∷ v.v2 ∷ v.v3 ∷ v.v4 ∷ v.v5 ∷ v.v6 ∷ [])
      (v0 ⊖ v6 ⊖ (v1 ⊖ v5) ⊖ (v2 ⊖ v4)) (opp (v6 ⊖ v0 ⊖ (v5 ⊖ v1) ⊖ (v4 ⊖ v2))) tt

  abbrev c3 : ℤ
  c3 = near (third v) (pos 36)

  abbrev c2 : ℤ
  c2 = near (second v) (pos 84)

  pub cubic-opposite : cubic (opposite v)
      ≡ record { c0 = neg_ℤ (cubic v).c0; c1 = neg_ℤ (cubic v).c1; c2 = neg_ℤ (cubic v).c2; c3 = neg_ℤ (cubic v).c3 }
  unfolding cubic
  cubic-opposite =
      rw (
        sum-opposite,
        first-opposite,
        second-opposite,
        third-opposite,
        near-opposite (third v) (pos 36) (le_z_yes tt),
        near-opposite (second v) (pos 84) (le_z_yes tt),
        ring (first v ∷ c3 ∷ []) (opp v0 ⊖ num 196 ⊗ opp v1) (opp (v0 ⊖ num 196 ⊗ v1)) tt,
        ring (sum v ∷ c2 ∷ []) (opp v0 ⊖ num 28 ⊗ opp v1) (opp (v0 ⊖ num 28 ⊗ v1)) tt,
        near-opposite (first v -ℤ pos 196 *ℤ c3) (pos 28) (le_z_yes tt),
        near-opposite (sum v -ℤ pos 28 *ℤ c2) (pos 7) (le_z_yes tt),
      )

  pub quadratic-opposite : quadratic (opposite v) ≡ record { c0 = neg_ℤ (quadratic v).c0; c1 = neg_ℤ (quadratic v).c1; c2 = neg_ℤ (quadratic v).c2 }
  unfolding quadratic
  quadratic-opposite =
      rw (
        sum-opposite,
        first-opposite,
        second-opposite,
        near-opposite (second v) (pos 84) (le_z_yes tt),
        near-opposite (first v) (pos 28) (le_z_yes tt),
        ring (sum v ∷ c2 ∷ []) (opp v0 ⊖ num 28 ⊗ opp v1) (opp (v0 ⊖ num 28 ⊗ v1)) tt,
        near-opposite (sum v -ℤ pos 28 *ℤ c2) (pos 7) (le_z_yes tt),
      )

  pub cubic-reversed : cubic (reversed v) ≡ record { c0 = (cubic v).c0; c1 = neg_ℤ (cubic v).c1; c2 = (cubic v).c2; c3 = neg_ℤ (cubic v).c3 }
  unfolding cubic
  cubic-reversed =
      rw (
        sum-reversed,
        first-reversed,
        second-reversed,
        third-reversed,
        near-opposite (third v) (pos 36) (le_z_yes tt),
        ring (first v ∷ c3 ∷ []) (opp v0 ⊖ num 196 ⊗ opp v1) (opp (v0 ⊖ num 196 ⊗ v1)) tt,
        near-opposite (first v -ℤ pos 196 *ℤ c3) (pos 28) (le_z_yes tt),
      )

  pub quadratic-reversed : quadratic (reversed v) ≡ record { c0 = (quadratic v).c0; c1 = neg_ℤ (quadratic v).c1; c2 = (quadratic v).c2 }
  unfolding quadratic
  quadratic-reversed = rw (sum-reversed, first-reversed, second-reversed, near-opposite (first v) (pos 28) (le_z_yes tt))

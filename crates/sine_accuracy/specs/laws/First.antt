-- The rule from 0 to 90 degrees against a polynomial in the angle that passes the test of each node.
use Rattle.std.specs.Prelude.{◌≡◌, Bool, List, [], ◌∷◌, ℕ, ◌+◌, ◌-◌, ◌*◌, ◌/◌, ◌%◌, ◌≤◌, ◌<◌, T, ℤ, ◌+ℤ◌, ◌-ℤ◌, ◌*ℤ◌, ◌≤ℤ◌, ◌<ℤ◌}
use Rattle.std.proofs.Math.Path.{refl, ap}
use Rattle.std.proofs.Common.{◌∙◌}
use Rattle.std.proofs.Math.Bool.{true, false, cond}
use native.Mathlib.Omega.{arith}
use Rattle.std.proofs.Math.IntN.{pos, neg_ℤ, nat_abs}
use Rattle.std.specs.Int.Signed.{le_z, le_z_yes}
use Rattle.rounding.specs.Parts.{same, sum, opposite}
use Rattle.rounding.specs.laws.Order.{parts-≤, nat_abs_le, le_nat_abs, nat_abs_product, le_z_false}
use Rattle.rounding.specs.laws.Ring.{num, ◌⊖◌, ◌⊗◌, opp, v0, v1, v2}
use Rattle.rounding.specs.laws.Cert.{fact, leq, less, lit, ◌⊞◌, ◌⊠◌, certify}
use Rattle.rounding.specs.Near.{near}
use Rattle.rounding.proofs.laws.NearLaws.{near-error}
use Rattle.sine_table.specs.Table.{S}
use Rattle.sine.specs.FirstQuadrant.{arc, sag, between, capped, first_quadrant}
use Rattle.sine_table.specs.laws.Computed.{both, both_left, both_right}
use Rattle.sine_accuracy.specs.laws.Lists.{worth, moved, worth-moved}
use Rattle.sine_accuracy.specs.laws.Cell.{tight, low, Rounded, cell, topped}

-- ---- the cap

module _ (W : ℕ) (x y : ℤ) (h : 100 * nat_abs (pos W *ℤ x -ℤ y) ≤ 178 * W) (top : y ≤ℤ pos (100_000_001 * W)) where
  over : pos 100_000_000 <ℤ x → 100 * nat_abs (pos W *ℤ pos 100_000_000 -ℤ y) ≤ 178 * W
  over g =
      let env = pos W ∷ x ∷ y ∷ [] in
      let high : (pos 100 *ℤ (pos W *ℤ x -ℤ y)) ≤ℤ pos (178 * W)
      = le_nat_abs (pos 100 *ℤ (pos W *ℤ x -ℤ y)) {m = 178 * W} (omega (arith, nat_abs_product (pos 100) (pos W *ℤ x -ℤ y))) in
      let up : (pos 100 *ℤ (pos W *ℤ pos 100_000_000 -ℤ y)) ≤ℤ pos (178 * W)
      = certify 0 env (num 100 ⊗ (v0 ⊗ num 100_000_000 ⊖ v2)) (num 178 ⊗ v0)
      (leq (num 100 ⊗ (v0 ⊗ v1 ⊖ v2)) (num 178 ⊗ v0) high ⊞ lit 100 ⊠ fact v0 (parts-≤ (omega arith)) ⊠ (less (num 100_000_000) v1 g ⊞ lit 1)) tt in
      let down : neg_ℤ (pos (178 * W)) ≤ℤ (pos 100 *ℤ (pos W *ℤ pos 100_000_000 -ℤ y))
      = certify 0 env (opp (num 178 ⊗ v0)) (num 100 ⊗ (v0 ⊗ num 100_000_000 ⊖ v2))
      (lit 100 ⊠ leq v2 (num 100_000_001 ⊗ v0) top ⊞ lit 78 ⊠ fact v0 (parts-≤ (omega arith))) tt in
      omega (
        arith,
        nat_abs_product (pos 100) (pos W *ℤ pos 100_000_000 -ℤ y),
        nat_abs_le (pos 100 *ℤ (pos W *ℤ pos 100_000_000 -ℤ y)) {m = 178 * W} down up,
      )

  at_cap : 100 * nat_abs (pos W *ℤ capped x -ℤ y) ≤ 178 * W
  unfolding capped
  at_cap = go (le_z x (pos 100_000_000)) refl
    where
      go : (t : Bool) → le_z x (pos 100_000_000) ≡ t → 100 * nat_abs (pos W *ℤ cond t x (pos 100_000_000) -ℤ y) ≤ 178 * W
      go true e = h
      go false e = over (le_z_false x (pos 100_000_000) e)

-- ---- the test of a node

unfoldable pub node : ℕ → ℕ → ℕ → List ℤ → Bool
node W s c qs = both (tight (pos W) (pos s) (pos c) qs) (low W qs)

-- the polynomial counted from node k
abbrev pub from : List ℤ → ℕ → List ℤ
from ps k = moved (pos (100_000 * k)) ps

module _ (ps : List ℤ) (W : ℕ) (tests : (k : ℕ) → k < 901 → T (node W (S k) (S (900 - k)) (from ps k))) where
  is-tight : (k : ℕ) → k < 901 → T (tight (pos W) (pos (S k)) (pos (S (900 - k))) (from ps k))
  unfolding node
  is-tight k h = both_left (tight (pos W) (pos (S k)) (pos (S (900 - k))) (from ps k)) (low W (from ps k)) (tests k h)

  is-low : (k : ℕ) → k < 901 → T (low W (from ps k))
  unfolding node
  is-low k h = both_right (tight (pos W) (pos (S k)) (pos (S (900 - k))) (from ps k)) (low W (from ps k)) (tests k h)

  module _ (a : ℕ) (within : a ≤ 90_000_000) where
    k : ℕ
    k = a / 100_000

    b : ℕ
    b = a % 100_000

    k-below : k < 901
    unfolding k
    k-below = omega arith

    forth : worth (from ps k) (pos b) ≡ worth ps (pos a)
    unfolding k b
    forth = worth-moved (pos (100_000 * k)) (pos b) ps ∙ ap (λ (n : ℕ). worth ps (pos n)) (omega arith)

    r : ℤ
    r = arc b

    w : ℤ
    w = sag r

    n : ℤ
    n = near (pos (S (900 - k)) *ℤ r -ℤ pos (S k) *ℤ w) (pos 100_000_000)

    rounded : Rounded (pos (S k)) (pos (S (900 - k))) (pos b) r w n
    unfolding r w n b arc sag
    rounded = record {
      b_small = omega arith;
      r_near = omega (arith, near-error (pos (b * 17_453_293)) (pos 10_000_000) (le_z_yes tt));
      w_near = omega (arith, near-error (r *ℤ r) (pos 200_000_000) (le_z_yes tt));
      n_near = omega (arith, near-error (pos (S (900 - k)) *ℤ r -ℤ pos (S k) *ℤ w) (pos 100_000_000) (le_z_yes tt));
    }

    uncapped : 100 * nat_abs (pos W *ℤ (pos (S k) +ℤ n) -ℤ pos 100_000_000 *ℤ worth ps (pos a)) ≤ 178 * W
    uncapped = rw (← forth) (cell (pos W) (pos (S k)) (pos (S (900 - k))) (pos b) r w n (from ps k) (is-tight k k-below) rounded)

    -- the node at or above the angle, and what lacks of it
    m : ℕ
    m = (a + 99_999) / 100_000

    top : (pos 100_000_000 *ℤ worth ps (pos a)) ≤ℤ pos (100_000_001 * W)
    unfolding m
    top =
        let e : pos (100_000 * m) +ℤ neg_ℤ (pos (100_000 * m - a)) ≡ pos a
        = same (pos (100_000 * m) +ℤ neg_ℤ (pos (100_000 * m - a))) (pos a)
        (omega (arith, (sum (pos (100_000 * m)) (neg_ℤ (pos (100_000 * m - a)))).is, (opposite (pos (100_000 * m - a))).is)) in
        let moves : worth (from ps m) (neg_ℤ (pos (100_000 * m - a))) ≡ worth ps (pos a)
        = worth-moved (pos (100_000 * m)) (neg_ℤ (pos (100_000 * m - a))) ps ∙ ap (worth ps) e in
        rw moves at (topped W (100_000 * m - a) (omega arith) (from ps m) (is-low m (omega arith)))

    pub first-close : 100 * nat_abs (pos W *ℤ first_quadrant a -ℤ pos 100_000_000 *ℤ worth ps (pos a)) ≤ 178 * W
    unfolding first_quadrant between k b r w n
    first-close = at_cap W (pos (S k) +ℤ n) (pos 100_000_000 *ℤ worth ps (pos a)) uncapped top

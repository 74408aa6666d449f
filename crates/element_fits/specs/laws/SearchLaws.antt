-- What callers use of the search.
--   largest-is       where 0 passes, it is the largest that passes
--   largest-unique   and the only one: so a search by halving that ends at such a number has found it
--   largest-le       it is within the limit
use Rattle.std.specs.Prelude.{◌≡◌, Bool}
use Rattle.std.proofs.Math.Path.{refl}
use Rattle.std.proofs.Math.Bool.{true, false, cond}
use Rattle.std.proofs.Math.Logic.{⊎_elim}
use Prim.Native.Nat.{ℕ, zero, suc, ◌≤◌, ◌<◌}
use native.Mathlib.Omega.{arith}
use Rattle.std.proofs.Common.{le_antisymm, lt_of_not-le, eq-or-lt_of_le}
use Rattle.rounding.specs.laws.Order.{both_ways}
use Rattle.element_fits.specs.Search.{Largest, largest}

module _ (f : ℕ → Bool) where
  pub largest-unique : {n j k : ℕ} → Largest f n j → Largest f n k → j ≡ k
  largest-unique {n} {j} {k} a b = le_antisymm (under j k a b) (under k j b a)
    where
      under : (j k : ℕ) → Largest f n j → Largest f n k → j ≤ k
      under j k a b = omega (arith, lt_of_not-le (λ (g : k < j). both_ways a.holds (b.above j g a.small)))

  pub largest-le : (n : ℕ) → largest f n ≤ n
  unfolding largest
  largest-le zero = omega arith
  largest-le (suc n) = go (f (suc n)) (largest-le n)
    where
      go : (t : Bool) → largest f n ≤ n → cond t (suc n) (largest f n) ≤ suc n
      go true h = omega arith
      go false h = omega arith

  module _ (least : f 0 ≡ true) where
    pub largest-is : (n : ℕ) → Largest f n (largest f n)
    unfolding largest
    largest-is zero = record { small = omega arith; holds = least; above = λ j h k. absurd (omega arith) }
    largest-is (suc n) = go (f (suc n)) refl (largest-is n)
      where
        go : (t : Bool) → f (suc n) ≡ t → Largest f n (largest f n) → Largest f (suc n) (cond t (suc n) (largest f n))
        go true e i = record { small = omega arith; holds = e; above = λ j h k. absurd (omega arith) }
        go false e i =
            record {
              small = omega (arith, i.small);
              holds = i.holds;
              above = λ j h k. ⊎_elim (λ (w : j ≡ suc n). rw w e) (λ (w : j < suc n). i.above j h (omega arith)) (eq-or-lt_of_le k);
            }

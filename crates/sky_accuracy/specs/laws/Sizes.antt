-- What is known of a sine or a cosine s of the rule, and sums and products of sizes.
use Rattle.std.specs.Prelude.{ℕ, ◌+◌, ◌*◌, ◌≤◌, ℤ, pos, nat_abs, ◌+ℤ◌, ◌-ℤ◌, ◌*ℤ◌}
use Rattle.std.proofs.Common.{arith}
use Rattle.rounding.specs.laws.Order.{nat_abs_sum, nat_abs_minus, nat_abs_product, nat_abs_product_le}

-- s is S over K to 1.79 units, and at most 1
pub record Known (K : ℕ) (s S : ℤ) : Type 0 where
  pub small : nat_abs s ≤ 100_000_000
  pub close : 100 * nat_abs (pos K *ℤ s -ℤ pos 100_000_000 *ℤ S) ≤ 179 * K

-- S and T over K are on the circle, up to 10^-16
pub record OnCircle (K : ℕ) (S T : ℤ) : Type 0 where
  pub on : 10_000_000_000_000_000 * nat_abs (S *ℤ S +ℤ T *ℤ T -ℤ pos (K * K)) ≤ K * K

pub by : (y z : ℤ) {m n : ℕ} → nat_abs y ≤ m → nat_abs z ≤ n → nat_abs (y *ℤ z) ≤ m * n
by y z {m} {n} h k = nat_abs_product_le y z m n h k

pub plus : (y z : ℤ) {m n : ℕ} → nat_abs y ≤ m → nat_abs z ≤ n → nat_abs (y +ℤ z) ≤ m + n
plus y z h k = omega (arith, nat_abs_sum y z)

pub less : (y z : ℤ) {m n : ℕ} → nat_abs y ≤ m → nat_abs z ≤ n → nat_abs (y -ℤ z) ≤ m + n
less y z h k = omega (arith, nat_abs_minus y z)

pub times : (k : ℕ) (z : ℤ) {m : ℕ} → k * nat_abs z ≤ m → nat_abs (pos k *ℤ z) ≤ m
times k z h = omega (arith, nat_abs_product (pos k) z)

pub self : (y : ℤ) → nat_abs y ≤ nat_abs y
self y = omega arith

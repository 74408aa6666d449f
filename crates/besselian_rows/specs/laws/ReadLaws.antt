-- What is read back of a number that is known by an equation.
use Rattle.std.specs.Prelude.{◌≡◌, ◌&&◌, ℕ, ◌≤◌, T, leb, ℤ, nat_abs}
use Rattle.std.proofs.Common.{ap, ◌∙◌, arith, to_z, of_z}
use Rattle.std.specs.Int.{w64}
use Rattle.rounding.specs.laws.Code.{read_back, read-size}

pub same_size : {z y : ℤ} {m : ℕ} → z ≡ y → nat_abs y ≤ m → nat_abs z ≤ m
same_size e h = omega (arith, ap nat_abs e)

pub back : {z y : ℤ} {m : ℕ} → z ≡ y → nat_abs y ≤ m → T (leb m 9223372036854775807) → to_z w64 (of_z w64 z) ≡ y
back {z} {y} {m} e h t = read_back z {m = m} (same_size e h) t ∙ e

pub back_size : {z y : ℤ} {n : ℕ} (m : ℕ) → z ≡ y → nat_abs y ≤ n → T (leb n m && leb m 9223372036854775807) → nat_abs (to_z w64 (of_z w64 z)) ≤ m
back_size {z} {y} {n} m e h t = read-size z {n = n} m (same_size e h) t

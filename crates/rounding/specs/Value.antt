-- What a function over whole numbers promises: the value, and a size for those who compute on.
use Rattle.std.specs.Prelude.{◌≡◌, ℕ, ◌≤◌, ℤ, nat_abs}

-- r is z, and at most m in size
pub record Value (z : ℤ) (m : ℕ) (r : ℤ) : Type 0 where
  pub value : r ≡ z
  pub size : nat_abs r ≤ m

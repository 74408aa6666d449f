-- Rounding: down, and to the nearest.
use Rattle.std.specs.Prelude.{ℕ, suc, ◌+◌, ◌*◌, ◌/◌, ℤ, pos, negsuc, neg_ℤ, nat_abs}

-- the floor of a / b, for b above 0: -1 - a is rounded down to -1 - floor(a / b)
abbrev pub floor_z : ℤ → ℤ → ℤ
floor_z (pos a) b = pos (a / nat_abs b)
floor_z (negsuc a) b = negsuc (a / nat_abs b)

-- "near(n/k) is the floor of (2n+k)/(2k)": of a size, which is not negative
abbrev pub half_up : ℕ → ℕ → ℕ
half_up n k = (2 * n + k) / (2 * k)

-- Document 02, wish 3: "Halves shall go away from zero, so -50,000,000 over 10^8 gives -1."
-- The size is rounded as above, so that a half goes up, and then gets the sign of n.
unfoldable pub near : ℤ → ℤ → ℤ
near (pos n) k = pos (half_up n (nat_abs k))
near (negsuc n) k = neg_ℤ (pos (half_up (suc n) (nat_abs k)))

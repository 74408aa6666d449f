-- Laws of what the bytes of a number hold.
use Rattle.std.specs.Prelude.{◌≡◌, refl, Bool, true, false, ◌≤◌, ◌<◌, ℤ, pos, neg_ℤ, nat_abs, ◌≤ℤ◌}
use Rattle.std.proofs.Common.{arith}
use Rattle.std.specs.Int.Signed.{le_z}
use Rattle.rounding.specs.laws.Order.{zs, nat_abs_by, le_z_true}
use Rattle.rounding.specs.laws.Tests.{both, together, yes-≤}
use Rattle.request_format.specs.declared.fields.Width.{Width}
use Rattle.request_format.specs.declared.fields.Width.TheVariants as W
use Rattle.request_format.specs.Fields.{whole_of, lowest_of, highest_of, holds}

-- it is in their range
pub record Held (w : Width) (z : ℤ) : Type 0 where
  pub low : neg_ℤ (pos (lowest_of w)) ≤ℤ z
  pub high : z ≤ℤ pos (highest_of w)

pub held : (w : Width) (z : ℤ) → holds w z ≡ true → Held w z
unfolding holds
held w z e =
    let p = both (le_z (neg_ℤ (pos (lowest_of w))) z) (le_z z (pos (highest_of w))) e in
    record { low = le_z_true _ _ p.0; high = le_z_true _ _ p.1 }

pub holding : (w : Width) (z : ℤ) → Held w z → holds w z ≡ true
unfolding holds
holding w z h = together (yes-≤ h.low) (yes-≤ h.high)

-- it is less than as many as there are
pub held-size : (w : Width) (z : ℤ) → Held w z → nat_abs z < whole_of w
held-size W.Unsigned2 z h = let s : nat_abs z ≤ 65535 = nat_abs_by z (omega (arith, zs, h.high)) (omega (arith, zs, h.low)) in omega arith
held-size W.Signed2 z h = let s : nat_abs z ≤ 32768 = nat_abs_by z (omega (arith, zs, h.high)) (omega (arith, zs, h.low)) in omega arith
held-size W.Signed4 z h = let s : nat_abs z ≤ 2147483648 = nat_abs_by z (omega (arith, zs, h.high)) (omega (arith, zs, h.low)) in omega arith

pub whole_small : (w : Width) → whole_of w ≤ 4294967296
whole_small W.Unsigned2 = omega arith
whole_small W.Signed2 = omega arith
whole_small W.Signed4 = omega arith

-- a number of 2^32 and more is not held
pub held_not : (w : Width) (z : ℤ) → 4294967296 ≤ nat_abs z → holds w z ≡ false
held_not w z h = by (holds w z) refl
  where
    by : (b : Bool) → holds w z ≡ b → b ≡ false
    by true e = absurd (omega (arith, held-size w z (held w z e), whole_small w))
    by false e = refl

pub held_zero : (w : Width) → holds w (pos 0) ≡ true
unfolding holds
held_zero W.Unsigned2 = refl
held_zero W.Signed2 = refl
held_zero W.Signed4 = refl

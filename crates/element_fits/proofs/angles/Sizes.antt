-- The size of a number, as an unsigned number: what `abs` gave, cast.
use mathlib.Core.Path.{◌≡◌, ap, ◌∙◌}
use mathlib.Core.List.{[], ◌∷◌}
use Prim.Native.Nat.{◌≤◌}
use native.Mathlib.Omega.{arith}
use lib.Dec.{T}
use lib.IntN.{ℤ, pos, nat_abs}
use lib.Signed.{non_neg}
use mir.Syntax.{w64}
use mir.Val.{Fits, to_z, of_z}
use Rattle.rounding.specs.laws.Order.{zs}
use Rattle.rounding.specs.laws.Code.{arg, Within, whole, ends, ◌▹◌, unsigned, read_back}

module _ (z r : ℤ) (h : nat_abs z ≤ 100_000_000) (e : r ≡ pos (nat_abs (to_z w64 (of_z w64 z)))) where
  size_is : r ≡ pos (nat_abs z)
  size_is = e ∙ ap (λ (y : ℤ). pos (nat_abs y)) (read_back z h tt)

  size-within : Within (whole r ∷ []) (100_000_000 ∷ [])
  size-within = let k : nat_abs r ≤ 100_000_000 = omega (arith, ap nat_abs size_is) in k ▹ ends

  pub size-cast : T (non_neg (to_z w64 (of_z w64 r))) × Fits w64 (nat_abs (to_z w64 (of_z w64 r)))
  size-cast = unsigned size-within (arg 0) tt (rw size_is (omega (arith, zs)))

  pub cast_is : nat_abs (to_z w64 (of_z w64 r)) ≡ nat_abs z
  cast_is = ap nat_abs (read_back r {m = 100_000_000} (omega (arith, ap nat_abs size_is)) tt ∙ size_is)

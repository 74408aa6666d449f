-- Seven values as the slots of a computation, each within its range; and what a call of `near` gave.
use mathlib.Core.Path.{◌≡◌, ap, ◌∙◌}
use mathlib.Core.List.{[], ◌∷◌}
use Prim.Native.Nat.{ℕ, ◌*◌, ◌≤◌}
use native.Mathlib.Omega.{arith}
use lib.IntN.{ℤ, pos, nat_abs}
use lib.Signed.{◌≤ℤ◌}
use Rattle.rounding.specs.Near.{near}
use Rattle.rounding.proofs.laws.NearLaws.{near-size}
use Rattle.rounding.specs.Value.{Value}
use Rattle.rounding.specs.laws.Code.{Within, whole, ends, ◌▹◌}
use Rattle.element_fits.specs.declared.least_squares.Hourly.{Hourly}
use Rattle.element_fits.specs.Sizes.{HourlySizes}

pub bounds : {v : Hourly} → HourlySizes 100_000_000_000 v
    → Within (whole v.v0 ∷ whole v.v1 ∷ whole v.v2 ∷ whole v.v3 ∷ whole v.v4 ∷ whole v.v5 ∷ whole v.v6 ∷ [])
    (100000000000 ∷ 100000000000 ∷ 100000000000 ∷ 100000000000 ∷ 100000000000 ∷ 100000000000 ∷ 100000000000 ∷ [])
bounds h = h.v0 ▹ h.v1 ▹ h.v2 ▹ h.v3 ▹ h.v4 ▹ h.v5 ▹ h.v6 ▹ ends

-- q is near of x, which is z, over k
pub divided : {x z q : ℤ} (k : ℤ) (m n : ℕ) → pos 1 ≤ℤ k → q ≡ near x k → x ≡ z → nat_abs z ≤ m → m ≤ n * nat_abs k → Value (near z k) n q
divided {x} {z} {q} k m n p e same h l =
    let f : q ≡ near z k = e ∙ ap (λ (y : ℤ). near y k) same in
    record { value = f; size = omega (arith, ap nat_abs f, near-size z k n p (omega arith)) }

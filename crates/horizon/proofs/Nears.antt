-- near over 10^8 of what the machine computed.
use mathlib.Core.Path.{◌≡◌, sym, ap, ◌∙◌, subst}
use Prim.Native.Nat.{ℕ, ◌*◌, ◌≤◌}
use native.Mathlib.Omega.{arith}
use lib.Dec.{T, leb}
use lib.IntN.{ℤ, nat_abs, ◌-ℤ◌, ◌*ℤ◌}
use lib.Signed.{le_z_yes}
use mir.Syntax.{w64}
use mir.Val.{to_z, of_z}
use Rattle.rounding.specs.laws.Code.{read_back}
use Rattle.rounding.specs.Units.{one}
use Rattle.rounding.specs.Near.{near}
use Rattle.rounding.proofs.laws.NearLaws.{near-size}
use Rattle.rounding.specs.Value.{Value}
use Rattle.sine_table.specs.Table.{S}
use Rattle.shadow_geometry.specs.Direction.{direction}

pub unit : {n m r : ℤ} → r ≡ near n one → n ≡ m → r ≡ near m one
unit e f = e ∙ ap (λ (z : ℤ). near z one) f

pub unit_size : {r : ℤ} (n : ℤ) (m : ℕ) → r ≡ near n one → nat_abs n ≤ m * 100000000 → nat_abs r ≤ m
unit_size n m e h = omega (arith, ap nat_abs e, near-size n one m (le_z_yes tt) h)

-- a result that is near of z, read back
pub given : {r : ℤ} (z : ℤ) (m : ℕ) → r ≡ near z one → nat_abs r ≤ m → T (leb m 9223372036854775807) → Value (near z one) m (to_z w64 (of_z w64 r))
given {r} z m e h t = record { value = read_back r h t ∙ e; size = subst (λ (y : ℤ). nat_abs y ≤ m) (sym (read_back r h t)) h }

-- a bearing of numbers that are read from their bits
pub bearing-is : {a b c d e f g a' b' c' d' e' f' g' : ℤ} → a ≡ a' → b ≡ b' → c ≡ c' → d ≡ d' → e ≡ e' → f ≡ f' → g ≡ g'
    → direction S (near (a *ℤ b) one) (near (c *ℤ d -ℤ near (e *ℤ f) one *ℤ g) one)
    ≡ direction S (near (a' *ℤ b') one) (near (c' *ℤ d' -ℤ near (e' *ℤ f') one *ℤ g') one)
bearing-is ea eb ec ed ee ef eg = rw (ea, eb, ec, ed, ee, ef, eg)

-- A list of numbers that are read back from their bits.
use mathlib.Core.Path.{◌≡◌, ap, ◌∙◌}
use mathlib.Core.List.{List, ◌∷◌}
use Prim.Native.Nat.{◌<◌, ◌^◌}
use lib.IntN.{ℤ}
use lib.Signed.{mag}
use mir.Syntax.{w64}
use mir.Val.{to_z, of_z}
use Rattle.rounding.specs.laws.Code.{read_result}

pub cons_back : (z : ℤ) {xs ys : List ℤ} → mag z < 2 ^ 63 → xs ≡ ys → to_z w64 (of_z w64 z) ∷ xs ≡ z ∷ ys
cons_back z {xs} {ys} h e = ap (λ (y : ℤ). y ∷ xs) (read_result z h) ∙ ap (λ (l : List ℤ). z ∷ l) e

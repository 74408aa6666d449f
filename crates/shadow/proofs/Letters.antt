-- The letters of a second's shadow, as they are read back from their bits; and what the magnitude and the direction
-- ask of them.
use mathlib.Core.Path.{◌≡◌, sym, ◌∙◌}
use Prim.Native.Nat.{◌≤◌}
use lib.IntN.{ℤ, pos, nat_abs, ◌*ℤ◌}
use lib.Signed.{◌≤ℤ◌, ◌<ℤ◌}
use mir.Syntax.{w64}
use mir.Val.{to_z, of_z}
use Rattle.sheet_types.specs.laws.PhaseLaws.{state_of_code}
use Rattle.sheet_types.specs.declared.phases.Phase.TheVariants.{Central}
use Rattle.sheet_types.specs.States.{state_of}
use Rattle.sine_table.specs.Table.{S}
use Rattle.rounding.specs.laws.Code.{read_back, read-size}
use Rattle.elements.specs.declared.Elements.{Elements}
use Rattle.elements.specs.declared.Body.TheVariants as B
use Rattle.elements.specs.Sizes.{ElementSizes}
use Rattle.station.specs.declared.Place.{Place}
use Rattle.station.specs.Sizes.{PlaceSizes}
use Rattle.shadow_geometry.specs.Shadow.{Moment, moment, u, v, L, M}
use Rattle.shadow_geometry.proofs.laws.Sizes.{M_nonneg}
use Rattle.shadow_geometry.specs.Magnitude.{magnitude}
use Rattle.shadow_geometry.specs.Direction.{direction}
use Rattle.shadow.specs.declared.Shadow.{Shadow}
use Rattle.shadow.specs.declared.States.{States}
use Rattle.shadow.specs.Shadow.{IsShadow}
use Rattle.shadow.specs.Second.{state_at, magnitude_at, direction_at, ShadowSizes, IsStates}
use Rattle.shadow.specs.laws.SecondLaws.{magnitude-at, direction-at, L1-over, L2-within, shadow-sizes}

-- a number that is written to bits and read
abbrev read : ℤ → ℤ
read z = to_z w64 (of_z w64 z)

module _ (e : Elements) (z : ElementSizes e) (p : Place) (i : PlaceSizes p) (τ : ℤ) (h : nat_abs τ ≤ 10800) (s : Shadow) (seen : IsShadow e p τ s) where
  abbrev m : Moment
  m = moment e p τ

  pub sizes : ShadowSizes s
  sizes = shadow-sizes e z p i τ h seen

  u-is : read s.u ≡ u m
  u-is = read_back s.u sizes.u tt ∙ seen.u

  v-is : read s.v ≡ v m
  v-is = read_back s.v sizes.v tt ∙ seen.v

  l1-is : read s.l1 ≡ L m e.penumbra
  l1-is = read_back s.l1 sizes.l1 tt ∙ seen.l1

  l2-is : read s.l2 ≡ L m e.central
  l2-is = read_back s.l2 sizes.l2 tt ∙ seen.l2

  m-is : read s.m ≡ M m
  m-is = read_back s.m sizes.m tt ∙ seen.m

  -- what `magnitude` asks of them, and what it then gives
  pub magnitude-asks : (
      ((nat_abs (read s.l1) ≤ 600000000) × (nat_abs (read s.l2) ≤ 600000000) × (nat_abs (read s.m) ≤ 1000000000000000000) × (pos 0 ≤ℤ read s.m))
      × ((pos 0 <ℤ read s.l1) × ((pos 23 *ℤ pos (nat_abs (read s.l2))) ≤ℤ (pos 3 *ℤ read s.l1)))
      )
  magnitude-asks = (
    (
      read-size s.l1 600000000 sizes.l1 tt,
      read-size s.l2 600000000 sizes.l2 tt,
      read-size s.m 1000000000000000000 sizes.m tt,
      rw m-is (M_nonneg m),
    ),
    (rw l1-is (L1-over e z p i τ h), rw (l1-is, l2-is) (L2-within e z p i τ h)),
  )

  pub magnitude-is : (guard : ℤ) (w : States) → IsStates guard e p τ w
      → magnitude (state_of w.central) (read s.l1) (read s.l2) (read s.m) ≡ magnitude_at guard e p τ
  magnitude-is guard w j =
      rw (l1-is, l2-is, m-is, j.central, state_of_code (state_at guard (B.Sun e) p Central τ)) (sym (magnitude-at guard e p τ))

  -- what `direction` asks of them, and what it then gives
  pub direction-asks : (nat_abs (read s.u) ≤ 1000000000) × (nat_abs (read s.v) ≤ 1000000000)
  direction-asks = (read-size s.u 1000000000 sizes.u tt, read-size s.v 1000000000 sizes.v tt)

  pub direction-is : direction S (read s.u) (read s.v) ≡ direction_at e.axis p τ
  direction-is = rw (u-is, v-is) (sym (direction-at e.axis p τ))

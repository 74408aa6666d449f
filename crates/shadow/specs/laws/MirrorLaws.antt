-- A mirrored second has the same states and, of an eclipse, the same magnitude.
use Rattle.std.specs.Prelude.{◌≡◌, refl, ℤ, neg_ℤ}
use Rattle.std.proofs.Common.{ap}
use Rattle.sheet_types.specs.declared.phases.Phase.{Phase}
use Rattle.sheet_types.specs.declared.phases.Phase.TheVariants.{Penumbra, Central, Star}
use Rattle.elements.specs.declared.Axis.{Axis}
use Rattle.elements.specs.declared.Elements.{Elements}
use Rattle.elements.specs.declared.Body.{Body}
use Rattle.elements.specs.declared.Body.TheVariants as B
use Rattle.elements.specs.Mirror.{mirrored_elements, mirrored_body}
use Rattle.elements.specs.laws.MirrorLaws.{axis_mirrored}
use Rattle.elements.specs.Stars.{axis_of}
use Rattle.station.specs.declared.Place.{Place}
use Rattle.station.specs.Mirror.{mirrored_place}
use Rattle.shadow_geometry.specs.Shadow.{moment_of, moment, cone}
use Rattle.shadow_geometry.proofs.laws.MirrorLaws.{mirrored_moment, L-mirrored, M-mirrored}
use Rattle.shadow.specs.Second.{state_at, magnitude_at}

-- the moment of the mirrored body at the mirrored place
pub moment_mirrored : (b : Body) (p : Place) (τ : ℤ) → moment_of (axis_of (mirrored_body neg_ℤ b)) (mirrored_place p) τ ≡ mirrored_moment (moment_of (axis_of b) p τ)
moment_mirrored b p τ = ap (λ (a : Axis). moment_of a (mirrored_place p) τ) (axis_mirrored b)

-- the cones stay
cone_mirrored : (b : Body) (φ : Phase) → cone (mirrored_body neg_ℤ b) φ ≡ cone b φ
cone_mirrored (B.Sun e) Penumbra = refl
cone_mirrored (B.Sun e) Central = refl
cone_mirrored (B.Sun e) Star = refl
cone_mirrored (B.Star s) φ = refl

module _ (guard : ℤ) (p : Place) (τ : ℤ) where
  pub state-mirrored : (b : Body) (φ : Phase) → state_at guard (mirrored_body neg_ℤ b) (mirrored_place p) φ τ ≡ state_at guard b p φ τ
  unfolding state_at
  state-mirrored b φ =
      rw (moment_mirrored b p τ, cone_mirrored b φ, L-mirrored (moment_of (axis_of b) p τ) (cone b φ), M-mirrored (moment_of (axis_of b) p τ))

  pub magnitude-mirrored : (e : Elements) → magnitude_at guard (mirrored_elements neg_ℤ e) (mirrored_place p) τ ≡ magnitude_at guard e p τ
  unfolding magnitude_at
  magnitude-mirrored e =
      rw (
        state-mirrored (B.Sun e) Central,
        L-mirrored (moment e p τ) e.penumbra,
        L-mirrored (moment e p τ) e.central,
        M-mirrored (moment e p τ),
      )

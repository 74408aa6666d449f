-- At a mirrored second of an eclipse the share is the same.
use Rattle.std.specs.Prelude.{◌≡◌, ℤ, neg_ℤ}
use Rattle.elements.specs.declared.Elements.{Elements}
use Rattle.elements.specs.Mirror.{mirrored_elements}
use Rattle.station.specs.declared.Place.{Place}
use Rattle.station.specs.Mirror.{mirrored_place}
use Rattle.shadow_geometry.specs.Shadow.{moment}
use Rattle.shadow_geometry.proofs.laws.MirrorLaws.{L-mirrored, M-mirrored}
use Rattle.obscuration.specs.Covered.{share_at}

pub share_mirrored : (e : Elements) (p : Place) (τ : ℤ) → share_at (mirrored_elements neg_ℤ e) (mirrored_place p) τ ≡ share_at e p τ
unfolding share_at
share_mirrored e p τ = rw (L-mirrored (moment e p τ) e.penumbra, L-mirrored (moment e p τ) e.central, M-mirrored (moment e p τ))

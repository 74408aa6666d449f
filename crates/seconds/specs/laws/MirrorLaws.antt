-- A mirrored occultation has the same states, M and magnitude at every second, and the same closest second.
use Rattle.std.specs.Prelude.{◌≡◌, ℤ, nat_abs, ◌-ℤ◌}
use Rattle.std.proofs.Math.Path.{refl, ap, fun_ext}
use Rattle.std.proofs.Common.{◌∙◌}
use Prim.Native.Nat.{ℕ}
use Rattle.std.proofs.Math.IntN.{neg_ℤ}
use Rattle.sheet_types.specs.declared.phases.Phase.{Phase}
use Rattle.elements.specs.declared.Body.{Body}
use Rattle.elements.specs.declared.Body.TheVariants as B
use Rattle.elements.specs.Mirror.{mirrored_body}
use Rattle.station.specs.Place.{place_of}
use Rattle.station.specs.Mirror.{mirrored_place}
use Rattle.station.proofs.laws.MirrorLaws.{place_mirrored}
use Rattle.shadow_geometry.specs.Shadow.{Moment, u, v, M}
use Rattle.shadow_geometry.proofs.laws.MirrorLaws as G
use Rattle.shadow_geometry.proofs.laws.MirrorLaws.{mirrored_moment}
use Rattle.shadow.specs.laws.MirrorLaws as Shadow
use Rattle.requests.specs.declared.Occultation.{Occultation}
use Rattle.requests.specs.Windows.{nth_second}
use Rattle.requests.specs.Mirror.{mirrored_occultation}
use Rattle.seconds.specs.Seconds.{moment_at, state_at, magnitude_of, magnitude_at, closestOf}
use Rattle.seconds.specs.Closest.{closest_to}

module _ (o : Occultation) where
  abbrev o' : Occultation
  o' = mirrored_occultation neg_ℤ o

  module _ (τ : ℤ) where
    pub moment_mirrored : moment_at o' τ ≡ mirrored_moment (moment_at o τ)
    moment_mirrored = rw (place_mirrored o.station) (Shadow.moment_mirrored o.body (place_of o.station) τ)

    pub state-mirrored : (φ : Phase) → state_at o' φ τ ≡ state_at o φ τ
    unfolding state_at
    state-mirrored φ = rw (place_mirrored o.station) (Shadow.state-mirrored o.guard (place_of o.station) τ o.body φ)

    pub magnitude-mirrored : magnitude_at o' τ ≡ magnitude_at o τ
    unfolding magnitude_at
    magnitude-mirrored = rw (place_mirrored o.station) (by o.body)
      where
        by : (b : Body) → magnitude_of o.guard (mirrored_body neg_ℤ b) (mirrored_place (place_of o.station)) τ ≡ magnitude_of o.guard b (place_of o.station) τ
        by (B.Sun e) = Shadow.magnitude-mirrored o.guard (place_of o.station) τ e
        by (B.Star s) = refl

    pub u-mirrored : u (moment_at o' τ) ≡ u (moment_at o τ)
    u-mirrored = ap u moment_mirrored ∙ G.u-mirrored (moment_at o τ)

    pub v-mirrored : v (moment_at o' τ) ≡ neg_ℤ (v (moment_at o τ))
    v-mirrored = ap v moment_mirrored ∙ G.v-mirrored (moment_at o τ)

    pub M-mirrored : M (moment_at o' τ) ≡ M (moment_at o τ)
    M-mirrored = ap (λ (m : Moment). M m) moment_mirrored ∙ G.M-mirrored (moment_at o τ)

  pub closest-mirrored : closestOf o' ≡ closestOf o
  unfolding closestOf
  closest-mirrored =
      ap (λ (m : ℕ → ℤ). closest_to m (nat_abs (o.window.last -ℤ o.window.first))) (fun_ext (λ k. M-mirrored (nth_second o.window k)))

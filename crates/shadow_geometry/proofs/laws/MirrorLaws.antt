-- The shadow at a mirrored second: u the same, v its opposite, and so M; ζ the same, and so L of any cone.
use Rattle.std.specs.Prelude.{◌≡◌, [], ◌∷◌, ℤ, neg_ℤ, ◌-ℤ◌, ◌*ℤ◌}
use Rattle.std.proofs.Math.Path.{refl}
use Rattle.std.proofs.Common.{ap, ◌∙◌}
use Rattle.std.specs.Int.Signed.{le_z_yes}
use Rattle.rounding.specs.laws.Ring.{◌⊕◌, ◌⊖◌, ◌⊗◌, opp, ring, v0, v1, v2, v3}
use Rattle.rounding.specs.Units.{one}
use Rattle.rounding.specs.Near.{near}
use Rattle.rounding.proofs.laws.NearLaws.{near-opposite}
use Rattle.sine.specs.Sine.{sine, cosine}
use Rattle.sine.specs.laws.OppositeLaws.{sine-opposite, cosine-opposite}
use Rattle.elements.specs.declared.Cone.{Cone}
use Rattle.elements.specs.Elements.{y_at}
use Rattle.elements.specs.Mirror.{mirrored_axis}
use Rattle.elements.specs.laws.MirrorLaws.{cubic-opposite, quadratic-opposite}
use Rattle.station.specs.Mirror.{mirrored_place}
use Rattle.shadow_geometry.specs.Shadow.{Moment, moment_of, H, d, q, ξ, η, ζ, u, v, L, M}

-- document 02, wish 13: "change the sign of all y and d coefficients and of the latitude"; the place is mirrored with
-- the latitude (station, MirrorLaws)
abbrev pub mirrored_moment : Moment → Moment
mirrored_moment m = moment_of (mirrored_axis neg_ℤ m.axis) (mirrored_place m.place) m.τ

module _ (m : Moment) where
  abbrev m' : Moment
  m' = mirrored_moment m

  H-mirrored : H m' ≡ H m
  unfolding H
  H-mirrored = refl

  q-mirrored : q m' ≡ q m
  unfolding q
  q-mirrored = rw H-mirrored

  ξ-mirrored : ξ m' ≡ ξ m
  unfolding ξ
  ξ-mirrored = rw H-mirrored

  d-mirrored : d m' ≡ neg_ℤ (d m)
  d-mirrored = quadratic-opposite m.axis.d m.τ

  sine-mirrored : sine (d m') ≡ neg_ℤ (sine (d m))
  sine-mirrored = ap sine d-mirrored ∙ sine-opposite (d m)

  cosine-mirrored : cosine (d m') ≡ cosine (d m)
  cosine-mirrored = ap cosine d-mirrored ∙ cosine-opposite (d m)

  η-mirrored : η m' ≡ neg_ℤ (η m)
  unfolding η
  η-mirrored =
      rw (q-mirrored, sine-mirrored, cosine-mirrored)
      (ap (λ (z : ℤ). near z one)
      (ring (m.place.p ∷ cosine (d m) ∷ q m ∷ sine (d m) ∷ []) (opp v0 ⊗ v1 ⊖ v2 ⊗ opp v3) (opp (v0 ⊗ v1 ⊖ v2 ⊗ v3)) tt)
      ∙ near-opposite (m.place.p *ℤ cosine (d m) -ℤ q m *ℤ sine (d m)) one (le_z_yes tt))

  pub ζ-mirrored : ζ m' ≡ ζ m
  unfolding ζ
  ζ-mirrored =
      rw (q-mirrored, sine-mirrored, cosine-mirrored)
      (ap (λ (z : ℤ). near z one)
      (ring (m.place.p ∷ cosine (d m) ∷ q m ∷ sine (d m) ∷ []) (opp v0 ⊗ opp v3 ⊕ v2 ⊗ v1) (v0 ⊗ v3 ⊕ v2 ⊗ v1) tt))

  pub u-mirrored : u m' ≡ u m
  unfolding u
  u-mirrored = rw ξ-mirrored

  pub v-mirrored : v m' ≡ neg_ℤ (v m)
  unfolding v
  v-mirrored =
      rw (cubic-opposite m.axis.y m.τ, η-mirrored) (ring (y_at m.axis m.τ ∷ η m ∷ []) (opp v0 ⊖ opp v1) (opp (v0 ⊖ v1)) tt)

  pub L-mirrored : (k : Cone) → L m' k ≡ L m k
  unfolding L
  L-mirrored k = rw ζ-mirrored

  pub M-mirrored : M m' ≡ M m
  M-mirrored = rw (u-mirrored, v-mirrored) (ring (u m ∷ v m ∷ []) (v0 ⊗ v0 ⊕ opp v1 ⊗ opp v1) (v0 ⊗ v0 ⊕ v1 ⊗ v1) tt)

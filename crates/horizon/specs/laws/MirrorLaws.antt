-- The horizon of a mirrored occultation (document 02, wish 13: latitude, d and y change their signs): the altitude is
-- the same; the axis points as far to the east and as far to the south as it did to the north, and so does the zenith
-- lie. So the two azimuths, and the two directions of the zenith, add up to 1799 or 1800 modulo 3600.
use Rattle.std.specs.Prelude.{◌≡◌, [], ◌∷◌, ℤ, ◌-ℤ◌, ◌*ℤ◌}
use Rattle.std.proofs.Math.Path.{refl, ap}
use Rattle.std.proofs.Common.{◌∙◌}
use Rattle.std.proofs.Math.IntN.{neg_ℤ}
use Rattle.std.specs.Int.Signed.{le_z_yes}
use Rattle.rounding.specs.laws.Ring.{◌⊕◌, ◌⊖◌, ◌⊗◌, opp, ring, v0, v1, v2, v3}
use Rattle.rounding.specs.Units.{one}
use Rattle.rounding.specs.Near.{near}
use Rattle.rounding.proofs.laws.NearLaws.{near-opposite}
use Rattle.sine_table.specs.Table.{S}
use Rattle.sine_table.specs.laws.TableLaws.{entry_0}
use Rattle.sine_table.specs.laws.Rising.{S_rises}
use Rattle.sine.specs.Sine.{sine, cosine}
use Rattle.sine.specs.laws.OppositeLaws.{sine-opposite, cosine-opposite}
use Rattle.elements.specs.laws.MirrorLaws.{quadratic-opposite}
use Rattle.shadow_geometry.specs.Shadow.{Moment, H, d}
use Rattle.shadow_geometry.proofs.laws.MirrorLaws.{mirrored_moment}
use Rattle.shadow_geometry.specs.laws.DirectionLaws.{Rising}
use Rattle.shadow_geometry.proofs.laws.DirectionMirror.{Mirrored, direction-mirrored}
use Rattle.shadow.specs.declared.Orientation.{Orientation}
use Rattle.requests.specs.declared.Occultation.{Occultation}
use Rattle.requests.specs.Mirror.{mirrored_occultation}
use Rattle.seconds.specs.Seconds.{moment_at}
use Rattle.seconds.specs.laws.MirrorLaws.{moment_mirrored}
use Rattle.horizon.specs.Altitude.{kept, altitude}
use Rattle.horizon.specs.Horizon.{altitude_sine, east, north, zenith_east, zenith_north, orientation_of, orientation_at, horizon_at}

rising : Rising S
rising = record { none = entry_0; rises = S_rises }

-- sin d changes its sign
abbrev pub mirrored_orientation : Orientation → Orientation
mirrored_orientation o = record { hsine = o.hsine; hcosine = o.hcosine; dsine = neg_ℤ o.dsine; dcosine = o.dcosine }

module _ (s c : ℤ) (o : Orientation) where
  abbrev o' : Orientation
  o' = mirrored_orientation o

  pub altitude-sine-mirrored : altitude_sine (neg_ℤ s) c o' ≡ altitude_sine s c o
  unfolding altitude_sine
  altitude-sine-mirrored =
      let q = near (c *ℤ o.hcosine) one in
      ap (λ (z : ℤ). near z one) (ring (s ∷ o.dsine ∷ q ∷ o.dcosine ∷ []) (opp v0 ⊗ opp v1 ⊕ v2 ⊗ v3) (v0 ⊗ v1 ⊕ v2 ⊗ v3) tt)

  pub east-mirrored : east o' ≡ east o
  unfolding east
  east-mirrored = refl

  pub north-mirrored : north (neg_ℤ s) c o' ≡ neg_ℤ (north s c o)
  unfolding north
  north-mirrored =
      let q = near (s *ℤ o.hcosine) one in
      let turned : near (neg_ℤ s *ℤ o.hcosine) one ≡ neg_ℤ q =
      ap (λ (z : ℤ). near z one) (ring (s ∷ o.hcosine ∷ []) (opp v0 ⊗ v1) (opp (v0 ⊗ v1)) tt) ∙ near-opposite (s *ℤ o.hcosine) one (le_z_yes tt) in
      ap (λ (k : ℤ). near (c *ℤ neg_ℤ o.dsine -ℤ k *ℤ o.dcosine) one) turned
      ∙ ap (λ (z : ℤ). near z one) (ring (c ∷ o.dsine ∷ q ∷ o.dcosine ∷ []) (v0 ⊗ opp v1 ⊖ opp v2 ⊗ v3) (opp (v0 ⊗ v1 ⊖ v2 ⊗ v3)) tt)
      ∙ near-opposite (c *ℤ o.dsine -ℤ q *ℤ o.dcosine) one (le_z_yes tt)

  pub zenith-east-mirrored : zenith_east c o' ≡ zenith_east c o
  unfolding zenith_east
  zenith-east-mirrored = refl

  pub zenith-north-mirrored : zenith_north (neg_ℤ s) c o' ≡ neg_ℤ (zenith_north s c o)
  unfolding zenith_north
  zenith-north-mirrored =
      let q = near (c *ℤ o.hcosine) one in
      ap (λ (z : ℤ). near z one) (ring (s ∷ o.dcosine ∷ q ∷ o.dsine ∷ []) (opp v0 ⊗ v1 ⊖ v2 ⊗ opp v3) (opp (v0 ⊗ v1 ⊖ v2 ⊗ v3)) tt)
      ∙ near-opposite (s *ℤ o.dcosine -ℤ q *ℤ o.dsine) one (le_z_yes tt)

-- ---- of an occultation
orientation_turned : (m : Moment) → orientation_of (mirrored_moment m) ≡ mirrored_orientation (orientation_of m)
unfolding H
orientation_turned m =
    let e = quadratic-opposite m.axis.d m.τ in
    rw (ap sine e ∙ sine-opposite (d m), ap cosine e ∙ cosine-opposite (d m))

module _ (o : Occultation) (τ : ℤ) where
  abbrev mirror : Occultation
  mirror = mirrored_occultation neg_ℤ o

  pub orientation-mirrored : orientation_at mirror τ ≡ mirrored_orientation (orientation_at o τ)
  orientation-mirrored = ap (λ (m : Moment). orientation_of m) (moment_mirrored o τ) ∙ orientation_turned (moment_at o τ)

  -- the altitude is the same
  pub altitude-mirrored : (horizon_at mirror τ).altitude ≡ (horizon_at o τ).altitude
  unfolding horizon_at
  altitude-mirrored =
      rw (orientation-mirrored, sine-opposite o.station.latitude, cosine-opposite o.station.latitude)
      (ap (λ (z : ℤ). altitude S (kept z)) (altitude-sine-mirrored (sine o.station.latitude) (cosine o.station.latitude) (orientation_at o τ)))

  -- the azimuths add up to 1799 modulo 3600, or to 1800 where the axis lies exactly on a tenth; or both are 65,535
  pub azimuth-mirrored : Mirrored (horizon_at o τ).azimuth (horizon_at mirror τ).azimuth
  unfolding horizon_at
  azimuth-mirrored =
      let s = sine o.station.latitude in
      let c = cosine o.station.latitude in
      rw (
        orientation-mirrored,
        sine-opposite o.station.latitude,
        cosine-opposite o.station.latitude,
        east-mirrored s c (orientation_at o τ),
        north-mirrored s c (orientation_at o τ),
      )
      (direction-mirrored S rising (east (orientation_at o τ)) (north s c (orientation_at o τ)))

  -- so do the directions of the zenith
  pub zenith-mirrored : Mirrored (horizon_at o τ).zenith (horizon_at mirror τ).zenith
  unfolding horizon_at
  zenith-mirrored =
      let s = sine o.station.latitude in
      let c = cosine o.station.latitude in
      rw (
        orientation-mirrored,
        sine-opposite o.station.latitude,
        cosine-opposite o.station.latitude,
        zenith-east-mirrored s c (orientation_at o τ),
        zenith-north-mirrored s c (orientation_at o τ),
      )
      (direction-mirrored S rising (zenith_east c (orientation_at o τ)) (zenith_north s c (orientation_at o τ)))

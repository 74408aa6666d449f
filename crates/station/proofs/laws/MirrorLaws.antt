-- Laws of the mirrored station.
--   R-opposite, P-opposite   at the opposite latitude R is the same and P the opposite
--   place_mirrored           so its place is the mirrored place
--   mirrored_range           a range treats the mirrored station as it treats the station
--   mirrored_alike           in its range all ways of changing the latitude's sign give the same station
use Rattle.std.specs.Prelude.{◌≡◌, [], ◌∷◌, ℕ, ◌≤◌, ℤ, neg_ℤ, nat_abs, ◌+ℤ◌, ◌*ℤ◌}
use Rattle.std.proofs.Common.{ap, ap₂, ◌∙◌, arith}
use Rattle.std.specs.Int.Signed.{le_z_yes}
use Rattle.rounding.specs.Limits.{◌±◌, out_of_range, first_out_of_range}
use Rattle.rounding.specs.laws.Ring.{◌⊕◌, ◌⊗◌, opp, ring, v0, v1, v2}
use Rattle.rounding.specs.Units.{one}
use Rattle.rounding.specs.Near.{near}
use Rattle.rounding.proofs.laws.NearLaws.{near-opposite}
use Rattle.sine.specs.Sine.{sine, cosine}
use Rattle.sine.specs.laws.OppositeLaws.{sine-opposite, cosine-opposite}
use Rattle.station.specs.declared.Station.{Station}
use Rattle.station.specs.Station.{ranges, range_of}
use Rattle.station.specs.Place.{E, under, W, C, Z, h, R, P, ephemeris_longitude, place_of}
use Rattle.station.specs.Sizes.{StationSizes}
use Rattle.station.specs.Mirror.{mirrored_station, mirrored_place}

-- ---- near of a product with one factor's sign changed
near-product : (a b : ℤ) → near (a *ℤ neg_ℤ b) one ≡ neg_ℤ (near (a *ℤ b) one)
near-product a b = ap (λ (z : ℤ). near z one) (ring (a ∷ b ∷ []) (v0 ⊗ opp v1) (opp (v0 ⊗ v1)) tt) ∙ near-opposite (a *ℤ b) one (le_z_yes tt)

-- ---- the spheroid: nothing but s changes sign
under-opposite : (s c : ℤ) → under (neg_ℤ s) c ≡ under s c
unfolding under
under-opposite s c =
    ap (λ (z : ℤ). c *ℤ c +ℤ near z one *ℤ neg_ℤ s) (ring (s ∷ E ∷ []) (opp v0 ⊗ v1) (opp (v0 ⊗ v1)) tt)
    ∙ ap (λ (z : ℤ). c *ℤ c +ℤ z *ℤ neg_ℤ s) (near-opposite (s *ℤ E) one (le_z_yes tt))
    ∙ ring (c ∷ near (s *ℤ E) one ∷ s ∷ []) (v0 ⊗ v0 ⊕ opp v1 ⊗ opp v2) (v0 ⊗ v0 ⊕ v1 ⊗ v2) tt

C_opposite : (s c : ℤ) → C (neg_ℤ s) c ≡ C s c
unfolding C W
C_opposite s c = rw (under-opposite s c)

Z_opposite : (s c : ℤ) → Z (neg_ℤ s) c ≡ Z s c
unfolding Z
Z_opposite s c = rw (C_opposite s c)

module _ (latitude height : ℤ) where
  pub R-opposite : R (neg_ℤ latitude) height ≡ R latitude height
  unfolding R
  R-opposite = rw (sine-opposite latitude, cosine-opposite latitude, C_opposite (sine latitude) (cosine latitude))

  pub P-opposite : P (neg_ℤ latitude) height ≡ neg_ℤ (P latitude height)
  unfolding P
  P-opposite =
      rw (sine-opposite latitude, cosine-opposite latitude, Z_opposite (sine latitude) (cosine latitude))
      (near-product (Z (sine latitude) (cosine latitude) +ℤ h height) (sine latitude))

pub place_mirrored : (s : Station) → place_of (mirrored_station neg_ℤ s) ≡ mirrored_place (place_of s)
unfolding place_of
place_mirrored s =
    ap₂ (λ (r p : ℤ). record { r = r; p = p; longitude = ephemeris_longitude s.longitude s.deltat }) (R-opposite s.latitude s.height) (P-opposite s.latitude s.height)

-- ---- ranges
pub mirrored_range : (f : ℤ → ℤ) → ((z : ℤ) (n : ℕ) → out_of_range (f z ± n) ≡ out_of_range (z ± n)) → (s : Station) → range_of (mirrored_station f s) ≡ range_of s
unfolding range_of ranges first_out_of_range
mirrored_range f h s = rw (h s.latitude 90000000)

pub mirrored_alike : (f g : ℤ → ℤ) → ((z : ℤ) → nat_abs z ≤ 200000000 → f z ≡ g z) → (s : Station) → StationSizes s → mirrored_station f s ≡ mirrored_station g s
mirrored_alike f g h s z = rw (h s.latitude (omega (arith, z.latitude)))

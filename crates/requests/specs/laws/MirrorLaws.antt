-- Laws of the mirror of a request.
--   opposite-is, opposite-keeps   the opposite of a number up to `most`, any other
--   opposite_twice, opposite-size back again; of the same size
--   checked_mirrored                  the mirror is refused as the first is, and within the limits if the first is
--   request_twice, mirrored_twice     taken twice it gives the first back
--   request-mirrored, mirrored-is     within the limits the signs are changed
use Rattle.std.specs.Prelude.{◌≡◌, refl, Bool, cond, ℕ, ◌≤◌, ◌<◌, leb, ℤ, neg_ℤ, nat_abs}
use Rattle.std.proofs.Math.Bool.{true, false}
use Rattle.std.proofs.Common.{arith, le-leb}
use Rattle.std.proofs.lemmas.Bool.{lt-leb}
use Rattle.std.proofs.Math.IntN.{neg_ℤ-neg_ℤ}
use Rattle.rounding.specs.Limits.{◌±◌, out_of_range}
use Rattle.rounding.specs.laws.LimitsLaws.{range_opposite}
use Rattle.rounding.specs.laws.Order.{nat_abs_opposite}
use Rattle.elements.specs.laws.MirrorLaws as E
use Rattle.station.proofs.laws.MirrorLaws as S
use Rattle.requests.specs.declared.Request.{Request}
use Rattle.requests.specs.declared.Occultation.{Occultation}
use Rattle.requests.specs.Requests.{of_eclipse, checked}
use Rattle.requests.specs.RequestLaws.{InLimits}
use Rattle.requests.specs.Mirror.{mirrored_request, mirrored_occultation, opposite}

-- ---- one number
module _ (most : ℕ) (z : ℤ) where
  pub opposite-is : nat_abs z ≤ most → opposite most z ≡ neg_ℤ z
  unfolding opposite
  opposite-is h = rw (le-leb (nat_abs z) most h)

  pub opposite-keeps : most < nat_abs z → opposite most z ≡ z
  unfolding opposite
  opposite-keeps h = rw (lt-leb (nat_abs z) most h)

  -- what holds of the opposite and of the number itself holds of what it is
  either : (P : ℤ → Type 0) → P (neg_ℤ z) → P z → P (opposite most z)
  unfolding opposite
  either P a b = by (leb (nat_abs z) most)
    where
      by : (t : Bool) → P (cond t (neg_ℤ z) z)
      by true = a
      by false = b

  pub opposite-size : nat_abs (opposite most z) ≡ nat_abs z
  opposite-size = either (λ (x : ℤ). nat_abs x ≡ nat_abs z) (nat_abs_opposite z) refl

  pub opposite-range : (n : ℕ) → out_of_range (opposite most z ± n) ≡ out_of_range (z ± n)
  opposite-range n = either (λ (x : ℤ). out_of_range (x ± n) ≡ out_of_range (z ± n)) (range_opposite z n) refl

pub opposite_twice : (most : ℕ) (z : ℤ) → opposite most (opposite most z) ≡ z
unfolding opposite
opposite_twice most z = by (leb (nat_abs z) most) refl
  where
    by : (t : Bool) → leb (nat_abs z) most ≡ t → opposite most (cond t (neg_ℤ z) z) ≡ z
    by true e = rw (nat_abs_opposite z, e) (neg_ℤ-neg_ℤ z)
    by false e = rw e

-- ---- a request, and what it asks for
pub checked_mirrored : (most : ℕ) (o : Occultation) → checked (mirrored_occultation (opposite most) o) ≡ checked o
unfolding checked
checked_mirrored most o =
    rw (E.mirrored-checked (opposite most) (opposite-range most) o.body, S.mirrored_range (opposite most) (opposite-range most) o.station)

pub request_twice : (most : ℕ) (q : Request) → mirrored_request (opposite most) (mirrored_request (opposite most) q) ≡ q
request_twice most q = rw (E.elements-twice (opposite most) (opposite_twice most) q.elements, opposite_twice most q.station.latitude)

pub mirrored_twice : (most : ℕ) (o : Occultation) → mirrored_occultation (opposite most) (mirrored_occultation (opposite most) o) ≡ o
mirrored_twice most o = rw (E.body_twice (opposite most) (opposite_twice most) o.body, opposite_twice most o.station.latitude)

-- within the limits the signs are changed, up to any `most`
module _ (most : ℕ) (m : 200000000 ≤ most) where
  is-opposite : (z : ℤ) → nat_abs z ≤ 200000000 → opposite most z ≡ neg_ℤ z
  is-opposite z h = opposite-is most z (omega arith)

  pub request-mirrored : (q : Request) → InLimits (of_eclipse q) → mirrored_request (opposite most) q ≡ mirrored_request neg_ℤ q
  request-mirrored q i =
      rw (E.mirrored_alike (opposite most) neg_ℤ is-opposite q.elements i.body, S.mirrored_alike (opposite most) neg_ℤ is-opposite q.station i.station)

  pub mirrored-is : (o : Occultation) → InLimits o → mirrored_occultation (opposite most) o ≡ mirrored_occultation neg_ℤ o
  mirrored-is o i =
      rw (E.body_alike (opposite most) neg_ℤ is-opposite o.body i.body, S.mirrored_alike (opposite most) neg_ℤ is-opposite o.station i.station)

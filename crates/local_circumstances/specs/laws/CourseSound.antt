-- The course of an occultation within its limits is sound.
use Rattle.std.specs.Prelude.{◌≤◌, ◌≡◌, refl, Bool, false, ℤ, nat_abs}
use Rattle.std.proofs.Common.{arith}
use Rattle.rounding.specs.laws.Order.{≤-parts, nat_abs_parts, nat_abs_between}
use Rattle.sheet_types.specs.declared.phases.Phase.{Phase}
use Rattle.sheet_types.specs.declared.phases.Phase.TheVariants.{Star}
use Rattle.sheet_types.specs.Phases.{Listed, times}
use Rattle.sheet_types.specs.laws.PhaseLaws.{once_in_eclipse, once_in_star}
use Rattle.elements.specs.declared.Body.{Body}
use Rattle.elements.specs.declared.Body.TheVariants as B
use Rattle.elements.specs.StarLaws.{BodySizes}
use Rattle.station.specs.declared.Place.{Place}
use Rattle.station.specs.Place.{place_of}
use Rattle.shadow_geometry.specs.Shadow.{phases_of}
use Rattle.requests.specs.declared.Occultation.{Occultation}
use Rattle.requests.specs.WindowLaws.{in-window-size}
use Rattle.requests.specs.RequestLaws.{InLimits, guard_size}
use Rattle.requests.specs.Shares.{sharing_of, sharing}
use Rattle.seconds.specs.Seconds.{magnitude_of, magnitude_at}
use Rattle.seconds.proofs.laws.SecondLaws.{placed, direction_small, magnitude-small, closest-within}
use Rattle.obscuration.proofs.laws.CoveredLaws.{share-limit}
use Rattle.local_circumstances.specs.Sound.{InOrder, Sound}
use Rattle.local_circumstances.specs.laws.SheetLaws.{eclipse_in_order, star_in_order, no_star_in_eclipse}
use Rattle.local_circumstances.specs.Course.{share_of, course_of}

module _ (o : Occultation) (i : InLimits o) where
  number_small : (1 ≤ nat_abs o.station.number) × (nat_abs o.station.number ≤ 999)
  number_small =
      let s = i.station.number in (
        omega (arith, nat_abs_parts o.station.number, ≤-parts s.0, ≤-parts s.1),
        nat_abs_between o.station.number 1 s.0 s.1,
      )

  -- the phases of either body, once each, in their order
  phases-once : (b : Body) (φ : Phase) → Listed φ (phases_of b) → times φ (phases_of b) ≡ 1
  phases-once (B.Sun e) φ l = once_in_eclipse φ l
  phases-once (B.Star s) φ l = once_in_star φ l

  phases-ordered : (b : Body) → InOrder (phases_of b)
  phases-ordered (B.Sun e) = eclipse_in_order
  phases-ordered (B.Star s) = star_in_order

  share-small : (b : Body) → BodySizes b → (τ : ℤ) → nat_abs τ ≤ 10800 → share_of b (place_of o.station) τ ≤ 1000000
  share-small (B.Sun e) z τ h = share-limit e z (place_of o.station) (placed o i) τ h
  share-small (B.Star s) z τ h = omega arith

  -- what a star's sheet has none of
  unshared : (b : Body) → Listed Star (phases_of b) → (asked : Bool) → sharing_of b asked ≡ false
  unshared (B.Sun e) l asked = absurd (no_star_in_eclipse l)
  unshared (B.Star s) l asked = refl

  no-magnitude : (b : Body) → Listed Star (phases_of b) → (g : ℤ) (p : Place) (τ : ℤ) → magnitude_of g b p τ ≡ 0
  no-magnitude (B.Sun e) l g p τ = absurd (no_star_in_eclipse l)
  no-magnitude (B.Star s) l g p τ = refl

  pub sound : Sound (course_of o)
  unfolding sharing magnitude_at
  sound =
      record {
        station = number_small;
        window = i.window;
        guard = guard_size i.guard;
        once = phases-once o.body;
        order = phases-ordered o.body;
        direction = direction_small o;
        closest = closest-within o i;
        magnitude = λ τ w. magnitude-small o i τ (in-window-size o.window i.window τ w);
        share = λ τ w. share-small o.body i.body τ (in-window-size o.window i.window τ w);
        star_unshared = λ l. unshared o.body l o.share;
        star-magnitude = λ l. no-magnitude o.body l o.guard (place_of o.station) _;
      }

-- What callers use of the share at a second of an eclipse within its limits.
--   share-at         the definition, as an equation
--   sizes-at         L1, L2 and M are within the sizes of `share`
--   total-at         under any guard: where the total phase is sure the share is 1,000,000
--   none-at          under any guard: where the penumbra is surely left it is 0
--   share-limit      it is at most 1,000,000
--   share_means, all_means   so under the request's guard
use Rattle.std.specs.Prelude.{◌≡◌, refl, ◌≤◌, ℤ, pos, nat_abs, ◌≤ℤ◌, ◌<ℤ◌}
use Rattle.std.proofs.Common.{sym, ◌∙◌, arith}
use Rattle.std.specs.Int.Signed.{le_z_yes}
use Rattle.rounding.specs.laws.Order.{zs, ≤ℤ_trans, nat_abs_parts}
use Rattle.sheet_types.specs.States.{inside, outside}
use Rattle.sheet_types.specs.declared.phases.Phase.TheVariants.{Penumbra, Central}
use Rattle.obscuration.specs.Share.{share, Sizes}
use Rattle.obscuration.specs.Holds.{ShareHolds}
use Rattle.obscuration.specs.laws.ShareLaws.{share_holds}
use Rattle.elements.specs.declared.Elements.{Elements}
use Rattle.elements.specs.declared.Body.TheVariants as B
use Rattle.elements.specs.Sizes.{ElementSizes}
use Rattle.station.specs.declared.Place.{Place}
use Rattle.station.specs.Place.{place_of}
use Rattle.station.specs.Sizes.{PlaceSizes}
use Rattle.shadow_geometry.specs.Shadow.{Moment, moment, L, M}
use Rattle.shadow_geometry.specs.laws.Ranges.{MomentSizes}
use Rattle.shadow_geometry.proofs.laws.Sizes.{M-size, M_nonneg, L-size, L1-positive}
use Rattle.shadow_geometry.proofs.laws.StateLaws.{state-says}
use Rattle.shadow.specs.Second as Shadow
use Rattle.shadow.specs.laws.SecondLaws.{state-at, moment-sizes}
use Rattle.requests.specs.declared.Request.{Request}
use Rattle.requests.specs.Requests.{of_eclipse}
use Rattle.requests.specs.WindowLaws.{in-window-size}
use Rattle.requests.specs.RequestLaws.{InLimits}
use Rattle.seconds.specs.Seconds.{state_at}
use Rattle.seconds.proofs.laws.SecondLaws.{placed}
use Rattle.obscuration.specs.Covered.{share_at, share_of, ShareMeans, AllMeans}

pub share-at : (e : Elements) (p : Place) (τ : ℤ)
    → share_at e p τ ≡ share (L (moment e p τ) e.penumbra) (L (moment e p τ) e.central) (M (moment e p τ))
unfolding share_at
share-at e p τ = refl

module _ (e : Elements) (z : ElementSizes e) (p : Place) (i : PlaceSizes p) (τ : ℤ) (h : nat_abs τ ≤ 10800) where
  abbrev m : Moment
  m = moment e p τ

  abbrev L1 : ℤ
  L1 = L m e.penumbra

  abbrev L2 : ℤ
  L2 = L m e.central

  sized : MomentSizes m
  sized = moment-sizes e z p i τ h

  pub sizes-at : Sizes L1 L2 (M m)
  sizes-at =
      record {
        low = low;
        high = omega (arith, zs, nat_abs_parts L1, L-size m sized e.penumbra z.penumbra, low);
        central = L-size m sized e.central z.central;
        square = M_nonneg m;
        far = omega (arith, M-size m sized);
      }
    where
      low : pos 48860000 ≤ℤ L1
      low = L1-positive m sized e.penumbra z.penumbra z.low

  holds : ShareHolds L1 L2 (M m)
  holds = share_holds L1 L2 (M m) sizes-at

  pub share-limit : share_at e p τ ≤ 1000000
  share-limit = rw (share-at e p τ) holds.limit

  -- what the states say is what the share asks
  module _ (g : ℤ) (not_below : pos 0 ≤ℤ g) where
    pub total-at : L2 <ℤ pos 0 → Shadow.state_at g (B.Sun e) p Central τ ≡ inside → share_at e p τ ≡ 1000000
    unfolding share_at
    total-at below is =
        let s = state-says g (pos (nat_abs L2)) (M m) (sym (state-at g (B.Sun e) p Central τ) ∙ is) in
        holds.total g not_below (record { total = below; over = s.0; inside = s.1 })

    pub none-at : Shadow.state_at g (B.Sun e) p Penumbra τ ≡ outside → share_at e p τ ≡ 0
    unfolding share_at
    none-at is =
        let s = state-says g L1 (M m) (sym (state-at g (B.Sun e) p Penumbra τ) ∙ is) in
        holds.outside g not_below s.1

pub share_means : (q : Request) → InLimits (of_eclipse q) → (τ : ℤ) → nat_abs τ ≤ 10800 → ShareMeans q τ (share_of q τ)
unfolding state_at
share_means q i τ h =
    let e = q.elements in
    let p = place_of q.station in
    let there = placed (of_eclipse q) i in
    let g = ≤ℤ_trans (le_z_yes tt) i.guard.low in
    record {
      limit = share-limit e i.body p there τ h;
      total = total-at e i.body p there τ h q.guard g;
      none = none-at e i.body p there τ h q.guard g;
    }

pub all_means : AllMeans
all_means q i τ w = share_means q i τ (in-window-size q.window i.window τ w)

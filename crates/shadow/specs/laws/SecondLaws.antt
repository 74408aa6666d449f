-- What callers use of a second within the ranges.
--   state-at, magnitude-at, direction-at   the definitions, as equations
--   moment-sizes                           its numbers are within the sizes of shadow_geometry's laws (its page Sizes)
--   shadow-sizes, L1-over, L2-within       as the code of states, magnitude and direction asks
--   magnitude-most, direction-near         "It never exceeds 1,300,000"; at most 3599, or 65,535
--   states-true                            for every guard from 13 on the states are true of the exact values
--   sure-under-less                        what is sure under a guard is sure, with the same answer, under every smaller one
--   phases_few                             a shadow has at most two phases
--   states_of_second                       the states of a shadow that is the second's
--   eclipse_sample, star_sample            the shadow in its phases, of an eclipse and of a star
--   edge-size                              where the edge of a phase is: the size of L
use Rattle.std.specs.Prelude.{◌≡◌, refl, [], ◌∷◌, ◌⊎◌, ℕ, zero, suc, ◌≤◌, ◌<◌, ℤ, pos, nat_abs, ◌+ℤ◌, ◌*ℤ◌, length, ◌≤ℤ◌, ◌<ℤ◌}
use Rattle.std.proofs.Common.{sym, subst, ◌∙◌, ap, ap₂, arith, lit≤}
use Rattle.sheet_types.specs.States.{State, unsure, code}
use Rattle.sheet_types.specs.declared.phases.Phase.{Phase}
use Rattle.sheet_types.specs.declared.phases.Phase.TheVariants.{Penumbra, Central, Star}
use Rattle.rounding.specs.Parts.{same, sum}
use Rattle.rounding.specs.Value.{Value}
use Rattle.rounding.specs.laws.Order.{zs, nonneg, nat_abs_parts, nat_abs_between}
use Rattle.rounding.specs.laws.Ring.{num, ◌⊕◌, ring, v0}
use Rattle.sine_table.specs.Table.{S}
use Rattle.elements.specs.declared.Axis.{Axis}
use Rattle.elements.specs.declared.Elements.{Elements}
use Rattle.elements.specs.declared.Star as Occulted
use Rattle.elements.specs.declared.Body.{Body}
use Rattle.elements.specs.declared.Body.TheVariants as B
use Rattle.elements.specs.Sizes.{ElementSizes}
use Rattle.elements.specs.Stars.{star_axis, cylinder_of, axis_of}
use Rattle.elements.specs.StarLaws.{StarSizes, BodySizes}
use Rattle.station.specs.declared.Place.{Place}
use Rattle.station.specs.Sizes.{PlaceSizes}
use Rattle.shadow_geometry.specs.Shadow.{Moment, moment_of, moment, phases_of, cone, u, v, L, M, edge, state}
use Rattle.shadow_geometry.specs.laws.Ranges.{MomentSizes}
use Rattle.shadow_geometry.proofs.laws.Sizes.{u-size, v-size, M-size, L-size}
use Rattle.shadow_geometry.proofs.laws.StateLaws.{guard-monotone}
use Rattle.shadow_geometry.proofs.laws.StateMeaning.{penumbra_sign, central_sign, states_mean}
use Rattle.shadow_geometry.proofs.laws.States.{StatesMean}
use Rattle.shadow_geometry.proofs.Thirteen.{Thirteen, thirteen}
use Rattle.shadow_geometry.specs.laws.Cylinder.{cylinder_L}
use Rattle.shadow_geometry.specs.Magnitude.{magnitude}
use Rattle.shadow_geometry.proofs.laws.MagnitudeLaws.{L1-above, L2-narrow, magnitude-within}
use Rattle.shadow_geometry.specs.Direction.{direction}
use Rattle.shadow_geometry.specs.laws.DirectionLaws.{direction-limit}
use Rattle.shadow.specs.declared.Shadow.{Shadow}
use Rattle.shadow.specs.Shadow.{IsShadow}
use Rattle.shadow.specs.declared.States.{States}
use Rattle.shadow.specs.declared.Sample.{Sample}
use Rattle.shadow.specs.Second.{state_at, magnitude_at, direction_at, ShadowSizes, StatesOf, IsStates, phase_in, radius_in, IsSample}

pub state-at : (guard : ℤ) (b : Body) (p : Place) (φ : Phase) (τ : ℤ)
    → state_at guard b p φ τ ≡ state guard (edge φ (L (moment_of (axis_of b) p τ) (cone b φ))) (M (moment_of (axis_of b) p τ))
unfolding state_at
state-at guard b p φ τ = refl

pub magnitude-at : (guard : ℤ) (e : Elements) (p : Place) (τ : ℤ)
    → magnitude_at guard e p τ
    ≡ magnitude (state_at guard (B.Sun e) p Central τ) (L (moment e p τ) e.penumbra) (L (moment e p τ) e.central) (M (moment e p τ))
unfolding magnitude_at
magnitude-at guard e p τ = refl

pub direction-at : (a : Axis) (p : Place) (τ : ℤ) → direction_at a p τ ≡ direction S (u (moment_of a p τ)) (v (moment_of a p τ))
unfolding direction_at
direction-at a p τ = refl

pub direction-near : (a : Axis) (p : Place) (τ : ℤ) → (direction_at a p τ ≤ 3599) ⊎ (direction_at a p τ ≡ 65535)
unfolding direction_at
direction-near a p τ = direction-limit S (u (moment_of a p τ)) (v (moment_of a p τ))

-- a shadow has a phase, and at most two
pub phases_few : (b : Body) → length (phases_of b) ≤ 2
phases_few (B.Sun e) = omega arith
phases_few (B.Star s) = omega arith

module _ (e : Elements) (z : ElementSizes e) (p : Place) (i : PlaceSizes p) (τ : ℤ) (h : nat_abs τ ≤ 10800) where
  abbrev m : Moment
  m = moment e p τ

  pub moment-sizes : MomentSizes m
  moment-sizes = record { axis = z.axis; place = i; τ = h }

  -- what the magnitude's code asks
  pub L1-over : pos 0 <ℤ L m e.penumbra
  L1-over = L1-above m moment-sizes e.penumbra e.central z.penumbra z.low z.central

  pub L2-within : (pos 23 *ℤ pos (nat_abs (L m e.central))) ≤ℤ (pos 3 *ℤ L m e.penumbra)
  L2-within = L2-narrow m moment-sizes e.penumbra e.central z.penumbra z.low z.central

  pub magnitude-most : (guard : ℤ) → magnitude_at guard e p τ ≤ 1300000
  unfolding magnitude_at
  magnitude-most guard = magnitude-within m moment-sizes e.penumbra e.central z.penumbra z.low z.central (state_at guard (B.Sun e) p Central τ) (M m)

  pub shadow-sizes : {s : Shadow} → IsShadow e p τ s → ShadowSizes s
  shadow-sizes j =
      record {
        u = omega (arith, ap nat_abs j.u, u-size m moment-sizes);
        v = omega (arith, ap nat_abs j.v, v-size m moment-sizes);
        l1 = omega (arith, ap nat_abs j.l1, L-size m moment-sizes e.penumbra z.penumbra);
        l2 = omega (arith, ap nat_abs j.l2, L-size m moment-sizes e.central z.central);
        m = omega (arith, ap nat_abs j.m, M-size m moment-sizes);
      }

-- ---- either body where L and a guard are together not negative: L1 is above 0, the size of L2 is not negative, and a
-- star's L is its radius
edge_sign : (b : Body) → BodySizes b → (p : Place) → PlaceSizes p → (τ : ℤ) → nat_abs τ ≤ 10800 → (φ : Phase) (f : ℤ) → pos 0 ≤ℤ f
    → pos 0 ≤ℤ (edge φ (L (moment_of (axis_of b) p τ) (cone b φ)) +ℤ f)
edge_sign (B.Sun e) z p i τ h Penumbra f low = penumbra_sign (moment e p τ) (moment-sizes e z p i τ h) e.penumbra z.penumbra z.low f low
edge_sign (B.Sun e) z p i τ h Central f low = central_sign (L (moment e p τ) e.central) f low
edge_sign (B.Sun e) z p i τ h Star f low = penumbra_sign (moment e p τ) (moment-sizes e z p i τ h) e.penumbra z.penumbra z.low f low
edge_sign (B.Star s) z p i τ h φ f low = rw (cylinder_L (moment_of (star_axis s) p τ) s) (by φ)
  where
    by : (φ : Phase) → pos 0 ≤ℤ (edge φ s.radius +ℤ f)
    by Penumbra = omega (arith, zs, z.low, (sum s.radius f).is)
    by Central = central_sign s.radius f low
    by Star = omega (arith, zs, z.low, (sum s.radius f).is)

-- a tangent is at most 0.005, a cylinder's 0
pub tangent_small : (b : Body) → BodySizes b → (φ : Phase) → nat_abs (cone b φ).tanf ≤ 500000
tangent_small (B.Sun e) z Penumbra = z.penumbra.tanf
tangent_small (B.Sun e) z Central = z.central.tanf
tangent_small (B.Sun e) z Star = z.penumbra.tanf
tangent_small (B.Star s) z φ = lit≤ tt

module _ (b : Body) (z : BodySizes b) (p : Place) (i : PlaceSizes p) (τ : ℤ) (h : nat_abs τ ≤ 10800) where
  abbrev there : Moment
  there = moment_of (axis_of b) p τ

  -- the states are true of the exact values
  pub states-true : (guard : ℤ) → pos 13 ≤ℤ guard → (φ : Phase) → StatesMean guard φ there (cone b φ)
  states-true guard g φ = states_mean there h (cone b φ) (tangent_small b z φ) φ guard g (edge_sign b z p i τ h φ guard (omega (arith, zs)))

  -- "the distance less L, taken as a whole, within 13"
  pub distance-known : (φ : Phase) → Thirteen φ there (cone b φ)
  distance-known φ = thirteen there h (cone b φ) (tangent_small b z φ) φ

  -- "whatever second is sure under a guard is sure, with the same answer, under every smaller one"
  pub sure-under-less : (f g : ℤ) → pos 0 ≤ℤ f → f ≤ℤ g → (φ : Phase) (w : State) → (w ≡ unsure → ⊥) → state_at g b p φ τ ≡ w → state_at f b p φ τ ≡ w
  unfolding state_at
  sure-under-less f g low small φ w sure is =
      guard-monotone f g (edge φ (L there (cone b φ))) (M there) small low (edge_sign b z p i τ h φ f low) w sure is

-- ---- a second's states
-- the states of a shadow that is a second's are the second's
pub states_of_second : {guard : ℤ} {e : Elements} {p : Place} {τ : ℤ} {s : Shadow} {r : States} → IsShadow e p τ s → StatesOf guard s r → IsStates guard e p τ r
unfolding state_at
states_of_second {guard} {e} {p} {τ} j k =
    record {
      penumbra = k.penumbra ∙ ap₂ (λ (l n : ℤ). code (state guard l n)) j.l1 j.m;
      central = k.central ∙ ap₂ (λ (l n : ℤ). code (state guard (edge Central l) n)) j.l2 j.m;
      m = k.m ∙ j.m;
    }

-- ---- the shadow in its phases
-- an eclipse's, from its shadow
pub eclipse_sample : (e : Elements) → ElementSizes e → (p : Place) → PlaceSizes p → (τ : ℤ) → nat_abs τ ≤ 10800 → {s : Shadow} → IsShadow e p τ s
    → (r : Sample) → r.u ≡ s.u → r.v ≡ s.v → r.m ≡ s.m → r.first ≡ s.l1 → r.second ≡ s.l2 → IsSample (B.Sun e) p τ r
eclipse_sample e z p i τ h {s} j r eu ev em e1 e2 =
    let o = moment-sizes e z p i τ h in
    let n = moment e p τ in
    record {
      u = record { value = eu ∙ j.u; size = omega (arith, ap nat_abs (eu ∙ j.u), u-size n o) };
      v = record { value = ev ∙ j.v; size = omega (arith, ap nat_abs (ev ∙ j.v), v-size n o) };
      m = record { value = em ∙ j.m; size = omega (arith, ap nat_abs (em ∙ j.m), M-size n o) };
      radius = by;
    }
  where
    by : (k : ℕ) → k < 2 → Value (L (moment e p τ) (cone (B.Sun e) (phase_in (B.Sun e) k))) 600000000 (radius_in r k)
    by zero l = record { value = e1 ∙ j.l1; size = omega (arith, ap nat_abs (e1 ∙ j.l1), L-size (moment e p τ) (moment-sizes e z p i τ h) e.penumbra z.penumbra) }
    by (suc zero) l = record { value = e2 ∙ j.l2; size = omega (arith, ap nat_abs (e2 ∙ j.l2), L-size (moment e p τ) (moment-sizes e z p i τ h) e.central z.central) }
    by (suc (suc k)) l = absurd (omega arith)

-- a star's, from the axis and the radius
pub star_sample : (s : Occulted.Star) → StarSizes s → (p : Place) (τ : ℤ) (r : Sample)
    → Value (u (moment_of (star_axis s) p τ)) 602170000 r.u → Value (v (moment_of (star_axis s) p τ)) 703170000 r.v
    → Value (M (moment_of (star_axis s) p τ)) 1000000000000000000 r.m → r.first ≡ s.radius → r.second ≡ s.radius → IsSample (B.Star s) p τ r
star_sample s z p τ r hu hv hm e1 e2 = record { u = hu; v = hv; m = hm; radius = by }
  where
    is : (x : ℤ) → x ≡ s.radius → Value (L (moment_of (star_axis s) p τ) (cylinder_of s)) 600000000 x
    is x e =
        record {
          value = e ∙ sym (cylinder_L (moment_of (star_axis s) p τ) s);
          size = omega (arith, ap nat_abs e, nat_abs_between s.radius 27200000 z.low z.high);
        }

    by : (k : ℕ) → k < 2 → Value (L (moment_of (star_axis s) p τ) (cylinder_of s)) 600000000 (radius_in r k)
    by zero l = is r.first e1
    by (suc k) l = is r.second e2

-- where the edge is: the size of L, in every phase of either body
pub edge-size : (b : Body) → BodySizes b → (p : Place) → PlaceSizes p → (τ : ℤ) → nat_abs τ ≤ 10800 → (φ : Phase)
    → edge φ (L (moment_of (axis_of b) p τ) (cone b φ)) ≡ pos (nat_abs (L (moment_of (axis_of b) p τ) (cone b φ)))
edge-size b z p i τ h φ = by φ (L (moment_of (axis_of b) p τ) (cone b φ)) (edge_sign b z p i τ h φ (pos 0) (omega (arith, zs)))
  where
    natural : (x : ℤ) → pos 0 ≤ℤ (x +ℤ pos 0) → x ≡ pos (nat_abs x)
    natural x l =
        let h : pos 0 ≤ℤ x = subst (λ (z : ℤ). pos 0 ≤ℤ z) (ring (x ∷ []) (v0 ⊕ num 0) v0 tt) l in
        sym (same (pos (nat_abs x)) x (omega (arith, nat_abs_parts x, nonneg h)))

    by : (φ : Phase) (x : ℤ) → pos 0 ≤ℤ (edge φ x +ℤ pos 0) → edge φ x ≡ pos (nat_abs x)
    by Penumbra x l = natural x l
    by Central x l = refl
    by Star x l = natural x l

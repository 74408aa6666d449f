-- What the states of a second mean, in each phase: of any shadow, and within the ranges (States has the three steps).
use Rattle.std.specs.Prelude.{ℕ, ◌≤◌, ℤ, pos, nat_abs, ◌+ℤ◌, ◌≤ℤ◌}
use Rattle.std.proofs.Common.{arith}
use Rattle.rounding.specs.Parts.{sum}
use Rattle.rounding.specs.laws.Order.{zs}
use Rattle.sheet_types.specs.declared.phases.Phase.{Phase}
use Rattle.sheet_types.specs.declared.phases.Phase.TheVariants.{Penumbra, Central}
use Rattle.elements.specs.declared.Cone.{Cone}
use Rattle.elements.specs.Sizes.{ConeSizes}
use Rattle.shadow_geometry.specs.Shadow.{Moment, L, edge}
use Rattle.shadow_geometry.specs.laws.ExactLaws.{least_not_less}
use Rattle.shadow_geometry.specs.laws.Ranges.{MomentSizes}
use Rattle.shadow_geometry.proofs.laws.Sizes.{L1-positive}
use Rattle.shadow_geometry.proofs.Thirteen.{approximate}
use Rattle.shadow_geometry.proofs.laws.States.{StatesMean, inside-less, outside-least, unsure-near}

-- ---- of a second
-- the size of L2 is not negative, with any guard
pub central_sign : (l g : ℤ) → pos 0 ≤ℤ g → pos 0 ≤ℤ (edge Central l +ℤ g)
central_sign l g h = omega (arith, zs, (sum (pos (nat_abs l)) g).is)

-- within the ranges L1 is above 0
pub penumbra_sign : (m : Moment) → MomentSizes m → (k : Cone) {c : ℕ} → ConeSizes c k → pos 50000000 ≤ℤ k.l.c0 → (g : ℤ) → pos 0 ≤ℤ g
    → pos 0 ≤ℤ (edge Penumbra (L m k) +ℤ g)
penumbra_sign m h k s low g i = omega (arith, zs, L1-positive m h k s low, (sum (L m k) g).is)

-- any axis, any place, any cone or cylinder: where L and the guard together are not negative, the states mean what
-- they say
pub states_mean : (m : Moment) → nat_abs m.τ ≤ 10800 → (k : Cone) → nat_abs k.tanf ≤ 500000 → (φ : Phase) (g : ℤ) → pos 13 ≤ℤ g
    → pos 0 ≤ℤ (edge φ (L m k) +ℤ g) → StatesMean g φ m k
states_mean m t k f φ g i s =
    let a = approximate m t k f φ in
    record {
      inside_is = λ e. inside-less a g i e;
      outside-is = λ e. least_not_less (outside-least a g i e);
      unsure-is = λ e. unsure-near a g s e;
    }

-- ---- the two phases within the ranges
module _ (m : Moment) (h : MomentSizes m) (k : Cone) {c : ℕ} (s : ConeSizes c k) (g : ℤ) (i : pos 13 ≤ℤ g) where
  guarded : pos 0 ≤ℤ g
  guarded = omega (arith, zs)

  pub penumbra-means : pos 50000000 ≤ℤ k.l.c0 → StatesMean g Penumbra m k
  penumbra-means low = states_mean m h.τ k s.tanf Penumbra g i (penumbra_sign m h k s low g guarded)

  pub central-means : StatesMean g Central m k
  central-means = states_mean m h.τ k s.tanf Central g i (central_sign (L m k) g guarded)

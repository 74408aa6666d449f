-- L at a part of an hour is not negative where its constant is 1,400,000 or more, as the penumbra's and the Moon's
-- radius are (`L-positive`); so the edge of each phase and a guard are not (`edge_sign`).
use Rattle.std.specs.Prelude.{ℕ, ◌*◌, ◌≤◌, ℤ, pos, neg_ℤ, ◌+ℤ◌, ◌*ℤ◌, ◌≤ℤ◌}
use native.Mathlib.Omega.{arith}
use Rattle.std.proofs.Math.IntN.{nat_abs}
use Rattle.std.specs.Int.Signed.{le_z_yes}
use Rattle.sheet_types.specs.declared.phases.Phase.{Phase}
use Rattle.sheet_types.specs.declared.phases.Phase.TheVariants.{Penumbra, Central, Star}
use Rattle.rounding.specs.Parts.{sum, opposite}
use Rattle.rounding.specs.laws.Order.{zs, +ℤ_nonneg, nat_abs_parts, nat_abs_sum, nat_abs_product_le}
use Rattle.rounding.specs.Units.{one}
use Rattle.rounding.specs.Near.{near}
use Rattle.rounding.proofs.laws.NearLaws.{near-size}
use Rattle.sine.specs.Sine.{sine, cosine}
use Rattle.sine.specs.laws.SineLaws.{sine-size, cosine-size}
use Rattle.elements.specs.declared.Axis.{Axis}
use Rattle.elements.specs.declared.Cone.{Cone}
use Rattle.elements.specs.Sizes.{ConeSizes}
use Rattle.station.specs.declared.Place.{Place}
use Rattle.station.specs.Sizes.{PlaceSizes}
use Rattle.shadow_geometry.specs.Shadow.{Moment, H, d, q, ζ, L, edge}
use Rattle.contact_times.specs.Parts.{stepBy, quadratic_by, cone_by, moment_by}
use Rattle.contact_times.specs.laws.PartErrors.{still_quadratic, part-size, step-size}

natural_size : (z : ℤ) → pos 0 ≤ℤ pos (nat_abs z)
natural_size z = omega (arith, zs)

-- what a cone's constant must be for a phase: central's edge is a size, and never negative
abbrev pub LowFor : Cone → Phase → Type 0
LowFor k Penumbra = pos 1400000 ≤ℤ k.l.c0
LowFor k Central = Unit
LowFor k Star = pos 1400000 ≤ℤ k.l.c0

-- at any moment
module _ (m : Moment) (i : PlaceSizes m.place) where
  q-size : nat_abs (q m) ≤ 101000000
  unfolding q
  q-size =
      near-size (m.place.r *ℤ cosine (H m)) one 101000000 (le_z_yes tt)
      (nat_abs_product_le m.place.r (cosine (H m)) 101000000 100000000 i.r (cosine-size (H m)))

  ζ-size : nat_abs (ζ m) ≤ 202000000
  unfolding ζ
  ζ-size =
      near-size (m.place.p *ℤ sine (d m) +ℤ q m *ℤ cosine (d m)) one 202000000 (le_z_yes tt)
      (omega (
        arith,
        nat_abs_sum (m.place.p *ℤ sine (d m)) (q m *ℤ cosine (d m)),
        nat_abs_product_le m.place.p (sine (d m)) 101000000 100000000 i.p (sine-size (d m)),
        nat_abs_product_le (q m) (cosine (d m)) 101000000 100000000 q-size (cosine-size (d m)),
      ))

module _ (n : ℕ) (some : 1 ≤ n) (τ : ℤ) (t : nat_abs τ ≤ 3 * n) (a : Axis) (p : Place) (i : PlaceSizes p) (k : Cone) (s : ConeSizes 60000000 k) where
  abbrev m : Moment
  m = moment_by n a p τ

  pub L-positive : pos 1400000 ≤ℤ k.l.c0 → pos 0 ≤ℤ L m (cone_by n k τ)
  unfolding L quadratic_by stepBy
  L-positive low =
      let b = stepBy n τ k.l.c2 k.l.c1 in
      let x = near (b *ℤ τ) (pos n) in
      let e = near (ζ m *ℤ k.tanf) one in
      let hb = step-size n some τ k.l.c2 k.l.c1 10000 100000 t s.l.c2 s.l.c1 in
      let hx : nat_abs x ≤ 390000 = omega (arith, part-size n some τ b 130000 t (omega (arith, hb))) in
      let he : nat_abs e ≤ 1010000 = near-size (ζ m *ℤ k.tanf) one 1010000 (le_z_yes tt) (nat_abs_product_le (ζ m) k.tanf 202000000 500000 (ζ-size m i) s.tanf) in
      rw (still_quadratic (quadratic_by n k.l τ))
      (omega (arith, zs, low, nat_abs_parts x, nat_abs_parts e, hx, he, (sum x k.l.c0).is, (sum (x +ℤ k.l.c0) (neg_ℤ e)).is, (opposite e).is))

  pub edge_sign : (φ : Phase) → LowFor k φ → (g : ℤ) → pos 0 ≤ℤ g → pos 0 ≤ℤ (edge φ (L m (cone_by n k τ)) +ℤ g)
  edge_sign Penumbra low g h = +ℤ_nonneg (L-positive low) h
  edge_sign Central low g h = +ℤ_nonneg (natural_size (L m (cone_by n k τ))) h
  edge_sign Star low g h = +ℤ_nonneg (L-positive low) h

-- Elements in their ranges, as sizes: what the shadow's code and its errors lean on.
use Rattle.std.specs.Prelude.{◌≡◌, ℕ, ◌≤◌, pos, nat_abs, ◌≤ℤ◌, None}
use Rattle.std.proofs.Common.{arith, lit≤}
use Rattle.rounding.specs.Limits.{Row, row, ◌±◌}
use Rattle.rounding.specs.laws.LimitsLaws.{each_in_range}
use Rattle.rounding.specs.laws.Order.{nat_abs_le, nat_abs_between}
use Rattle.elements.specs.declared.Cubic.{Cubic}
use Rattle.elements.specs.declared.Quadratic.{Quadratic}
use Rattle.elements.specs.declared.Axis.{Axis}
use Rattle.elements.specs.declared.Cone.{Cone}
use Rattle.elements.specs.declared.Elements.{Elements}
use Rattle.elements.specs.Elements.{ranges, range_of}

-- x and y
pub record CubicSizes (c : Cubic) : Type 0 where
  pub c0 : nat_abs c.c0 ≤ 200000000
  pub c1 : nat_abs c.c1 ≤ 100000000
  pub c2 : nat_abs c.c2 ≤ 100000
  pub c3 : nat_abs c.c3 ≤ 10000

-- d, l and μ, each with its own
pub record QuadraticSizes (A B C : ℕ) (q : Quadratic) : Type 0 where
  pub c0 : nat_abs q.c0 ≤ A
  pub c1 : nat_abs q.c1 ≤ B
  pub c2 : nat_abs q.c2 ≤ C

-- an axis whose declination's constant is at most D
pub record AxisSizes (D : ℕ) (a : Axis) : Type 0 where
  pub x : CubicSizes a.x
  pub y : CubicSizes a.y
  pub d : QuadraticSizes D 20000 100 a.d
  pub mu : QuadraticSizes 359999999 15100000 100 a.mu

-- a cone whose radius's constant is at most A; a tangent of 0 makes it a cylinder
pub record ConeSizes (A : ℕ) (k : Cone) : Type 0 where
  pub l : QuadraticSizes A 100000 10000 k.l
  pub tanf : nat_abs k.tanf ≤ 500000

pub record ElementSizes (e : Elements) : Type 0 where
  pub axis : AxisSizes 25000000 e.axis
  pub penumbra : ConeSizes 60000000 e.penumbra
  pub central : ConeSizes 5000000 e.central
  -- the penumbra's radius is not near zero
  pub low : pos 50000000 ≤ℤ e.penumbra.l.c0

-- sizes that are wider
pub wider : {A B C D E F : ℕ} {q : Quadratic} → QuadraticSizes A B C q → A ≤ D → B ≤ E → C ≤ F → QuadraticSizes D E F q
wider h a b c = record { c0 = omega (arith, h.c0); c1 = omega (arith, h.c1); c2 = omega (arith, h.c2) }

pub wider_axis : {D E : ℕ} {a : Axis} → AxisSizes D a → D ≤ E → AxisSizes E a
wider_axis h l = record { x = h.x; y = h.y; d = wider h.d l (lit≤ tt) (lit≤ tt); mu = h.mu }

pub wider_cone : {A B : ℕ} {k : Cone} → ConeSizes A k → A ≤ B → ConeSizes B k
wider_cone h l = record { l = wider h.l l (lit≤ tt) (lit≤ tt); tanf = h.tanf }

-- ---- numbers that are in their ranges have these sizes
abbrev Ranged : Row → Type 0
Ranged r = (r.low ≤ℤ r.value) × (r.value ≤ℤ r.high)

-- x or y, and what follows it
pub position_sizes : (c : Cubic) {Rest : Type 0}
    → Ranged (c.c0 ± 200000000) × (Ranged (c.c1 ± 100000000) × (Ranged (c.c2 ± 100000) × (Ranged (c.c3 ± 10000) × Rest))) → CubicSizes c × Rest
position_sizes c w = (
  record {
    c0 = nat_abs_le c.c0 w.0.0 w.0.1;
    c1 = nat_abs_le c.c1 w.1.0.0 w.1.0.1;
    c2 = nat_abs_le c.c2 w.1.1.0.0 w.1.1.0.1;
    c3 = nat_abs_le c.c3 w.1.1.1.0.0 w.1.1.1.0.1;
  },
  w.1.1.1.1,
)

-- μ, and what follows it
pub hour-angle_sizes : (q : Quadratic) {Rest : Type 0}
    → Ranged (row q.c0 (pos 0) (pos 359999999)) × (Ranged (row q.c1 (pos 14900000) (pos 15100000)) × (Ranged (q.c2 ± 100) × Rest))
    → QuadraticSizes 359999999 15100000 100 q × Rest
hour-angle_sizes q w = (
  record {
    c0 = nat_abs_between q.c0 0 w.0.0 w.0.1;
    c1 = nat_abs_between q.c1 14900000 w.1.0.0 w.1.0.1;
    c2 = nat_abs_le q.c2 w.1.1.0.0 w.1.1.0.1;
  },
  w.1.1.1,
)

pub element_sizes : (e : Elements) → range_of e ≡ None → ElementSizes e
unfolding range_of ranges
element_sizes e w =
    let a = e.axis in
    let x = position_sizes a.x (each_in_range 0 (ranges e) w) in
    let y = position_sizes a.y x.1 in
    let d = y.1 in
    let l1 = d.1.1.1 in
    let l2 = l1.1.1.1 in
    let mu = hour-angle_sizes a.mu l2.1.1.1 in
    let tanf = mu.1 in
    record {
      axis = record {
        x = x.0;
        y = y.0;
        d = record {
          c0 = nat_abs_le a.d.c0 d.0.0 d.0.1;
          c1 = nat_abs_le a.d.c1 d.1.0.0 d.1.0.1;
          c2 = nat_abs_le a.d.c2 d.1.1.0.0 d.1.1.0.1;
        };
        mu = mu.0;
      };
      penumbra = record {
        l = record {
          c0 = nat_abs_between e.penumbra.l.c0 50000000 l1.0.0 l1.0.1;
          c1 = nat_abs_le e.penumbra.l.c1 l1.1.0.0 l1.1.0.1;
          c2 = nat_abs_le e.penumbra.l.c2 l1.1.1.0.0 l1.1.1.0.1;
        };
        tanf = nat_abs_between e.penumbra.tanf 400000 tanf.0.0 tanf.0.1;
      };
      central = record {
        l = record {
          c0 = nat_abs_le e.central.l.c0 l2.0.0 l2.0.1;
          c1 = nat_abs_le e.central.l.c1 l2.1.0.0 l2.1.0.1;
          c2 = nat_abs_le e.central.l.c2 l2.1.1.0.0 l2.1.1.0.1;
        };
        tanf = nat_abs_between e.central.tanf 400000 tanf.1.0.0 tanf.1.0.1;
      };
      low = l1.0.0;
    }

-- What the code gives for each letter of the shadow at a second, with a size for those who compute on.
use Rattle.std.specs.Prelude.{◌≡◌, ◌≤◌, ℤ, nat_abs, ◌+ℤ◌, ◌-ℤ◌, ◌*ℤ◌}
use Rattle.rounding.specs.Units.{one}
use Rattle.rounding.specs.Near.{near}
use Rattle.rounding.specs.Value.{Value}
use Rattle.sine.specs.Sine.{sine, cosine}
use Rattle.elements.specs.declared.Axis.{Axis}
use Rattle.elements.specs.declared.Cone.{Cone}
use Rattle.elements.specs.declared.Elements.{Elements}
use Rattle.elements.specs.Elements.{x_at, y_at, d_at, μ_at, l_at}
use Rattle.station.specs.declared.Place.{Place}
use Rattle.shadow_geometry.specs.Shadow.{moment_of, moment, u, v, ζ, L, M}
use Rattle.shadow.specs.declared.Orientation.{Orientation}
use Rattle.shadow.specs.declared.Coordinates.{Coordinates}
use Rattle.shadow.specs.declared.AxisAt.{AxisAt}
use Rattle.shadow.specs.declared.Offset.{Offset}
use Rattle.shadow.specs.declared.Shadow.{Shadow}

-- sines and cosines of h and d
pub record IsOrientation (h d : ℤ) (o : Orientation) : Type 0 where
  pub hsine : o.hsine ≡ sine h
  pub hcosine : o.hcosine ≡ cosine h
  pub dsine : o.dsine ≡ sine d
  pub dcosine : o.dcosine ≡ cosine d

-- at most 1 in size
pub record OrientationSizes (o : Orientation) : Type 0 where
  pub hsine : nat_abs o.hsine ≤ 100000000
  pub hcosine : nat_abs o.hcosine ≤ 100000000
  pub dsine : nat_abs o.dsine ≤ 100000000
  pub dcosine : nat_abs o.dcosine ≤ 100000000

-- ξ, η, ζ by their rules; q is the inner rounding of η and ζ
pub record AreCoordinates (p : Place) (o : Orientation) (x : Coordinates) : Type 0 where
  pub xi : Value (near (p.r *ℤ o.hsine) one) 101000000 x.xi
  pub eta : Value (near (p.p *ℤ o.dcosine -ℤ near (p.r *ℤ o.hcosine) one *ℤ o.dsine) one) 202000000 x.eta
  pub zeta : Value (near (p.p *ℤ o.dsine +ℤ near (p.r *ℤ o.hcosine) one *ℤ o.dcosine) one) 202000000 x.zeta

-- where an axis stands at a moment, and how large that is
pub record Stands (a : Axis) (τ : ℤ) (s : AxisAt) : Type 0 where
  pub x : s.x ≡ x_at a τ
  pub y : s.y ≡ y_at a τ
  pub d : s.d ≡ d_at a τ
  pub mu : s.mu ≡ μ_at a τ

pub record AxisAtSizes (s : AxisAt) : Type 0 where
  pub x : nat_abs s.x ≤ 501170000
  pub y : nat_abs s.y ≤ 501170000
  pub d : nat_abs s.d ≤ 500000000
  pub mu : nat_abs s.mu ≤ 500000000

-- the axis from the station: each letter is that of document 01's page (shadow_geometry, Shadow)
pub record IsOffset (a : Axis) (p : Place) (τ : ℤ) (r : Offset) : Type 0 where
  pub u : Value (u (moment_of a p τ)) 602170000 r.u
  pub v : Value (v (moment_of a p τ)) 703170000 r.v
  pub zeta : Value (ζ (moment_of a p τ)) 202000000 r.zeta
  pub m : Value (M (moment_of a p τ)) 1000000000000000000 r.m

-- L of a cone from ζ: at a moment's ζ it is that moment's L (shadow_geometry, Shadow)
abbrev pub radius_at : Cone → (ζ τ : ℤ) → ℤ
radius_at k ζ τ = l_at k τ -ℤ near (ζ *ℤ k.tanf) one

-- the shadow, letter by letter
pub record IsShadow (e : Elements) (p : Place) (τ : ℤ) (s : Shadow) : Type 0 where
  pub u : s.u ≡ u (moment e p τ)
  pub v : s.v ≡ v (moment e p τ)
  pub l1 : s.l1 ≡ L (moment e p τ) e.penumbra
  pub l2 : s.l2 ≡ L (moment e p τ) e.central
  pub m : s.m ≡ M (moment e p τ)

-- `horizon::azimuth` meets its contract: it is the bearing of where the axis points.
use mathlib.Core.Path.{ap, ◌∙◌}
use mathlib.Core.List.{[], ◌∷◌}
use lib.IntN.{ℤ, pos, ◌-ℤ◌, ◌*ℤ◌}
use Rattle.rounding.specs.laws.Ring.{num, ◌⊖◌, ◌⊗◌, opp, ring, v0, v1}
use Rattle.rounding.specs.laws.Code.{Code, arg, lit, sub, Within, whole, ends, ◌▹◌, fits, runs, within, read_back, read-size}
use Rattle.rounding.specs.Units.{one}
use Rattle.rounding.specs.Near.{near}
use Rattle.sine_table.specs.Table.{S}
use Rattle.shadow_geometry.specs.Direction.{direction}
use Rattle.horizon.specs.Horizon.{east, north}
use Rattle.horizon.proofs.Nears.{bearing-is}
use Rattle.horizon.proofs.azimuth.Statement.{statement}
use Rattle.horizon.proofs.azimuth.Tie as tie

abbrev start : tie.After-struct_told-4-1 → tie.Start
start c = c.before.before.before.before.before

-- the opposite of cos d
bounds : (c : tie.After-struct_told-4-1) → Within (whole (start c).args.o.dcosine ∷ []) (100000000 ∷ [])
bounds c = (start c).requires.3.dcosine ▹ ends

abbrev opposite : Code
opposite = sub (lit (pos 0)) (arg 0)

bearing-requires : tie.Need-bearing-requires
bearing-requires c κs =
    let a = (start c).args in
    let p = (start c).requires in (
      p.0,
      within (bounds c) opposite 100000000 tt,
      read-size a.o.hsine 100000000 p.3.hsine tt,
      read-size a.cosine 100000000 p.2 tt,
      read-size a.o.dsine 100000000 p.3.dsine tt,
      read-size a.sine 100000000 p.1 tt,
      read-size a.o.hcosine 100000000 p.3.hcosine tt,
      read-size a.o.dcosine 100000000 p.3.dcosine tt,
    )

returns : tie.Need-returns
unfolding east north
returns c =
    let s = start c.before in
    let a = s.args in
    let p = s.requires in
    c.bearing.ensures
    ∙ bearing-is (runs (bounds c.before) opposite tt) (read_back a.o.hsine p.3.hsine tt) (read_back a.cosine p.2 tt)
    (read_back a.o.dsine p.3.dsine tt) (read_back a.sine p.1 tt) (read_back a.o.hcosine p.3.hcosine tt)
    (read_back a.o.dcosine p.3.dcosine tt)
    ∙ ap (λ (z : ℤ). direction S (near z one) (near (a.cosine *ℤ a.o.dsine -ℤ near (a.sine *ℤ a.o.hcosine) one *ℤ a.o.dcosine) one))
    (ring (a.o.dcosine ∷ a.o.hsine ∷ []) ((num 0 ⊖ v0) ⊗ v1) (opp (v0 ⊗ v1)) tt)

pub azimuth_spec : {M : Type 1} → statement M
azimuth_spec = tie.close (tie.spec (λ c. fits (bounds c) opposite tt) bearing-requires returns)

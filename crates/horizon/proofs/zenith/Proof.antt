-- `horizon::zenith` meets its contract: it is the bearing of the zenith.
use mathlib.Core.Path.{◌∙◌}
use Rattle.rounding.specs.laws.Code.{read_back, read-size}
use Rattle.horizon.specs.Horizon.{zenith_east, zenith_north}
use Rattle.horizon.proofs.Nears.{bearing-is}
use Rattle.horizon.proofs.zenith.Statement.{statement}
use Rattle.horizon.proofs.zenith.Tie as tie

abbrev start : tie.After-struct_told-4-1 → tie.Start
start c = c.before.before.before.before.before

bearing-requires : tie.Need-bearing-requires
bearing-requires c κs =
    let a = (start c).args in
    let p = (start c).requires in (
      p.0,
      read-size a.cosine 100000000 p.2 tt,
      read-size a.o.hsine 100000000 p.3.hsine tt,
      read-size a.sine 100000000 p.1 tt,
      read-size a.o.dcosine 100000000 p.3.dcosine tt,
      read-size a.cosine 100000000 p.2 tt,
      read-size a.o.hcosine 100000000 p.3.hcosine tt,
      read-size a.o.dsine 100000000 p.3.dsine tt,
    )

returns : tie.Need-returns
unfolding zenith_east zenith_north
returns c =
    let s = start c.before in
    let a = s.args in
    let p = s.requires in
    let cosine = read_back a.cosine p.2 tt in
    c.bearing.ensures
    ∙ bearing-is cosine (read_back a.o.hsine p.3.hsine tt) (read_back a.sine p.1 tt) (read_back a.o.dcosine p.3.dcosine tt)
    cosine (read_back a.o.hcosine p.3.hcosine tt) (read_back a.o.dsine p.3.dsine tt)

pub zenith_spec : {M : Type 1} → statement M
zenith_spec = tie.close (tie.spec bearing-requires returns)

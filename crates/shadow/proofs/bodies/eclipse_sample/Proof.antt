-- `shadow::bodies::eclipse_sample` meets its contract: the letters of the second's shadow.
use Rattle.rounding.specs.laws.Code.{read_back, read-size}
use Rattle.shadow.specs.Shadow.{IsShadow}
use Rattle.shadow.specs.Second.{ShadowSizes}
use Rattle.shadow.specs.laws.SecondLaws.{shadow-sizes, eclipse_sample}
use Rattle.shadow.proofs.bodies.eclipse_sample.Statement.{statement}
use Rattle.shadow.proofs.bodies.eclipse_sample.Tie as tie

seen : (c : tie.After-shadow_at-s) → IsShadow c.args.e c.args.place c.args.t c.shadow_at-s.result
seen c =
    let a = c.before.before in
    rw (read_back a.args.t a.requires.3 tt) at c.shadow_at-s.ensures

shadow-at-requires : tie.Need-shadow_at-s-requires
shadow-at-requires c κs =
    let a = c.before in
    (a.requires.0, a.requires.1, a.requires.2, read-size a.args.t 10800 a.requires.3 tt)

sizes-of : (c : tie.After-shadow_at-s) → ShadowSizes c.shadow_at-s.result
sizes-of c =
    let a = c.before.before in
    shadow-sizes a.args.e a.requires.1 a.args.place a.requires.2 a.args.t a.requires.3 (seen c)

returns : tie.Need-returns
returns c =
    let s = c.before in
    let a = s.before.before in
    let z = sizes-of s in
    let r = s.shadow_at-s.result in
    eclipse_sample a.args.e a.requires.1 a.args.place a.requires.2 a.args.t a.requires.3 (seen s) _
    (read_back r.u z.u tt) (read_back r.v z.v tt) (read_back r.m z.m tt) (read_back r.l1 z.l1 tt) (read_back r.l2 z.l2 tt)

pub eclipse_sample_spec : {M : Type 1} → statement M
eclipse_sample_spec = tie.close (tie.spec shadow-at-requires returns)

-- `shadow::bodies::star_sample` meets its contract: L is the radius.
use mathlib.Core.Path.{◌∙◌}
use lib.Dec.{lit≤}
use lib.IntN.{ℤ}
use borrow.Author.Rules.{rules}
use mir.Syntax.{w64}
use mir.Val.{to_z, of_z}
use Rattle.rounding.specs.laws.Order.{nat_abs_between}
use Rattle.rounding.specs.laws.Code.{read_back, read-size}
use Rattle.rounding.specs.Value.{Value}
use Rattle.elements.specs.Sizes.{wider_axis}
use Rattle.elements.specs.Stars.{star_axis}
use Rattle.shadow.specs.Shadow.{IsOffset}
use Rattle.shadow.specs.laws.SecondLaws.{star_sample}
use Rattle.shadow.proofs.bodies.star_sample.Statement.{statement}
use Rattle.shadow.proofs.bodies.star_sample.Tie as tie

abbrev start : tie.After-offset_at-o → tie.Start
start o = o.before.before.before

seen : (o : tie.After-offset_at-o) → let a = (start o).args in IsOffset (star_axis a.s) a.place a.t o.offset_at-o.result
seen o = rw (o.axis-axis.ensures, read_back (start o).args.t (start o).requires.3 tt) at o.offset_at-o.ensures

offset-at-requires : tie.Need-offset_at-o-requires
offset-at-requires c κs =
    let a = c.before.before in
    (a.requires.0, rw c.axis-axis.ensures (wider_axis a.requires.1.axis (lit≤ tt)), a.requires.2, read-size a.args.t 10800 a.requires.3 tt)

-- as it is read back from a struct
kept-u : (z r : ℤ) → Value z 602170000 r → Value z 602170000 (to_z w64 (of_z w64 r))
kept-u z r v = record { value = read_back r v.size tt ∙ v.value; size = read-size r 602170000 v.size tt }

kept-v : (z r : ℤ) → Value z 703170000 r → Value z 703170000 (to_z w64 (of_z w64 r))
kept-v z r v = record { value = read_back r v.size tt ∙ v.value; size = read-size r 703170000 v.size tt }

kept-m : (z r : ℤ) → Value z 1000000000000000000 r → Value z 1000000000000000000 (to_z w64 (of_z w64 r))
kept-m z r v = record { value = read_back r v.size tt ∙ v.value; size = read-size r 1000000000000000000 v.size tt }

returns : tie.Need-returns
returns c =
    let o = c.before.before in
    let a = start o in
    let x = seen o in
    let r = nat_abs_between a.args.s.radius 27200000 a.requires.1.low a.requires.1.high in
    let e = read_back a.args.s.radius r tt in
    star_sample a.args.s a.requires.1 a.args.place a.args.t _ (kept-u _ _ x.u) (kept-v _ _ x.v) (kept-m _ _ x.m) e e

pub star_sample_spec : {M : Type 1} → statement M
star_sample_spec = tie.close (tie.spec (λ c κs. search rules) offset-at-requires returns)

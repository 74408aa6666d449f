-- `adaptive_sampling::partial::keep` meets its contract.
use Rattle.rounding.specs.laws.Code.{read_back, read-size}
use Rattle.adaptive_sampling.proofs.partial.keep.Statement.{statement}
use Rattle.adaptive_sampling.proofs.partial.keep.Tie as tie

pair-of-requires : tie.Need-pair_of-pair-requires
pair-of-requires c κs = let a = c.before in (read-size a.args.guard 1000 a.requires.0.0 tt, a.requires.0.1)

push-many-requires : tie.Need-push_many-after-requires
push-many-requires c κs =
    let y = c.before.before in
    let p = y.requires.1 in
    (y.pair_of-pair.ensures.small, p.0, p.1, p.2)

-- the places before
abbrev paired : tie.After-push_many-after → tie.After-pair_of-pair
paired c = c.before.before.before

abbrev start : tie.After-push_many-after → tie.Start
start c = (paired c).before.before

closer-requires : tie.Need-closer-requires
closer-requires c κs =
    let a = start c.before.before.before in
    (a.requires.0.2, read-size a.args.s.m 1000000000000000000 a.requires.0.1.m tt)

same_length : tie.Need-shape_of-runs
same_length c = c.push_many-after.ensures.same

returns : tie.Need-returns
returns c =
    let x = c.before.before.before.before in
    let a = start x in
    let e = c.closer.ensures in
    record {
      pair = (paired x).pair_of-pair.result;
      is = rw (read_back a.args.guard a.requires.0.0 tt) at (paired x).pair_of-pair.ensures;
      pushed = rw e.0 x.push_many-after.ensures;
      near = e.2;
      closer = rw (read_back a.args.s.m a.requires.0.1.m tt) at e.1;
    }

pub keep_spec : {M : Type 1} → statement M
keep_spec = tie.close (tie.spec pair-of-requires push-many-requires closer-requires same_length returns)

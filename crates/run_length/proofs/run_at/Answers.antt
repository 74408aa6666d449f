-- The first byte says whether a second follows; the laws of a run at a place say the rest.
use Rattle.std.proofs.Common.{arith}
use Rattle.run_length.specs.laws.RunsLaws.{run-one, second-there, run_more}
use Rattle.run_length.proofs.run_at.Goals as goal

pub returns-then-high-eq0 : goal.returns-then-high-eq0
returns-then-high-eq0 c = let p = c.requires in rw c.state_in-state.ensures (run-one _ _ _ p.0 p.1 (omega arith))

pub bounds-runs-next : goal.bounds-runs-next
bounds-runs-next c = let p = c.requires in second-there c.args.phase _ _ p.0 p.1 (omega arith)

pub returns : goal.returns
returns c =
    let p = c.requires in
    rw (c.state_in-state.ensures, c.seconds_of-seconds.ensures) (run_more _ _ _ p.0 p.1 (omega arith))

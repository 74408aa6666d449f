-- Two bytes are put after the whole runs before; what they hold is the run.
use Rattle.std.proofs.Common.{refl}
use Rattle.run_length.specs.laws.RunsLaws.{written-two}
use Rattle.run_length.proofs.put.Goals as goal

pub returns : goal.returns
returns c = let p = c.requires in written-two _ _ _ _ p.0 p.4 p.1 p.3 _ _ refl refl

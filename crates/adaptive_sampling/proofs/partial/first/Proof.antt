-- `adaptive_sampling::partial::first` meets its contract: the pair of second 0 is a run of one second.
use mathlib.Core.Path.{refl}
use Rattle.rounding.specs.laws.Code.{read_back}
use Rattle.seconds.proofs.laws.SecondLaws.{guard-read}
use Rattle.exclusion_test.specs.laws.Gaps.{sample_sizes}
use Rattle.requests.specs.WindowLaws.{seconds_some}
use Rattle.adaptive_sampling.specs.laws.KeptLaws.{kept-start}
use Rattle.adaptive_sampling.proofs.partial.first.Statement.{statement}
use Rattle.adaptive_sampling.proofs.partial.first.Tie as tie

pair-of-requires : tie.Need-pair_of-pair-requires
pair-of-requires c κs = let a = c.before in ((guard-read a.args.o a.requires.0).1, sample_sizes a.args.o 0 a.requires.1)

returns : tie.Need-returns
returns c = λ runs.
    let x = c.before in
    let a = x.before.before in
    let o = a.args.o in
    kept-start o a.requires.0 a.args.a a.requires.1 (seconds_some o.window) runs x.pair_of-pair.result
    (rw (guard-read o a.requires.0).0 at x.pair_of-pair.ensures) _ refl refl (read_back a.args.a.m (sample_sizes o 0 a.requires.1).m tt) refl

pub first_spec : {M : Type 1} → statement M
first_spec = tie.close (tie.spec pair-of-requires returns)

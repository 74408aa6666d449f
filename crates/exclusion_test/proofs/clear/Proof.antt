-- `exclusion_test::clear` meets its contract: the nearer second comes first.
use mathlib.Core.Logic.{inl, inr}
use Rattle.rounding.specs.laws.Code.{read_back, read-size}
use Rattle.exclusion_test.proofs.clear.Statement.{statement}
use Rattle.exclusion_test.proofs.clear.Tie as tie

passes-requires : tie.Need-passes-requires
passes-requires c κs =
    let s = c.before.before.before in
    (read-size s.args.guard 1000 s.requires.0 tt, s.requires.1, s.requires.3, s.requires.2, s.requires.4)

returns : tie.Need-returns-then-n-m
returns c = λ t. let s = c.before.before.before.before in inr (rw (read_back s.args.guard s.requires.0 tt) at (c.passes.ensures t))

passes-requires-2 : tie.Need-passes-requires-2
passes-requires-2 c κs =
    let s = c.before.before.before in
    (read-size s.args.guard 1000 s.requires.0 tt, s.requires.1, s.requires.2, s.requires.3, s.requires.4)

returns-2 : tie.Need-returns
returns-2 c = λ t. let s = c.before.before.before.before in inl (rw (read_back s.args.guard s.requires.0 tt) at (c.passes-2.ensures t))

pub clear_spec : {M : Type 1} → statement M
clear_spec = tie.close (tie.spec passes-requires returns passes-requires-2 returns-2)

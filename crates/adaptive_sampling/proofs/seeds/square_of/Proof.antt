-- `adaptive_sampling::seeds::square_of` meets its contract.
use mathlib.Core.Path.{◌∙◌}
use borrow.Author.Rules.{rules}
use Rattle.rounding.specs.laws.Code.{read_back, read-size}
use Rattle.exclusion_test.specs.Samples.{square_at}
use Rattle.adaptive_sampling.proofs.seeds.square_of.Statement.{statement}
use Rattle.adaptive_sampling.proofs.seeds.square_of.Tie as tie

returns : tie.Need-returns
unfolding square_at
returns c =
    let x = c.before in
    let e = x.offset_of-s.ensures in
    let m = x.offset_of-s.result.m in
    record { value = read_back m e.m.size tt ∙ e.m.value; size = read-size m 1000000000000000000 e.m.size tt }

pub square_of_spec : {M : Type 1} → statement M
square_of_spec = tie.close (tie.spec (λ c κs. search rules) returns)

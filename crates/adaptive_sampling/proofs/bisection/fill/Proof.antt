-- `adaptive_sampling::bisection::fill` meets its contract: with the last run stored, the runs say the states of all
-- seconds.
use mathlib.Core.Path.{◌∙◌}
use borrow.Author.Rules.{rules}
use native.Mathlib.Omega.{arith}
use Rattle.requests.specs.WindowLaws.{seconds_some}
use Rattle.adaptive_sampling.specs.laws.FoundLaws.{found_of}
use Rattle.adaptive_sampling.proofs.bisection.fill.Statement.{statement}
use Rattle.adaptive_sampling.proofs.bisection.fill.Tie as tie

write-requires : tie.Need-write-count-requires
write-requires c κs =
    let x = c.before.before.before.before in
    let a = x.before.before.before.before in
    let r = x.all_seconds-t.ensures in
    (omega (arith, r.0.few, seconds_some a.args.o.window, r.1, a.requires.3), r.0.ends)

returns : tie.Need-returns
returns c =
    let w = c.write-count.ensures in
    let x = c.before.before.before.before.before.before.before in
    let a = x.before.before.before.before in
    let r = x.all_seconds-t.ensures in
    (found_of a.args.o r.0 (omega (arith, r.1, a.requires.3)) w, w.same ∙ r.1)

pub fill_spec : {M : Type 1} → statement M
fill_spec = tie.close (tie.spec (λ c κs. search rules) write-requires (λ c. search rules) returns)

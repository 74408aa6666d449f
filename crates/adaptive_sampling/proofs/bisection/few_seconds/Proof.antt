-- `adaptive_sampling::bisection::few_seconds` meets its contract: no second is left, or all to the last are computed.
use Prim.Native.Nat.{◌-◌, ◌≤◌}
use mathlib.Core.Path.{◌≡◌, refl}
use native.Mathlib.Omega.{arith}
use borrow.Author.Rules.{rules}
use Rattle.requests.specs.WindowLaws.{seconds_some}
use Rattle.adaptive_sampling.proofs.bisection.few_seconds.Statement.{statement}
use Rattle.adaptive_sampling.proofs.bisection.few_seconds.Tie as tie

some : (a : tie.Start) → 1 ≤ a.args.n
some a = omega (arith, a.requires.0.3, seconds_some a.args.o.window)

returns : tie.Need-returns-then-n-eq1
returns c =
    let a = c.before.before.before in
    let e : a.args.n - 1 ≡ 0 = omega (arith, c.if-n-eq1.true) in
    (rw e a.requires.1.1, refl)

sample-of-requires : tie.Need-sample_of-b-requires
sample-of-requires c κs = let a = c.before.before.before in let p = a.requires.0 in (p.0, p.1, p.2, omega (arith, some a, p.3))

each-second-requires : tie.Need-each_second-requires
each-second-requires c κs =
    let a = c.before.before.before.before.before in
    let p = a.requires.0 in
    ((p.0, p.1, p.2, omega (arith, some a, c.if-n-eq1.false), omega (arith, some a, p.3), c.sample_of-b.ensures), a.requires.1)

returns-2 : tie.Need-returns
returns-2 c = search rules

pub few_seconds_spec : {M : Type 1} → statement M
few_seconds_spec = tie.close (tie.spec returns (λ c. some c.before.before.before) sample-of-requires each-second-requires (λ c. search rules) returns-2)

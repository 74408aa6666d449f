-- `adaptive_sampling::seeds::sample_of` meets its contract: the shadow at the k-th second.
use mathlib.Core.Path.{sym, ap, subst, ◌∙◌}
use Prim.Native.Nat.{◌≤◌}
use native.Mathlib.Omega.{arith}
use lib.IntN.{nat_abs}
use Rattle.rounding.specs.laws.Code.{read_back, read-size}
use Rattle.station.specs.Sizes.{PlaceSizes}
use Rattle.requests.specs.WindowLaws.{second-size}
use Rattle.seconds.proofs.laws.SecondLaws.{placed}
use Rattle.adaptive_sampling.proofs.seeds.sample_of.Statement.{statement}
use Rattle.adaptive_sampling.proofs.seeds.sample_of.Tie as tie

abbrev start : tie.After-nth_second-t → tie.Start
start c = c.before.before.before

result-small : (c : tie.After-nth_second-t) → nat_abs c.nth_second-t.result ≤ 10800
result-small c =
    let a = start c in
    omega (arith, ap nat_abs c.nth_second-t.ensures, second-size a.args.o.window a.requires.1.window a.args.k a.requires.3)

nth-second-requires : tie.Need-nth_second-t-requires
nth-second-requires c κs = let a = c.before.before in (a.requires.1.window, a.requires.3)

sample-at-requires : tie.Need-sample_at-requires
sample-at-requires c κs =
    let a = start c in
    (a.requires.0, a.requires.1.body, subst PlaceSizes (sym a.requires.2) (placed a.args.o a.requires.1), read-size c.nth_second-t.result 10800 (result-small c) tt)

returns : tie.Need-returns
returns c =
    let n = c.before in
    let a = start n in
    rw (a.requires.2, read_back n.nth_second-t.result (result-small n) tt ∙ n.nth_second-t.ensures) at c.sample_at.ensures

pub sample_of_spec : {M : Type 1} → statement M
sample_of_spec = tie.close (tie.spec nth-second-requires sample-at-requires returns)

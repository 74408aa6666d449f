-- With the seconds up to a stop kept, those up to the next are kept.
use Rattle.std.proofs.Common.{◌≡◌, refl, ap, ◌∙◌, arith}
use Rattle.requests.specs.WindowLaws.{seconds-few}
use Rattle.adaptive_sampling.specs.Spread.{stop}
use Rattle.adaptive_sampling.specs.laws.SpreadLaws.{stop-first, stop-last}
use Rattle.adaptive_sampling.proofs.bisection.stretches.Goals as goal

pub loop-k-init : goal.loop-k-init
loop-k-init c = record { long = refl; kept = rw (stop-first c.args.n) c.requires.window_in_bounds.1 }

pub stop-i-requires : goal.stop-i-requires
stop-i-requires c =
    let p = c.requires.sines in
    (omega (arith, p.4), omega (arith, p.3, seconds-few c.args.o.window p.1.window), omega arith)

pub stop-j-requires : goal.stop-j-requires
stop-j-requires c =
    let p = c.requires.sines in
    (omega (arith, p.4), omega (arith, p.3, seconds-few c.args.o.window p.1.window), omega arith)

pub returns-clause-kept : goal.returns-clause-kept
returns-clause-kept c =
    let e : c.loop-k.k ≡ 4 = omega arith in
    rw (ap (stop c.args.n) e ∙ stop-last c.args.n) at c.loop-k.invariant.kept

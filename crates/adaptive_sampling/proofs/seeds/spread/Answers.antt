-- One shadow more is there after each turn.
use Rattle.std.proofs.Common.{◌≡◌, refl, ◌∙◌, ◌≤◌, arith}
use Rattle.std.proofs.Math.ListN.{length-set}
use Rattle.requests.specs.WindowLaws.{seconds-few, seconds_some}
use Rattle.adaptive_sampling.specs.laws.SpreadLaws.{stop-first, stop_in, spread-more}
use Rattle.adaptive_sampling.proofs.seeds.spread.Goals as goal

pub loop-k-init : goal.loop-k-init
loop-k-init c = record {
  five = refl;
  there = λ i h. let z : i ≡ 0 = omega arith in rw (z, stop-first c.args.n) c.requires.4;
}

pub stop-i-requires : goal.stop-i-requires
stop-i-requires c =
    let w = c.args.o.window in
    (omega (arith, c.requires.3, seconds_some w), omega (arith, c.requires.3, seconds-few w c.requires.1.window), omega arith)

pub sample_of-requires : goal.sample_of-requires
sample_of-requires c =
    let p = c.requires in
    let s : 1 ≤ c.args.n = omega (arith, p.3, seconds_some c.args.o.window) in
    (p.0, p.1, p.2, omega (arith, c.stop-i.ensures, stop_in c.args.n c.loop-k.k s (omega arith), p.3))

pub loop-k-preserved : goal.loop-k-preserved
loop-k-preserved c =
    let v = c.loop-k.invariant in
    let l = c.loop-k in
    record {
      five = length-set l.shadows l.k c.sample_of.result ∙ v.five;
      there = spread-more c.args.o c.args.n l.k l.shadows c.sample_of.result (omega (arith, v.five)) v.there (rw c.stop-i.ensures at c.sample_of.ensures);
    }

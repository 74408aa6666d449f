use Rattle.std.proofs.Common.{◌≡◌, ℕ, sym, subst, arith}
use Rattle.rounding.specs.Rounds.{Holds}
use Rattle.rounding.proofs.laws.RoundsLaws.{rounds_leading, rounds_few, start, finish}
use Rattle.rounding.proofs.roots.root_and_rounds.Goals as goal

pub loop-i-init : goal.loop-i-init
loop-i-init c = subst (λ (i : ℕ). Holds c.args.n i 0 0) (sym (rounds_leading c.args.n)) (start c.args.n c.ranges.n.fits)

pub returns : goal.returns
returns c =
    let n = c.args.n in
    let l = c.loop-i in
    let none : l.i ≡ 0 = omega arith in
    record {
      stays =
          finish n l.held.root l.held.rest c.ranges.n.fits
          (subst (λ (i : ℕ). Holds n i l.held.root l.held.rest) none l.invariant);
      equals = rounds_leading n;
      few = λ h. omega (arith, rounds_leading n, rounds_few n h);
    }

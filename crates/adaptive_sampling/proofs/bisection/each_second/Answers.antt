-- With the seconds before k kept, one more is kept.
use Rattle.std.proofs.Common.{◌≡◌, ◌∙◌, ℕ, ◌+◌, ◌-◌, ◌<◌, List, arith}
use Rattle.requests.specs.declared.Occultation.{Occultation}
use Rattle.requests.specs.Windows.{second_count}
use Rattle.requests.specs.RequestLaws.{InLimits}
use Rattle.shadow.specs.declared.Sample.{Sample}
use Rattle.seconds.proofs.laws.SecondLaws.{guard-read}
use Rattle.exclusion_test.specs.Samples.{IsAt}
use Rattle.exclusion_test.specs.laws.Gaps.{sample_sizes, gap-none}
use Rattle.adaptive_sampling.specs.declared.partial.Tally.{Tally}
use Rattle.adaptive_sampling.specs.Kept.{Kept, Stored}
use Rattle.adaptive_sampling.specs.laws.KeptLaws.{kept_more}
use Rattle.adaptive_sampling.proofs.bisection.each_second.Goals as goal

-- one second more
next : (o : Occultation) → InLimits o → (k : ℕ) (old : List ℕ) (t : Tally) → 0 < k → k < second_count o.window → Kept o (k - 1) old t
    → (s : Sample) → IsAt o k s → (new : List ℕ) (r : Tally) → Stored o.guard s 1 k old t new r → Kept o k new r
next o lim k old t some h g s is new r st =
    kept_more o lim g k (omega arith) h (gap-none o t.near (k - 1) k (omega arith)) s is (omega arith) st

pub keep-t-requires-clause-guard_bound : goal.keep-t-requires-clause-guard_bound
keep-t-requires-clause-guard_bound c =
    let o = c.args.o in
    ((guard-read o c.requires.sines.1).1, sample_sizes o c.loop-k.k c.sample_of-s.ensures, c.loop-k.invariant.kept.size)

pub loop-k-preserved : goal.loop-k-preserved
loop-k-preserved c =
    let o = c.args.o in
    let p = c.requires.sines in
    let k = c.loop-k.k in
    let v = c.loop-k.invariant in
    let st : Stored o.guard c.sample_of-s.result 1 k c.loop-k.runs c.loop-k.t c.keep-t.new.runs c.keep-t.result =
    rw (guard-read o p.1).0 at c.keep-t.ensures in
    let e : k + 1 - 1 ≡ k = omega arith in
    record {
      long = st.pushed.same ∙ v.long;
      kept = rw e (next o p.1 k _ _ (omega arith) (omega (arith, p.4)) v.kept _ c.sample_of-s.ensures _ _ st);
    }

pub keep-requires-clause-guard_bound : goal.keep-requires-clause-guard_bound
keep-requires-clause-guard_bound c =
    let o = c.args.o in
    let p = c.requires.sines in
    ((guard-read o p.1).1, sample_sizes o c.args.j p.5, c.loop-k.invariant.kept.size)

pub keep-requires-clause-le_h : goal.keep-requires-clause-le_h
keep-requires-clause-le_h c =
    let v = c.loop-k.invariant in
    (omega arith, omega (arith, v.kept.few, v.long, c.requires.window_in_bounds.0, c.requires.sines.4), v.kept.ends)

pub returns-clause-kept : goal.returns-clause-kept
returns-clause-kept c =
    let o = c.args.o in
    let p = c.requires.sines in
    let v = c.loop-k.invariant in
    let e : c.loop-k.k ≡ c.args.j = omega arith in
    let before : Kept o (c.args.j - 1) c.loop-k.runs c.loop-k.t = rw e at v.kept in
    next o p.1 c.args.j _ _ (omega arith) p.4 before c.args.b p.5 _ _ (rw (guard-read o p.1).0 at c.keep.ensures)

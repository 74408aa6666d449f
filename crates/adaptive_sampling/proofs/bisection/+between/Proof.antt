-- `adaptive_sampling::bisection::between` meets its contract: where the test passes, the seconds up to j get its
-- states; few seconds are computed one by one; else one between is, and both parts are looked at. The measure is
-- j - i.
use Prim.Native.Nat.{ℕ, ◌-◌, ◌<◌}
use mathlib.Core.Path.{refl, ◌∙◌}
use native.Mathlib.Omega.{arith}
use borrow.Fn.Kinds.{In}
use borrow.Fn.PlainCycle.{Measures, is, falls, and}
use Rattle.adaptive_sampling.proofs.bisection.between.Reads as between
use Rattle.adaptive_sampling.proofs.bisection.between.Kinds as between-kinds
use Rattle.adaptive_sampling.proofs.bisection.+between.Lts-between as between-lts
use Rattle.adaptive_sampling.proofs.bisection.cut_at.Reads as cut-at-reads
use Rattle.adaptive_sampling.proofs.bisection.each_second.Reads as each-second-reads
use Rattle.adaptive_sampling.proofs.bisection.leaf.Reads as leaf-reads
use Rattle.adaptive_sampling.proofs.partial.keep.Reads as keep-reads
use Rattle.adaptive_sampling.proofs.partial.nearer.Reads as nearer-reads
use Rattle.adaptive_sampling.proofs.partial.pair_of.Reads as pair-of-reads
use Rattle.adaptive_sampling.proofs.seeds.sample_of.Reads as sample-of-reads
use Rattle.exclusion_test.proofs.clear.Reads as clear_reads
use Rattle.adaptive_sampling.proofs.bisection.+between.{statement}
use Rattle.adaptive_sampling.proofs.bisection.+between.Tie.{close}
use mathlib.Core.List.{List}
use Rattle.rounding.specs.laws.Code.{read_back, read-size}
use Rattle.shadow.specs.declared.Sample.{Sample}
use Rattle.requests.specs.declared.Occultation.{Occultation}
use Rattle.requests.specs.RequestLaws.{InLimits}
use Rattle.requests.specs.Windows.{second_count}
use Rattle.exclusion_test.specs.Samples.{IsAt}
use Rattle.adaptive_sampling.specs.declared.partial.Tally.{Tally}
use Rattle.adaptive_sampling.specs.Kept.{Approached, Kept}
use Rattle.adaptive_sampling.specs.laws.ReachLaws.{square_nonneg}
use Rattle.requests.specs.WindowLaws.{seconds-few}
use Rattle.seconds.proofs.laws.SecondLaws.{guard-read}
use Rattle.exclusion_test.specs.laws.Gaps.{sample_sizes, gap-passed}
use Rattle.adaptive_sampling.specs.laws.KeptLaws.{square-is, kept_more, kept-nearer}

-- of the arguments, after five others j is the sixth from i
abbrev μ-between : Measures 2 between-kinds.ps ℕ
μ-between κs a = a.1.1.1.1.1.1.1.1.1.0 - a.1.1.1.1.1.1.1.0

abbrev between-at : ℕ → In 2 between-kinds.ps
between-at t = and 2 between-kinds.ps (is 2 between-kinds.ps μ-between t) between.Pre

abbrev between-below : ℕ → In 2 between-kinds.ps
between-below t = and 2 between-kinds.ps (falls 2 between-kinds.ps ◌<◌ μ-between t) between.Pre

-- what the callees ask and give
abbrev claims : ℕ → between-lts.Claims
claims t = (
  each-second-reads.Asked,
  each-second-reads.Learnt,
  clear_reads.Asked,
  clear_reads.Learnt,
  keep-reads.Asked,
  keep-reads.Learnt,
  pair-of-reads.Asked,
  pair-of-reads.Learnt,
  leaf-reads.Asked,
  leaf-reads.Learnt,
  cut-at-reads.Asked,
  cut-at-reads.Learnt,
  sample-of-reads.Asked,
  sample-of-reads.Learnt,
  nearer-reads.Asked,
  nearer-reads.Learnt,
  between-below t,
  between.Post,
)

-- a computed second may be nearer
lower : (o : Occultation) (lim : InLimits o) {i : ℕ} {runs : List ℕ} {t : Tally} → Kept o i runs t → (k : ℕ) (h : k < second_count o.window) (x : Sample)
    → IsAt o k x → (r : Tally) → Approached t x.m r → Kept o i runs r
lower o lim g k h x is r a = kept-nearer o lim g k h x.m (square-is o lim k h x is) r a

between-sub-h : (t : ℕ) → between-lts.Need-overflow_sub-h (claims t) (between-at t) between.Post
between-sub-h t c = omega (arith, c.requires.1.0.3)

between-each-second-requires : (t : ℕ) → between-lts.Need-each_second-requires (claims t) (between-at t) between.Post
between-each-second-requires t c κs =
    let s = c.before.before.before.before in
    let p = s.requires.1.0 in
    ((p.0, p.1, p.2, p.3, p.4, p.6), s.requires.1.1)

between-same-length : (t : ℕ) → between-lts.Need-shape_of-runs-then-h-eq1 (claims t) (between-at t) between.Post
between-same-length t c = c.each_second.ensures.1

between-returns : (t : ℕ) → between-lts.Need-returns-then-h-eq1 (claims t) (between-at t) between.Post
between-returns t c = c.each_second.ensures

between-clear-requires : (t : ℕ) → between-lts.Need-clear-shown-requires (claims t) (between-at t) between.Post
between-clear-requires t c κs =
    let s = c.before.before.before.before in
    let o = s.args.o in
    let p = s.requires.1.0 in (
      (guard-read o p.1).1,
      s.requires.1.1.1.reached.few,
      sample_sizes o s.args.i p.5,
      sample_sizes o s.args.j p.6,
      omega (arith, p.4, seconds-few o.window p.1.window),
    )

between-keep-requires : (t : ℕ) → between-lts.Need-keep-requires (claims t) (between-at t) between.Post
between-keep-requires t c κs =
    let s = c.before.before.before.before.before.before.before.before in
    let o = s.args.o in
    let p = s.requires.1.0 in
    let g = s.requires.1.1.1 in (
      ((guard-read o p.1).1, sample_sizes o s.args.j p.6, g.size),
      (omega (arith, p.3), omega (arith, p.3, p.4, g.few, s.requires.1.1.0), g.ends),
    )

between-same-length-2 : (t : ℕ) → between-lts.Need-shape_of-runs-then-shown (claims t) (between-at t) between.Post
between-same-length-2 t c = c.keep.ensures.pushed.same

between-returns-2 : (t : ℕ) → between-lts.Need-returns-then-shown (claims t) (between-at t) between.Post
between-returns-2 t c =
    let s = c.before.before.before.before.before.before.before.before.before.before.before in
    let a = s.args in
    let p = s.requires.1.0 in
    let e = (guard-read a.o p.1).0 in
    let passed = rw e at c.clear-shown.ensures in
    let st = rw e at c.keep.ensures in
    let gap = gap-passed a.o p.1 a.t.near a.i a.j p.3 p.4 a.a a.b p.5 p.6 (passed c.if-shown.true) in
    (kept_more a.o p.1 s.requires.1.1.1 a.j p.3 p.4 gap a.b p.6 refl st, st.pushed.same)

between-pair-of-requires : (t : ℕ) → between-lts.Need-pair_of-p-requires (claims t) (between-at t) between.Post
between-pair-of-requires t c κs =
    let s = c.before.before.before.before.before.before.before in
    let p = s.requires.1.0 in
    ((guard-read s.args.o p.1).1, sample_sizes s.args.o s.args.i p.5)

between-pair-of-requires-2 : (t : ℕ) → between-lts.Need-pair_of-q-requires (claims t) (between-at t) between.Post
between-pair-of-requires-2 t c κs =
    let s = c.before.before.before.before.before.before.before.before.before in
    let p = s.requires.1.0 in
    ((guard-read s.args.o p.1).1, sample_sizes s.args.o s.args.j p.6)

between-leaf-requires : (t : ℕ) → between-lts.Need-leaf-few-requires (claims t) (between-at t) between.Post
between-leaf-requires t c κs = c.requires.1.1.1.reached.few

between-each-second-requires-2 : (t : ℕ) → between-lts.Need-each_second-requires-then-h-few (claims t) (between-at t) between.Post
between-each-second-requires-2 t c κs =
    let s = c.before.before.before.before.before.before.before.before.before.before.before.before.before in
    let p = s.requires.1.0 in
    ((p.0, p.1, p.2, p.3, p.4, p.6), s.requires.1.1)

between-same-length-3 : (t : ℕ) → between-lts.Need-shape_of-runs-then-h-few (claims t) (between-at t) between.Post
between-same-length-3 t c = c.each_second-then-h-few.ensures.1

between-returns-3 : (t : ℕ) → between-lts.Need-returns-then-h-few (claims t) (between-at t) between.Post
between-returns-3 t c = c.each_second-then-h-few.ensures

between-cut-at-requires : (t : ℕ) → between-lts.Need-cut_at-m-requires (claims t) (between-at t) between.Post
between-cut-at-requires t c κs =
    let s = c.before.before.before.before.before.before.before.before.before.before.before.before in
    let o = s.args.o in
    let p = s.requires.1.0 in (
      s.requires.1.1.1.reached.few,
      sample_sizes o s.args.i p.5,
      sample_sizes o s.args.j p.6,
      omega (arith, c.if-h-few.false, c.leaf-few.ensures),
      omega (arith, p.4, seconds-few o.window p.1.window),
    )

between-sample-of-requires : (t : ℕ) → between-lts.Need-sample_of-s-requires (claims t) (between-at t) between.Post
between-sample-of-requires t c κs =
    let s = c.before.before.before.before.before.before.before.before.before.before.before.before.before in
    let p = s.requires.1.0 in
    (p.0, p.1, p.2, omega (arith, c.cut_at-m.ensures.1, p.4))

between-nearer-requires : (t : ℕ) → between-lts.Need-nearer-lower-requires (claims t) (between-at t) between.Post
between-nearer-requires t c κs =
    let s = c.before.before.before.before.before.before.before.before.before.before.before.before.before.before.before in
    let o = s.args.o in
    let p = s.requires.1.0 in
    let k = c.cut_at-m.result in
    let x = c.sample_of-s in
    let z = x.ensures.m.size in (
      s.requires.1.1.1.reached.few,
      read-size x.result.m 1000000000000000000 z tt,
      rw (read_back x.result.m z tt ∙ square-is o p.1 k (omega (arith, c.cut_at-m.ensures.1, p.4)) x.result x.ensures) (square_nonneg o k),
      s.requires.1.1.1.size,
    )

between-between-requires : (t : ℕ) → between-lts.Need-between-half-requires (claims t) (between-at t) between.Post
between-between-requires t c κs =
    let s = c.before.before.before.before.before.before.before.before.before.before.before.before.before.before.before.before.before in
    let o = s.args.o in
    let p = s.requires.1.0 in
    let cut = c.cut_at-m in
    let x = c.sample_of-s in
    let a = rw (read_back x.result.m x.ensures.m.size tt) at c.nearer-lower.ensures in (
      omega (arith, s.requires.0, cut.ensures.0, cut.ensures.1),
      (
        (p.0, p.1, p.2, cut.ensures.0, omega (arith, cut.ensures.1, p.4), p.5, x.ensures),
        (s.requires.1.1.0, lower o p.1 s.requires.1.1.1 cut.result (omega (arith, cut.ensures.1, p.4)) x.result x.ensures _ a),
      ),
    )

between-between-requires-2 : (t : ℕ) → between-lts.Need-between-requires (claims t) (between-at t) between.Post
between-between-requires-2 t c κs =
    let s = c.before.before.before.before.before.before.before.before.before.before.before.before.before.before.before.before.before.before.before.before.before in
    let p = s.requires.1.0 in
    let cut = c.cut_at-m in
    let e = c.between-half.ensures in (
      omega (arith, s.requires.0, cut.ensures.0, cut.ensures.1),
      ((p.0, p.1, p.2, cut.ensures.1, p.4, c.sample_of-s.ensures, p.6), (omega (arith, e.1, s.requires.1.1.0), e.0)),
    )

between-same-length-4 : (t : ℕ) → between-lts.Need-shape_of-runs (claims t) (between-at t) between.Post
between-same-length-4 t c = c.between.ensures.1 ∙ c.between-half.ensures.1

between-returns-4 : (t : ℕ) → between-lts.Need-returns (claims t) (between-at t) between.Post
between-returns-4 t c =
    let e = c.between.ensures in
    (e.0, e.1 ∙ c.between-half.ensures.1)

pub +between_spec : {M : Type 1} → statement M
+between_spec = close μ-between λ t. between-lts.spec (claims t)
    (between-at t)
    between.Post
    (between-sub-h t)
    (between-each-second-requires t)
    (between-same-length t)
    (between-returns t)
    (between-clear-requires t)
    (between-keep-requires t)
    (between-same-length-2 t)
    (between-returns-2 t)
    (between-pair-of-requires t)
    (between-pair-of-requires-2 t)
    (between-leaf-requires t)
    (between-each-second-requires-2 t)
    (between-same-length-3 t)
    (between-returns-3 t)
    (between-cut-at-requires t)
    (between-sample-of-requires t)
    (between-nearer-requires t)
    (between-between-requires t)
    (between-between-requires-2 t)
    (between-same-length-4 t)
    (between-returns-4 t)

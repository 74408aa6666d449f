-- `sine::turns::sine` and `sine::turns::cosine`, which call each other. The measure of each is the angle, which falls
-- by a quarter turn. Up to 90 degrees they are s and c, above each is the other's: `sine-above`, `cosine-above`.
use borrow.Author.Rules.{rules}
use native.Mathlib.Omega.{arith}
use mathlib.Core.Path.{sym, ◌∙◌}
use Rattle.sine.specs.laws.SineLaws.{sine-above, cosine-above}
use Rattle.sine.proofs.Values.{is-sine, is-cosine, kept, minus-fits, minus}
use Prim.Native.Nat.{ℕ, ◌<◌}
use borrow.Fn.Kinds.{In}
use borrow.Fn.PlainCycle.{Measures, is, falls, and}
use Rattle.sine.proofs.turns.cosine.Reads as cosine
use Rattle.sine.proofs.turns.cosine.Kinds as cosine-kinds
use Rattle.sine.proofs.turns.+cosine_sine.Lts-cosine as cosine-lts
use Rattle.sine.proofs.turns.sine.Reads as sine
use Rattle.sine.proofs.turns.sine.Kinds as sine-kinds
use Rattle.sine.proofs.turns.+cosine_sine.Lts-sine as sine-lts
use Rattle.sine.proofs.c.Reads as c-reads
use Rattle.sine.proofs.s.Reads as s_reads
use Rattle.sine.proofs.turns.+cosine_sine.{statement}
use Rattle.sine.proofs.turns.+cosine_sine.Tie.{close}

abbrev μ-cosine : Measures 1 cosine-kinds.ps ℕ
μ-cosine κs a = a.1.0

abbrev μ-sine : Measures 1 sine-kinds.ps ℕ
μ-sine κs a = a.1.0

abbrev cosine-at : ℕ → In 1 cosine-kinds.ps
cosine-at t = and 1 cosine-kinds.ps (is 1 cosine-kinds.ps μ-cosine t) cosine.Pre

abbrev cosine_below : ℕ → In 1 cosine-kinds.ps
cosine_below t = and 1 cosine-kinds.ps (falls 1 cosine-kinds.ps ◌<◌ μ-cosine t) cosine.Pre

abbrev sine-at : ℕ → In 1 sine-kinds.ps
sine-at t = and 1 sine-kinds.ps (is 1 sine-kinds.ps μ-sine t) sine.Pre

abbrev sine-below : ℕ → In 1 sine-kinds.ps
sine-below t = and 1 sine-kinds.ps (falls 1 sine-kinds.ps ◌<◌ μ-sine t) sine.Pre

cosine-c-requires : (t : ℕ) → cosine-lts.Need-c-requires (
  c-reads.Asked,
  c-reads.Learnt,
  sine-below t,
  sine.Post,
) (cosine-at t) cosine.Post
cosine-c-requires t c κs = (c.requires.1.0, omega arith)

cosine-sub-sine : (t : ℕ) → cosine-lts.Need-overflow_sub-a (
  c-reads.Asked,
  c-reads.Learnt,
  sine-below t,
  sine.Post,
) (cosine-at t) cosine.Post
cosine-sub-sine t c = search rules

cosine-sine-requires : (t : ℕ) → cosine-lts.Need-sine-requires (
  c-reads.Asked,
  c-reads.Learnt,
  sine-below t,
  sine.Post,
) (cosine-at t) cosine.Post
cosine-sine-requires t c κs = (omega arith, (c.requires.1.0, omega arith))

cosine-sub-result : (t : ℕ) → cosine-lts.Need-overflow_sub-result (
  c-reads.Asked,
  c-reads.Learnt,
  sine-below t,
  sine.Post,
) (cosine-at t) cosine.Post
cosine-sub-result t c = minus-fits c.sine.result c.sine.ensures.small

cosine-returns : (t : ℕ) → cosine-lts.Need-returns-then-a-le90000000 (
  c-reads.Asked,
  c-reads.Learnt,
  sine-below t,
  sine.Post,
) (cosine-at t) cosine.Post
cosine-returns t c = search rules

cosine-returns-2 : (t : ℕ) → cosine-lts.Need-returns-else-a-le90000000 (
  c-reads.Asked,
  c-reads.Learnt,
  sine-below t,
  sine.Post,
) (cosine-at t) cosine.Post
cosine-returns-2 t c =
    let s = c.before.before.before in
    let q = c.sine in
    is-cosine (minus q.result q.ensures.small q.ensures.value
    ∙ sym (cosine-above s.args.a c.if-a-le90000000.false s.requires.1.1))

sine-s-requires : (t : ℕ) → sine-lts.Need-s-requires (
  s_reads.Asked,
  s_reads.Learnt,
  cosine_below t,
  cosine.Post,
) (sine-at t) sine.Post
sine-s-requires t c κs = (c.requires.1.0, omega arith)

sine-sub-cosine : (t : ℕ) → sine-lts.Need-overflow_sub-a (
  s_reads.Asked,
  s_reads.Learnt,
  cosine_below t,
  cosine.Post,
) (sine-at t) sine.Post
sine-sub-cosine t c = search rules

sine-cosine-requires : (t : ℕ) → sine-lts.Need-cosine-requires (
  s_reads.Asked,
  s_reads.Learnt,
  cosine_below t,
  cosine.Post,
) (sine-at t) sine.Post
sine-cosine-requires t c κs = (omega arith, (c.requires.1.0, omega arith))

sine-returns : (t : ℕ) → sine-lts.Need-returns-then-a-le90000000 (
  s_reads.Asked,
  s_reads.Learnt,
  cosine_below t,
  cosine.Post,
) (sine-at t) sine.Post
sine-returns t c = search rules

sine-returns-2 : (t : ℕ) → sine-lts.Need-returns-else-a-le90000000 (
  s_reads.Asked,
  s_reads.Learnt,
  cosine_below t,
  cosine.Post,
) (sine-at t) sine.Post
sine-returns-2 t c =
    let s = c.before.before.before in
    let q = c.cosine in
    is-sine (kept q.type_inv q.ensures.value
    ∙ sym (sine-above s.args.a c.if-a-le90000000.false s.requires.1.1))

pub +cosine_sine_spec : {M : Type 1} → statement M
+cosine_sine_spec = close μ-cosine μ-sine (λ t. cosine-lts.spec (
  c-reads.Asked,
  c-reads.Learnt,
  sine-below t,
  sine.Post,
)
    (cosine-at t)
    cosine.Post
    (cosine-c-requires t)
    (cosine-sub-sine t)
    (cosine-sine-requires t)
    (cosine-sub-result t)
    (cosine-returns t)
    (cosine-returns-2 t))
    λ t. sine-lts.spec
    (s_reads.Asked, s_reads.Learnt, cosine_below t, cosine.Post)
    (sine-at t)
    sine.Post
    (sine-s-requires t)
    (sine-sub-cosine t)
    (sine-cosine-requires t)
    (sine-returns t)
    (sine-returns-2 t)

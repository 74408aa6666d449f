-- `exclusion_test::inside` meets its contract: each test that was left is a part of what it says. Assumes nothing.
use mathlib.Core.List.{[], ◌∷◌}
use mathlib.Core.Bool.{false≢true}
use lib.IntN.{ℤ, pos, ◌*ℤ◌}
use lib.Signed.{◌≤ℤ◌}
use Rattle.rounding.specs.laws.Ring.{num, ◌⊗◌, v0}
use Rattle.rounding.specs.laws.Cert.{leq, lit, ◌⊞◌, ◌⊠◌, certify}
use Rattle.rounding.specs.laws.Code as K
use Rattle.rounding.specs.laws.Code.{Code, arg, sub, mul, Within, whole, ends, ◌▹◌, fits, runs, within, left-<}
use Rattle.exclusion_test.proofs.inside.Statement.{statement}
use Rattle.exclusion_test.proofs.inside.Tie as tie

-- r, m, s, o, g, q
bounds : (c : tie.Start) → Within
    (whole c.args.r ∷ whole c.args.m ∷ whole c.args.s ∷ whole c.args.o ∷ whole c.args.g ∷ whole c.args.q ∷ [])
    (600000000 ∷ 1000000000000000000 ∷ 600000000 ∷ 1000000000000000000 ∷ 1059 ∷ 204120001 ∷ [])
bounds c = c.requires.0 ▹ c.requires.1 ▹ c.requires.2 ▹ c.requires.3 ▹ c.requires.4 ▹ c.requires.5 ▹ ends

abbrev A : Code
A = sub (mul (arg 0) (arg 0)) (arg 1)

abbrev B : Code
B = sub (mul (arg 2) (arg 2)) (arg 3)

abbrev R : Code
R = mul (K.lit (pos 2)) (arg 0)

abbrev S : Code
S = mul (K.lit (pos 2)) (arg 2)

twice : (r : ℤ) → pos 1 ≤ℤ r → pos 1 ≤ℤ (pos 2 *ℤ r)
twice r h = certify 0 (r ∷ []) (num 1) (num 2 ⊗ v0) (lit 2 ⊠ leq (num 1) v0 h ⊞ lit 1) tt

returns : tie.Need-returns-then-r-lt1
returns c = λ t. absurd (false≢true t)

returns-2 : tie.Need-returns-then-s-lt1
returns-2 c = λ t. absurd (false≢true t)

mul-a : tie.Need-overflow_mul-a
mul-a c = fits (bounds c.before.before) (mul (arg 0) (arg 0)) tt

returns-3 : tie.Need-returns-then-a-lt0
returns-3 c = λ t. absurd (false≢true t)

mul-b : tie.Need-overflow_mul-b
mul-b c = fits (bounds c.before.before.before) (mul (arg 2) (arg 2)) tt

sub-b : tie.Need-overflow_sub-b
sub-b c = fits (bounds c.before.before.before) B tt

returns-4 : tie.Need-returns-then-b-lt0
returns-4 c = λ t. absurd (false≢true t)

mul-part : tie.Need-overflow_mul-r
mul-part c = fits (bounds c.before.before.before.before) R tt

part-requires : tie.Need-part-k-requires
part-requires c κs =
    let w = bounds c.before.before.before.before in (
      within w A 3000000000000000000 tt,
      within w R 2000000000 tt,
      rw (runs w A tt) (left-< w A (K.lit (pos 0)) tt c.if-a-lt0.false),
      rw (runs w R tt) (twice c.args.r (left-< w (arg 0) (K.lit (pos 1)) tt c.if-r-lt1.false)),
    )

mul-part-2 : tie.Need-overflow_mul-s
mul-part-2 c = fits (bounds c.before.before.before.before.before) S tt

part-requires-2 : tie.Need-part-n-requires
part-requires-2 c κs =
    let w = bounds c.before.before.before.before.before in (
      within w B 3000000000000000000 tt,
      within w S 2000000000 tt,
      rw (runs w B tt) (left-< w B (K.lit (pos 0)) tt c.if-b-lt0.false),
      rw (runs w S tt) (twice c.args.s (left-< w (arg 2) (K.lit (pos 1)) tt c.if-s-lt1.false)),
    )

-- k, n, g, q
after : (c : tie.After-part-n) → Within
    (whole c.part-k.result ∷ whole c.part-n.result ∷ whole c.args.g ∷ whole c.args.q ∷ [])
    (1000000000 ∷ 1000000000 ∷ 1059 ∷ 204120001 ∷ [])
after c = let s = c.before.before.before.before.before.before in c.part-k.ensures.size ▹ c.part-n.ensures.size ▹ s.requires.4 ▹ s.requires.5 ▹ ends

abbrev first : Code
first = sub (arg 0) (arg 2)

abbrev second : Code
second = sub (arg 1) (arg 2)

spans-requires : tie.Need-spans-requires
spans-requires c κs = (within (after c) first 2100000000 tt, within (after c) second 2100000000 tt, within (after c) (arg 3) 204120001 tt)

returns-5 : tie.Need-returns
returns-5 c = λ t.
    let x = c.before in
    let y = x.before.before in
    let w = bounds y.before.before.before.before in
    record {
      first = left-< w (arg 0) (K.lit (pos 1)) tt y.if-r-lt1.false;
      second = left-< w (arg 2) (K.lit (pos 1)) tt y.if-s-lt1.false;
      k = x.part-k.result;
      n = x.part-n.result;
      start = rw (runs w A tt, runs w R tt) at x.part-k.ensures.low;
      end = rw (runs w B tt, runs w S tt) at x.part-n.ensures.low;
      spanning = rw (runs (after x) first tt, runs (after x) second tt, runs (after x) (arg 3) tt) at (c.spans.ensures t);
    }

pub inside_spec : {M : Type 1} → statement M
inside_spec =
    tie.close
    (tie.spec returns returns-2 mul-a (λ c. fits (bounds c.before.before) A tt) returns-3 mul-b sub-b
    returns-4 mul-part part-requires mul-part-2 part-requires-2 (λ c. fits (after c) first tt)
    (λ c. fits (after c) second tt) spans-requires returns-5)

-- `exclusion_test::passes` meets its contract: each of its tests is a part of what it says. Assumes nothing.
use mathlib.Core.Path.{◌≡◌, ap, ap₂, ◌∙◌}
use mathlib.Core.List.{[], ◌∷◌}
use mathlib.Core.Bool.{Bool, true, false≢true}
use Prim.Native.Nat.{ℕ, zero, suc, ◌≤◌, ◌<◌}
use native.Mathlib.Omega.{arith}
use borrow.Author.Rules.{rules}
use lib.IntN.{ℤ, pos, nat_abs, ◌+ℤ◌, ◌-ℤ◌}
use lib.Signed.{◌≤ℤ◌}
use mir.Syntax.{w64}
use mir.Val.{to_z, of_z}
use Rattle.rounding.specs.laws.Ring.{num, ◌⊕◌, v0}
use Rattle.rounding.specs.laws.Cert.{leq, certify}
use Rattle.rounding.specs.laws.Code as K
use Rattle.rounding.specs.laws.Code.{Code, arg, add, sub, mul, Within, whole, raw, ends, ◌▹◌, fits, runs, within, left-<, read_back, read-size, count-is, count-size}
use Rattle.chord_bounds.specs.Margins.{slack}
use Rattle.shadow.specs.declared.Sample.{Sample}
use Rattle.shadow.specs.Second.{radius_in}
use Rattle.exclusion_test.specs.Passed.{Spanning, Shows, ShowsSizes}
use Rattle.exclusion_test.proofs.passes.Statement.{statement}
use Rattle.exclusion_test.proofs.passes.Tie as tie

-- u and v of both, M of the nearer, the guard
bounds : (s : tie.Start) → Within
    (whole s.args.c.u ∷ whole s.args.o.u ∷ whole s.args.c.v ∷ whole s.args.o.v ∷ whole s.args.c.m ∷ [])
    (1000000000 ∷ 1000000000 ∷ 1000000000 ∷ 1000000000 ∷ 1000000000000000000 ∷ [])
bounds s = s.requires.2.u ▹ s.requires.3.u ▹ s.requires.2.v ▹ s.requires.3.v ▹ s.requires.2.m ▹ ends

abbrev dot : Code
dot = add (mul (arg 0) (arg 1)) (mul (arg 2) (arg 3))

-- the distance of the nearer
reached : (c : tie.After-distance-k) → Within (whole c.distance-k.result ∷ []) (1000000000 ∷ [])
reached c = c.distance-k.ensures.size ▹ ends

abbrev beyond : Code
beyond = add (arg 0) (K.lit (pos 1))

some : (k : ℤ) → pos 0 ≤ℤ k → pos 1 ≤ℤ (k +ℤ pos 1)
some k h = certify 0 (k ∷ []) (num 1) (v0 ⊕ num 1) (leq (num 0) v0 h) tt

-- k, l, q, the slack, near, the guard
abbrev start : tie.After-slack-e → tie.Start
start c = c.before.before.before.before.before.before.before.before.before.before.before.before.before.before.before

after : (c : tie.After-slack-e) → Within
    (whole c.distance-k.result ∷ whole c.part-l.result ∷ whole c.bend-q.result ∷ whole c.slack-e.result ∷ raw (start c).args.near ∷ whole (start c).args.guard ∷ [])
    (1000000000 ∷ 1000000000 ∷ 204120001 ∷ 59 ∷ 1000000001 ∷ 1000 ∷ [])
after c =
    c.distance-k.ensures.size ▹ c.part-l.ensures.size ▹ c.bend-q.ensures.size ▹ small
    ▹ count-size (start c).args.near (start c).requires.1 tt ▹ (start c).requires.0 ▹ ends
  where
    small : nat_abs c.slack-e.result ≤ 59
    small = omega (arith, ap nat_abs c.slack-e.ensures)

abbrev first : Code
first = sub (sub (arg 0) (arg 4)) (arg 3)

abbrev second : Code
second = sub (sub (arg 1) (arg 4)) (arg 3)

abbrev guarded : Code
guarded = add (arg 5) (arg 3)

-- a number as it is handed on
abbrev read : ℤ → ℤ
read z = to_z w64 (of_z w64 z)

-- what is handed to `shows`, with any two radii
module _ (c : tie.After-slack-e) where
  abbrev s : tie.Start
  s = start c

  abbrev k : ℤ
  k = c.distance-k.result

  abbrev l : ℤ
  l = c.part-l.result

  abbrev q : ℤ
  q = c.bend-q.result

  handed : (x y : ℤ) → nat_abs x ≤ 600000000 → nat_abs y ≤ 600000000
      → ShowsSizes (read k) (read l) (read x) (read s.args.c.m) (read y) (read s.args.o.m) (K.run (whole k ∷ whole l ∷ whole q ∷ whole c.slack-e.result ∷ raw s.args.near ∷ whole s.args.guard ∷ []) guarded) (read q)
  handed x y hx hy =
      let w = after c in
      record {
        near = within w (arg 0) 1000000000 tt;
        far = within w (arg 1) 1000000000 tt;
        start = read-size x 600000000 hx tt;
        start_square = read-size s.args.c.m 1000000000000000000 s.requires.2.m tt;
        end = read-size y 600000000 hy tt;
        end_square = read-size s.args.o.m 1000000000000000000 s.requires.3.m tt;
        guard = within w guarded 1059 tt;
        bend = within w (arg 2) 204120001 tt;
      }

  guard-is : K.run (whole k ∷ whole l ∷ whole q ∷ whole c.slack-e.result ∷ raw s.args.near ∷ whole s.args.guard ∷ []) guarded ≡ s.args.guard +ℤ pos slack
  guard-is = runs (after c) guarded tt ∙ ap (λ (z : ℤ). s.args.guard +ℤ z) c.slack-e.ensures

  shown : (x y : ℤ) → nat_abs x ≤ 600000000 → nat_abs y ≤ 600000000 → {r : Bool}
      → (r ≡ true → Shows (read k) (read l) (read x) (read s.args.c.m) (read y) (read s.args.o.m) (K.run (whole k ∷ whole l ∷ whole q ∷ whole c.slack-e.result ∷ raw s.args.near ∷ whole s.args.guard ∷ []) guarded) (read q))
      → r ≡ true → Shows k l x s.args.c.m y s.args.o.m (s.args.guard +ℤ pos slack) q
  shown x y hx hy h =
      let w = after c in
      rw (
        runs w (arg 0) tt,
        runs w (arg 1) tt,
        read_back x hx tt,
        read_back s.args.c.m s.requires.2.m tt,
        read_back y hy tt,
        read_back s.args.o.m s.requires.3.m tt,
        guard-is,
        runs w (arg 2) tt,
      ) at h

  near-is : to_z w64 s.args.near ≡ pos s.args.near
  near-is = count-is s.args.near s.requires.1 tt

both : (k l g q : ℤ) (c o : Sample) → Shows k l c.first c.m o.first o.m g q → Shows k l c.second c.m o.second o.m g q
    → (f : ℕ) → f < 2 → Shows k l (radius_in c f) c.m (radius_in o f) o.m g q
both k l g q c o x y zero h = x
both k l g q c o x y (suc f) h = y

returns : tie.Need-returns-then-m-lt0
returns c = λ t. absurd (false≢true t)

mul-dot : tie.Need-overflow_mul-dot
mul-dot c = fits (bounds c.before.before.before.before.before.before) (mul (arg 0) (arg 1)) tt

mul-dot-2 : tie.Need-overflow_mul-dot-2
mul-dot-2 c = fits (bounds c.before.before.before.before.before.before.before.before.before.before) (mul (arg 2) (arg 3)) tt

add-dot : tie.Need-overflow_add-dot
add-dot c = fits (bounds c.before.before.before.before.before.before.before.before.before.before) dot tt

returns-2 : tie.Need-returns-then-dot-lt0
returns-2 c = λ t. absurd (false≢true t)

distance-requires : tie.Need-distance-k-requires
distance-requires c κs =
    let w = bounds c.before.before.before.before.before.before.before.before.before.before.before in
    (within w (arg 4) 1000000000000000000 tt, rw (runs w (arg 4) tt) (left-< w (arg 4) (K.lit (pos 0)) tt c.if-m-lt0.false))

part-requires : tie.Need-part-l-requires
part-requires c κs =
    let w = bounds c.before.before.before.before.before.before.before.before.before.before.before.before in (
      within w dot 3000000000000000000 tt,
      within (reached c) beyond 2000000000 tt,
      rw (runs w dot tt) (left-< w dot (K.lit (pos 0)) tt c.if-dot-lt0.false),
      rw (runs (reached c) beyond tt) (some c.distance-k.result c.distance-k.ensures.nonneg),
    )

bend-requires : tie.Need-bend-q-requires
bend-requires c κs = c.requires.4

spans-requires : tie.Need-spans-late-requires
spans-requires c κs = (within (after c) first 2100000000 tt, within (after c) second 2100000000 tt, within (after c) (arg 2) 204120001 tt)

returns-3 : tie.Need-returns-then-not-late
returns-3 c = λ t. absurd (false≢true t)

shows-requires : tie.Need-shows-first-requires
shows-requires c κs =
    let x = c.before.before.before.before.before in
    handed x (start x).args.c.first (start x).args.o.first (start x).requires.2.first (start x).requires.3.first

returns-4 : tie.Need-returns-then-not-first
returns-4 c = λ t. absurd (false≢true t)

shows-requires-2 : tie.Need-shows-requires
shows-requires-2 c κs =
    let x = c.before.before.before.before.before.before.before.before.before.before in
    handed x (start x).args.c.second (start x).args.o.second (start x).requires.2.second (start x).requires.3.second

late : (c : tie.After-spans-late) → c.spans-late.result ≡ true
    → Spanning (k c.before -ℤ pos (start c.before).args.near -ℤ pos slack) (l c.before -ℤ pos (start c.before).args.near -ℤ pos slack) (q c.before)
late c =
    let x = c.before in
    let w = after x in
    rw (
      runs w first tt ∙ ap₂ (λ (y z : ℤ). k x -ℤ y -ℤ z) (near-is x) x.slack-e.ensures,
      runs w second tt ∙ ap₂ (λ (y z : ℤ). l x -ℤ y -ℤ z) (near-is x) x.slack-e.ensures,
      runs w (arg 2) tt,
    ) at c.spans-late.ensures

returns-5 : tie.Need-returns
returns-5 c = λ t.
    let x = c.before.before.before.before.before.before.before.before.before.before.before in
    let y = start x in
    let w = bounds y in
    let d = x.before.before.before in
    record {
      k = k x;
      l = l x;
      q = q x;
      distance = rw (runs w (arg 4) tt) at d.distance-k.ensures;
      along = rw (runs w dot tt, runs (reached d) beyond tt) at x.part-l.ensures;
      bend = x.bend-q.ensures;
      late = late c.before.before.before.before.before.before.before.before.before.before c.if-not-late.false;
      phase = both (k x) (l x) (y.args.guard +ℤ pos slack) (q x) y.args.c y.args.o
          (shown x y.args.c.first y.args.o.first y.requires.2.first y.requires.3.first c.shows-first.ensures c.if-not-first.false)
          (shown x y.args.c.second y.args.o.second y.requires.2.second y.requires.3.second c.shows.ensures t);
    }

pub passes_spec : {M : Type 1} → statement M
passes_spec =
    tie.close
    (tie.spec returns mul-dot mul-dot-2 add-dot returns-2 distance-requires (λ c. fits (reached c) beyond tt)
    part-requires bend-requires (λ c κs. search rules) (λ c. search rules)
    (λ c. fits (after c) (sub (arg 0) (arg 4)) tt) (λ c. fits (after c) first tt)
    (λ c. fits (after c) (sub (arg 1) (arg 4)) tt) (λ c. fits (after c) second tt) spans-requires returns-3
    (λ c. fits (after c.before.before) guarded tt) shows-requires returns-4 shows-requires-2 returns-5)

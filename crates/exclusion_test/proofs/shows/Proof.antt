-- `exclusion_test::shows` meets its contract. Assumes nothing.
use mathlib.Core.Path.{◌≡◌, ap, ◌∙◌}
use mathlib.Core.List.{[], ◌∷◌}
use mathlib.Core.Bool.{true, false≢true}
use mathlib.Core.Logic.{inl, inr}
use Prim.Native.Nat.{◌≤◌}
use native.Mathlib.Omega.{arith}
use lib.IntN.{ℤ, nat_abs, ◌-ℤ◌}
use Rattle.rounding.specs.laws.Code.{Code, arg, sub, Within, whole, ends, ◌▹◌, fits, runs, within, read_back, read-size}
use Rattle.chord_bounds.specs.Margins.{OneSign}
use Rattle.exclusion_test.specs.Samples.{size}
use Rattle.exclusion_test.specs.Passed.{Spanning, In}
use Rattle.exclusion_test.proofs.shows.Statement.{statement}
use Rattle.exclusion_test.proofs.shows.Tie as tie

-- the sizes of L
a-is : (c : tie.After-abs-a) → c.abs-a.result ≡ size c.args.r
a-is c = c.abs-a.ensures ∙ ap size (read_back c.args.r c.requires.start tt)

a-size : (c : tie.After-abs-a) → nat_abs c.abs-a.result ≤ 600000000
a-size c = omega (arith, ap nat_abs (a-is c), c.requires.start)

b-is : (c : tie.After-abs-b) → c.abs-b.result ≡ size c.args.s
b-is c = c.abs-b.ensures ∙ ap size (read_back c.args.s c.requires.end tt)

b-size : (c : tie.After-abs-b) → nat_abs c.abs-b.result ≤ 600000000
b-size c = omega (arith, ap nat_abs (b-is c), c.requires.end)

-- k, l, the sizes, g, q
bounds : (c : tie.After-abs-b) → Within
    (whole c.args.k ∷ whole c.args.l ∷ whole c.abs-a.result ∷ whole c.abs-b.result ∷ whole c.args.g ∷ whole c.args.q ∷ [])
    (1000000000 ∷ 1000000000 ∷ 600000000 ∷ 600000000 ∷ 1059 ∷ 204120001 ∷ [])
bounds c = let p = c.requires in p.near ▹ p.far ▹ a-size c.before ▹ b-size c ▹ p.guard ▹ p.bend ▹ ends

abbrev first : Code
first = sub (sub (arg 0) (arg 2)) (arg 4)

abbrev second : Code
second = sub (sub (arg 1) (arg 3)) (arg 4)

out-is : (c : tie.After-spans-out) → c.spans-out.result ≡ true
    → Spanning (c.args.k -ℤ size c.args.r -ℤ c.args.g)
    (c.args.l -ℤ size c.args.s -ℤ c.args.g) c.args.q
out-is c =
    let a = c.args in
    let w = bounds c.before in
    rw (
      runs w first tt ∙ ap (λ (z : ℤ). a.k -ℤ z -ℤ a.g) (a-is c.before.before),
      runs w second tt ∙ ap (λ (z : ℤ). a.l -ℤ z -ℤ a.g) (b-is c.before),
      runs w (arg 5) tt,
    ) at c.spans-out.ensures

signs : (c : tie.After-one_sign-same) → c.one_sign-same.result ≡ true → OneSign c.args.r c.args.s
signs c =
    let a = c.args in
    let p = c.requires in
    rw (read_back a.r p.start tt, read_back a.s p.end tt) at c.one_sign-same.ensures

in_is : (c : tie.After-inside) → c.inside.result ≡ true
    → In (size c.args.r) c.args.m
    (size c.args.s) c.args.o
    c.args.g c.args.q
in_is c =
    let a = c.args in
    let p = c.requires in
    let x = c.before.before.before.before.before in
    rw (
      read_back x.abs-a.result (a-size x.before) tt ∙ a-is x.before,
      read_back a.m p.start_square tt,
      read_back x.abs-b.result (b-size x) tt ∙ b-is x,
      read_back a.o p.end_square tt,
      read_back a.g p.guard tt,
      read_back a.q p.bend tt,
    ) at c.inside.ensures

abs-requires : tie.Need-abs-a-requires
abs-requires c κs = read-size c.args.r 9223372036854775807 c.requires.start tt

abs-requires-2 : tie.Need-abs-b-requires
abs-requires-2 c κs = read-size c.args.s 9223372036854775807 c.requires.end tt

spans-requires : tie.Need-spans-out-requires
spans-requires c κs = (within (bounds c) first 2100000000 tt, within (bounds c) second 2100000000 tt, within (bounds c) (arg 5) 204120001 tt)

returns : tie.Need-returns-then-out
returns c = λ t. inl (out-is c.before c.if-out.true)

one-sign-requires : tie.Need-one_sign-same-requires
one-sign-requires c κs =
    let a = c.args in
    let p = c.requires in
    (read-size a.r 600000000 p.start tt, read-size a.s 600000000 p.end tt)

returns-2 : tie.Need-returns-then-not-same
returns-2 c = λ t. absurd (false≢true t)

inside-requires : tie.Need-inside-requires
inside-requires c κs =
    let a = c.args in
    let p = c.requires in
    let x = c.before.before.before.before in
    (read-size x.abs-a.result 600000000 (a-size x.before) tt, read-size a.m 1000000000000000000 p.start_square tt, read-size x.abs-b.result 600000000 (b-size x) tt, read-size a.o 1000000000000000000 p.end_square tt, read-size a.g 1059 p.guard tt, read-size a.q 204120001 p.bend tt)

returns-3 : tie.Need-returns
returns-3 c = λ t. inr (signs c.before.before c.if-not-same.false, in_is c t)

pub shows_spec : {M : Type 1} → statement M
shows_spec =
    tie.close
    (tie.spec abs-requires abs-requires-2 (λ c. fits (bounds c) (sub (arg 0) (arg 2)) tt)
    (λ c. fits (bounds c) first tt) (λ c. fits (bounds c) (sub (arg 1) (arg 3)) tt)
    (λ c. fits (bounds c) second tt) spans-requires returns one-sign-requires returns-2 inside-requires
    returns-3)

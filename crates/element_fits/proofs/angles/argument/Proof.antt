-- `element_fits::angles::argument` meets its contract: the tests find the signs of x and y, and each quadrant is the
-- acute angle of their sizes, turned.
use mathlib.Core.Path.{◌≡◌, sym, ap, ap₂, ◌∙◌}
use mathlib.Core.List.{[], ◌∷◌}
use Prim.Native.Nat.{ℕ, ◌+◌, ◌-◌, ◌%◌, ◌<◌}
use native.Mathlib.Omega.{arith}
use borrow.Author.Rules.{rules}
use lib.IntN.{ℤ, pos, nat_abs}
use Rattle.rounding.specs.laws.Code.{Code, arg, lit, Within, whole, ends, ◌▹◌, taken-<, left-<, read-size}
use Rattle.element_fits.specs.Angles.{acute, argument}
use Rattle.element_fits.specs.laws.ArgumentLaws.{argument-first, argument-second, argument-third, argument-fourth, argument-below}
use Rattle.element_fits.proofs.angles.Sizes.{size-cast, cast_is}
use Rattle.element_fits.proofs.angles.argument.Statement.{statement}
use Rattle.element_fits.proofs.angles.argument.Tie as tie

abs-requires : tie.Need-abs-p-requires
abs-requires c κs = read-size c.args.x 9223372036854775807 c.requires.1 tt

cast-p : tie.Need-overflow_cast-p
cast-p c = size-cast c.args.x c.abs-p.result c.requires.1 c.abs-p.ensures

abs-requires-2 : tie.Need-abs-q-requires
abs-requires-2 c κs = read-size c.args.y 9223372036854775807 c.requires.2 tt

cast-q : tie.Need-overflow_cast-q
cast-q c = size-cast c.args.y c.abs-q.result c.requires.2 c.abs-q.ensures

-- what `acute` gave
module _ (c : tie.After-acute-a) where
  abbrev x : ℤ
  x = c.args.x

  abbrev y : ℤ
  y = c.args.y

  bounds : Within (whole x ∷ whole y ∷ []) (100_000_000 ∷ 100_000_000 ∷ [])
  bounds = c.requires.1 ▹ c.requires.2 ▹ ends

  angle-is : c.acute-a.result ≡ acute (nat_abs x) (nat_abs y)
  angle-is =
      let p = c.requires in
      c.acute-a.ensures.0
      ∙ ap₂ acute (cast_is x c.abs-p.result p.1 c.abs-p.ensures) (cast_is y c.abs-q.result p.2 c.abs-q.ensures)

abbrev none : Code
none = lit (pos 0)

is : (x y : ℤ) {r : ℕ} → r ≡ argument x y → (r ≡ argument x y) × (r < 360_000_000)
is x y e = (e, omega (arith, argument-below x y))

returns : tie.Need-returns-then-x-lt0
returns c =
    let a = c.before.before in
    let w = bounds a in
    is (x a) (y a)
    (ap (λ (n : ℕ). 180_000_000 + n) (angle-is a)
    ∙ sym (argument-third (x a) (y a) (taken-< w (arg 0) none tt c.if-x-lt0.true) (taken-< w (arg 1) none tt c.if-y-lt0.true)))

returns-2 : tie.Need-returns-else-x-lt0
returns-2 c =
    let a = c.before.before in
    let w = bounds a in
    is (x a) (y a)
    (ap (λ (n : ℕ). (360_000_000 - n) % 360_000_000) (angle-is a)
    ∙ sym (argument-fourth (x a) (y a) (left-< w (arg 0) none tt c.if-x-lt0.false) (taken-< w (arg 1) none tt c.if-y-lt0.true)))

returns-3 : tie.Need-returns-then-x-lt0-2
returns-3 c =
    let a = c.before.before in
    let w = bounds a in
    is (x a) (y a)
    (ap (λ (n : ℕ). 180_000_000 - n) (angle-is a)
    ∙ sym (argument-second (x a) (y a) (taken-< w (arg 0) none tt c.if-x-lt0-2.true) (left-< w (arg 1) none tt c.if-y-lt0.false)))

returns-4 : tie.Need-returns-else-x-lt0-2
returns-4 c =
    let a = c.before.before in
    let w = bounds a in
    is (x a) (y a)
    (angle-is a ∙ sym (argument-first (x a) (y a) (left-< w (arg 0) none tt c.if-x-lt0-2.false) (left-< w (arg 1) none tt c.if-y-lt0.false)))

pub argument_spec : {M : Type 1} → statement M
argument_spec =
    tie.close
    (tie.spec abs-requires cast-p abs-requires-2 cast-q (λ c κs. search rules) (λ c. search rules)
    (λ c. search rules) (λ c. search rules) returns returns-2 returns-3 returns-4)

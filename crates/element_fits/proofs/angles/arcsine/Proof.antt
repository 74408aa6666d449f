-- `element_fits::angles::arcsine` meets its contract: the angle of the size of s, with the sign of s.
use mathlib.Core.Path.{◌≡◌, sym, ap, ◌∙◌}
use mathlib.Core.List.{[], ◌∷◌}
use native.Mathlib.Omega.{arith}
use borrow.Author.Rules.{rules}
use lib.IntN.{ℤ, pos, neg_ℤ, nat_abs, ◌-ℤ◌, +ℤ_idl}
use mir.Syntax.{w64}
use mir.Val.{to_z}
use Rattle.rounding.specs.Value.{Value}
use Rattle.rounding.specs.laws.Code.{Code, arg, lit, sub, Within, whole, raw, ends, ◌▹◌, fits, runs, taken-<, left-<, read-size, count-is, count-size}
use Rattle.element_fits.specs.Angles.{arc, arcsine}
use Rattle.element_fits.specs.laws.ArcsineLaws.{arcsine-above, arcsine-below, arcsine-size}
use Rattle.element_fits.proofs.angles.Sizes.{size-cast, cast_is}
use Rattle.element_fits.proofs.angles.arcsine.Statement.{statement}
use Rattle.element_fits.proofs.angles.arcsine.Tie as tie

abs-requires : tie.Need-abs-size-requires
abs-requires c κs = read-size c.args.s 9223372036854775807 c.requires.1 tt

cast-size : tie.Need-overflow_cast-size
cast-size c = size-cast c.args.s c.abs-size.result c.requires.1 c.abs-size.ensures

-- what `arc` gave, as a signed number
module _ (c : tie.After-arc-angle) where
  abbrev s : ℤ
  s = c.args.s

  bounds : Within (raw c.arc-angle.result ∷ whole s ∷ []) (45_000_000 ∷ 100_000_000 ∷ [])
  bounds = count-size c.arc-angle.result c.arc-angle.ensures.1 tt ▹ c.requires.1 ▹ ends

  angle-is : to_z w64 c.arc-angle.result ≡ pos (arc (nat_abs s))
  angle-is =
      let z = c.abs-size.result in
      count-is c.arc-angle.result c.arc-angle.ensures.1 tt
      ∙ ap pos (c.arc-angle.ensures.0 ∙ ap arc (cast_is s z c.requires.1 c.abs-size.ensures))

abbrev turned : Code
turned = sub (lit (pos 0)) (arg 0)

sized-value : (s : ℤ) {r : ℤ} → r ≡ arcsine s → Value (arcsine s) 45_000_000 r
sized-value s e = record { value = e; size = omega (arith, ap nat_abs e, arcsine-size s) }

returns : tie.Need-returns-then-s-lt0
returns c =
    let b = bounds c.before in
    let below = taken-< b (arg 1) (lit (pos 0)) tt c.if-s-lt0.true in
    sized-value (s c.before)
    (runs b turned tt
    ∙ ap (λ (z : ℤ). pos 0 -ℤ z) (angle-is c.before)
    ∙ +ℤ_idl (neg_ℤ (pos (arc (nat_abs (s c.before)))))
    ∙ sym (arcsine-below (s c.before) below))

returns-2 : tie.Need-returns-else-s-lt0
returns-2 c =
    let above = left-< (bounds c.before) (arg 1) (lit (pos 0)) tt c.if-s-lt0.false in
    sized-value (s c.before) (angle-is c.before ∙ sym (arcsine-above (s c.before) above))

pub arcsine_spec : {M : Type 1} → statement M
arcsine_spec = tie.close (tie.spec abs-requires cast-size (λ c κs. search rules) (λ c. search rules) (λ c. fits (bounds c.before) turned tt) returns returns-2)

-- `element_fits::ascension` meets its contract: the angle of the axis' direction on the equator.
use mathlib.Core.Path.{ap, ap₂, ◌∙◌}
use Prim.Native.Nat.{◌≤◌}
use native.Mathlib.Omega.{arith}
use borrow.Author.Rules.{rules}
use lib.IntN.{pos, nat_abs}
use Rattle.rounding.specs.laws.Code.{count-is}
use Rattle.besselian_rows.specs.laws.Sizes as row
use Rattle.besselian_rows.specs.laws.ReadLaws.{back, back_size}
use Rattle.element_fits.specs.Angles.{argument}
use Rattle.element_fits.specs.FromTables.{ascension}
use Rattle.element_fits.specs.laws.Laws.{ascension-size}
use Rattle.element_fits.proofs.ascension.Statement.{statement}
use Rattle.element_fits.proofs.ascension.Tie as tie

argument-requires : tie.Need-argument-requires
argument-requires c κs =
    let d = c.find_directions-directions.ensures in
    let s = c.before.before.before.before.before in
    let p = s.args.p in (
      s.requires.0,
      back_size 100_000_000 d.cosa (row.cos-a-size p s.requires.1) tt,
      back_size 100_000_000 d.sina (row.sin-a-size p s.requires.1) tt,
    )

returns : tie.Need-returns
unfolding ascension
returns c =
    let d = c.find_directions-directions.ensures in
    let s = c.before.before.before.before.before.before in
    let p = s.args.p in
    let h : c.argument.result ≤ 360_000_000 = omega (arith, c.argument.ensures.1) in
    let x = back d.cosa (row.cos-a-size p s.requires.1) tt in
    let y = back d.sina (row.sin-a-size p s.requires.1) tt in
    let e = count-is c.argument.result {m = 360_000_000} h tt ∙ ap pos (c.argument.ensures.0 ∙ ap₂ argument x y) in
    record { value = e; size = omega (arith, ap nat_abs e, ascension-size p) }

pub ascension_spec : {M : Type 1} → statement M
ascension_spec = tie.close (tie.spec (λ c κs. search rules) (λ c κs. search rules) argument-requires (λ c. search rules) returns)

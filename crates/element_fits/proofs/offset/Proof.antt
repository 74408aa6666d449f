-- `element_fits::offset` meets its contract: the difference and half a turn, reduced, less half a turn.
use mathlib.Core.Path.{ap, ◌∙◌}
use mathlib.Core.List.{[], ◌∷◌}
use Prim.Native.Nat.{◌≤◌}
use native.Mathlib.Omega.{arith}
use borrow.Author.Rules.{rules}
use lib.IntN.{ℤ, pos, nat_abs, ◌-ℤ◌}
use Rattle.rounding.specs.laws.Code.{Code, arg, lit, add, sub, Within, whole, raw, ends, ◌▹◌, fits, runs, within, count-is, count-size}
use Rattle.sine.specs.Sine.{reduced}
use Rattle.element_fits.specs.FromTables.{offset}
use Rattle.element_fits.specs.laws.Laws.{offset-size}
use Rattle.element_fits.proofs.offset.Statement.{statement}
use Rattle.element_fits.proofs.offset.Tie as tie

bounds : (c : tie.Start) → Within (whole c.args.t ∷ whole c.args.middle ∷ []) (765_000_000 ∷ 765_000_000 ∷ [])
bounds c = c.requires.0 ▹ c.requires.1 ▹ ends

abbrev difference : Code
difference = sub (arg 0) (arg 1)

abbrev shifted : Code
shifted = add difference (lit (pos 180_000_000))

-- what `reduced` gave
after : (c : tie.After-reduced-turned) → Within (raw c.reduced-turned.result ∷ []) (360_000_000 ∷ [])
after c = let h : c.reduced-turned.result ≤ 360_000_000 = omega (arith, c.reduced-turned.ensures.below) in count-size c.reduced-turned.result h tt ▹ ends

abbrev back : Code
back = sub (arg 0) (lit (pos 180_000_000))

returns : tie.Need-returns
unfolding offset
returns c =
    let a = c.args in
    let h : c.reduced-turned.result ≤ 360_000_000 = omega (arith, c.reduced-turned.ensures.below) in
    let n = c.reduced-turned.ensures.value ∙ ap reduced (runs (bounds c.before) shifted tt) in
    let e = runs (after c) back tt ∙ ap (λ (z : ℤ). z -ℤ pos 180_000_000) (count-is c.reduced-turned.result {m = 360_000_000} h tt ∙ ap pos n) in
    record { value = e; size = omega (arith, ap nat_abs e, offset-size a.t a.middle) }

pub offset_spec : {M : Type 1} → statement M
offset_spec = tie.close (tie.spec (λ c. fits (bounds c) difference tt) (λ c. fits (bounds c) shifted tt) (λ c κs. within (bounds c) shifted 10_000_000_000 tt) (λ c. search rules) (λ c. fits (after c) back tt) returns)

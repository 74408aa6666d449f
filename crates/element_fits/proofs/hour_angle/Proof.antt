-- `element_fits::hour_angle` meets its contract: the sums fit, and the first is reduced.
use mathlib.Core.Path.{ap, ◌∙◌}
use mathlib.Core.List.{[], ◌∷◌}
use Prim.Native.Nat.{◌≤◌}
use native.Mathlib.Omega.{arith}
use borrow.Author.Rules.{rules}
use lib.IntN.{pos}
use Rattle.rounding.specs.laws.Code.{Code, arg, lit, add, Within, whole, ends, ◌▹◌, fits, runs, within, count-is, read_back}
use Rattle.sine.specs.Sine.{reduced}
use Rattle.element_fits.specs.FromTables.{hour_angle}
use Rattle.element_fits.proofs.hour_angle.Statement.{statement}
use Rattle.element_fits.proofs.hour_angle.Tie as tie

bounds : (c : tie.Start) → Within (whole c.args.middle ∷ whole c.args.q.c0 ∷ whole c.args.q.c1 ∷ []) (765_000_000 ∷ 900_000_000 ∷ 180_000_000 ∷ [])
bounds c = c.requires.1 ▹ c.requires.0.c0 ▹ c.requires.0.c1 ▹ ends

abbrev constant : Code
constant = add (arg 0) (arg 1)

abbrev hourly : Code
hourly = add (arg 2) (lit (pos 15_000_000))

add-reduced : tie.Need-overflow_add-middle
add-reduced c = fits (bounds c.before.before.before) constant tt

reduced-requires : tie.Need-reduced-c0-requires
reduced-requires c κs = within (bounds c.before.before.before) constant 10_000_000_000 tt

add-c1 : tie.Need-overflow_add-c1
add-c1 c = fits (bounds c.before.before.before.before) hourly tt

returns : tie.Need-returns
unfolding hour_angle
returns c =
    let s = c.before.before.before.before in
    let h : c.reduced-c0.result ≤ 360_000_000 = omega (arith, c.reduced-c0.ensures.below) in
    let n = c.reduced-c0.ensures.value ∙ ap reduced (runs (bounds s) constant tt) in
    rw (
      count-is c.reduced-c0.result {m = 360_000_000} h tt,
      n,
      runs (bounds s) hourly tt,
      read_back s.args.q.c2 s.requires.0.c2 tt,
    )

pub hour_angle_spec : {M : Type 1} → statement M
hour_angle_spec = tie.close (tie.spec add-reduced reduced-requires (λ c. search rules) add-c1 returns)

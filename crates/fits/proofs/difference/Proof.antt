-- `fits::difference` meets its contract: the hour is within three, so the cubic can be asked, and what is left fits.
use mathlib.Core.Path.{◌≡◌, ◌∙◌, ap}
use mathlib.Core.List.{[], ◌∷◌}
use Prim.Native.Nat.{◌≤◌}
use native.Mathlib.Omega.{arith}
use borrow.Author.Rules.{rules}
use lib.IntN.{ℤ, pos, ◌-ℤ◌, ◌*ℤ◌}
use Rattle.rounding.specs.laws.Code.{Code, arg, lit, sub, mul, run, Within, whole, raw, ends, ◌▹◌, fits, runs, count-is, count-size}
use Rattle.rounding.specs.Units.{hour}
use Rattle.elements.specs.Polynomial.{cubic_at}
use Rattle.fits.specs.Fits.{second}
use Rattle.fits.specs.laws.FitLaws.{second-size}
use Rattle.fits.proofs.difference.Statement.{statement}
use Rattle.fits.proofs.difference.Tie as tie

bounds : (c : tie.Start) → Within (raw c.args.i ∷ []) (7 ∷ [])
bounds c = let h : c.args.i ≤ 7 = omega (arith, c.requires.2) in count-size c.args.i h tt ▹ ends

abbrev hours : Code
hours = sub (arg 0) (lit (pos 3))

abbrev seconds : Code
seconds = mul (lit hour) hours

seconds-are : (c : tie.Start) → run (raw c.args.i ∷ []) seconds ≡ second c.args.i
seconds-are c =
    runs (bounds c) seconds tt ∙ ap (λ (z : ℤ). hour *ℤ (z -ℤ pos 3)) (count-is c.args.i {m = 7} (omega (arith, c.requires.2)) tt)

cubic-at-requires : tie.Need-cubic_at-value-requires
cubic-at-requires c κs = (c.requires.0, rw (seconds-are c) (second-size c.args.i c.requires.2))

-- what `cubic_at` gave
given : (c : tie.After-cubic_at-value) → c.cubic_at-value.result ≡ cubic_at c.args.c (second c.args.i)
given c = rw (seconds-are c.before) at c.cubic_at-value.ensures.value

after : (c : tie.After-cubic_at-value) → Within (whole c.cubic_at-value.result ∷ whole c.args.tabulated ∷ []) (501170000 ∷ 1000000000 ∷ [])
after c = c.cubic_at-value.ensures.size ▹ c.requires.1 ▹ ends

returns : tie.Need-returns
returns c = runs (after c) (sub (arg 0) (arg 1)) tt ∙ ap (λ (z : ℤ). z -ℤ c.args.tabulated) (given c)

pub difference_spec : {M : Type 1} → statement M
difference_spec =
    tie.close (tie.spec (λ c. search rules) (λ c. fits (bounds c) hours tt) (λ c. fits (bounds c) seconds tt) cubic-at-requires (λ c. fits (after c) (sub (arg 0) (arg 1)) tt) returns)

-- `listing_lines::clock::scales::own` meets its contract: ten times less than a day of hundredths, and a thousand times
-- a number of 33 bits, fit.
use mathlib.Core.Path.{ap, ap₂, ◌∙◌}
use mathlib.Core.List.{[], ◌∷◌}
use Prim.Native.Nat.{◌%◌, ◌≤◌}
use native.Mathlib.Omega.{arith}
use lib.IntN.{ℤ, pos, nat_abs, ◌+ℤ◌, ◌*ℤ◌}
use Rattle.rounding.specs.laws.Order.{nat_abs_minus}
use Rattle.rounding.specs.laws.Code.{Code, arg, lit, add, mul, Within, raw, whole, ends, ◌▹◌, fits, runs, within, count-is, count-size}
use Rattle.listing_lines.specs.Clock.{own}
use borrow.Author.Rules.{rules}
use Rattle.listing_lines.proofs.clock.scales.own.Statement.{statement}
use Rattle.listing_lines.proofs.clock.scales.own.Tie as tie

module _ (c : tie.After-second_of-second) where
  day : c.args.i.hundredths % 8640000 ≤ 8639999
  day = omega arith

  second : nat_abs c.second_of-second.result ≤ 4294978095
  second = omega (arith, ap nat_abs c.second_of-second.ensures, nat_abs_minus (pos c.args.stored) (pos 10800))

  bounds : Within (raw (c.args.i.hundredths % 8640000) ∷ whole c.second_of-second.result ∷ []) (8639999 ∷ 4294978095 ∷ [])
  bounds = count-size (c.args.i.hundredths % 8640000) day tt ▹ second ▹ ends

abbrev ten : Code
ten = mul (lit (pos 10)) (arg 0)

abbrev thousand : Code
thousand = mul (lit (pos 1000)) (arg 1)

abbrev both : Code
both = add ten thousand

returns : tie.Need-returns
unfolding own
returns c =
    record {
      value =
          runs (bounds c) both tt
          ∙ ap₂ (λ (a s : ℤ). pos 10 *ℤ a +ℤ pos 1000 *ℤ s) (count-is (c.args.i.hundredths % 8640000) (day c) tt) c.second_of-second.ensures;
      size = within (bounds c) both 4295064494990 tt;
    }

pub own_spec : {M : Type 1} → statement M
own_spec = tie.close (tie.spec (λ c. search rules) (λ c κs. search rules) (λ c. fits (bounds c) ten tt) (λ c. fits (bounds c) thousand tt) (λ c. fits (bounds c) both tt) returns)

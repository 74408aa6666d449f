-- `besselian_rows::squares::sum_of_squares` meets its contract: the parts are added.
use mathlib.Core.Path.{ap₂, ◌∙◌}
use mathlib.Core.List.{[], ◌∷◌}
use borrow.Author.Rules.{rules}
use lib.IntN.{ℤ, ◌+ℤ◌}
use Rattle.rounding.specs.laws.Code.{Code, arg, add, Within, whole, ends, ◌▹◌, fits, runs, within, read_back}
use Rattle.besselian_rows.specs.Wide.{IsSquare}
use Rattle.besselian_rows.specs.laws.WideLaws.{value_same, value-sum}
use Rattle.besselian_rows.proofs.squares.sum_of_squares.Statement.{statement}
use Rattle.besselian_rows.proofs.squares.sum_of_squares.Tie as tie

-- what the three calls gave
one : (c : tie.After-square-c) → IsSquare c.args.x c.square-a.result
one c = rw (read_back c.args.x c.requires.0 tt) at c.square-a.ensures

two : (c : tie.After-square-c) → IsSquare c.args.y c.square-b.result
two c = rw (read_back c.args.y c.requires.1 tt) at c.square-b.ensures

three : (c : tie.After-square-c) → IsSquare c.args.z c.square-c.result
three c = rw (read_back c.args.z c.requires.2 tt) at c.square-c.ensures

highs : (c : tie.After-square-c) → Within (whole c.square-a.result.high ∷ whole c.square-b.result.high ∷ whole
    c.square-c.result.high ∷ []) (5791242250000 ∷ 5791242250000 ∷ 5791242250000 ∷ [])
highs c = (one c).high ▹ (two c).high ▹ (three c).high ▹ ends

mids : (c : tie.After-square-c) → Within (whole c.square-a.result.mid ∷ whole c.square-b.result.mid ∷ whole
    c.square-c.result.mid ∷ []) (4812995187000 ∷ 4812995187000 ∷ 4812995187000 ∷ [])
mids c = (one c).mid ▹ (two c).mid ▹ (three c).mid ▹ ends

lows : (c : tie.After-square-c) → Within (whole c.square-a.result.low ∷ whole c.square-b.result.low ∷ whole
    c.square-c.result.low ∷ []) (999998000001 ∷ 999998000001 ∷ 999998000001 ∷ [])
lows c = (one c).low ▹ (two c).low ▹ (three c).low ▹ ends

abbrev Two : Code
Two = add (arg 0) (arg 1)

abbrev Three : Code
Three = add Two (arg 2)

add-t7 : tie.Need-overflow_add-result
add-t7 c = fits (highs c.before.before.before.before) Two tt

add-t8 : tie.Need-overflow_add-result-2
add-t8 c = fits (highs c.before.before.before.before.before.before) Three tt

add-t9 : tie.Need-overflow_add-result-3
add-t9 c = fits (mids c.before.before.before.before.before.before.before.before.before.before) Two tt

add-t10 : tie.Need-overflow_add-result-4
add-t10 c = fits (mids c.before.before.before.before.before.before.before.before.before.before.before.before) Three tt

add-t11 : tie.Need-overflow_add-result-5
add-t11 c =
    fits (lows c.before.before.before.before.before.before.before.before.before.before.before.before.before.before.before.before) Two tt

add-t12 : tie.Need-overflow_add-result-6
add-t12 c =
    fits (lows c.before.before.before.before.before.before.before.before.before.before.before.before.before.before.before.before.before.before) Three tt

returns : tie.Need-returns
returns c =
    let s = c.before.before.before.before.before.before.before.before.before.before.before.before.before.before.before.before.before.before in
    record {
      value = value_same (runs (highs s) Three tt) (runs (mids s) Three tt) (runs (lows s) Three tt)
          ∙ value-sum s.square-a.result s.square-b.result s.square-c.result
          ∙ ap₂ (λ (y z : ℤ). y +ℤ z) (ap₂ (λ (y z : ℤ). y +ℤ z) (one s).value (two s).value) (three s).value;
      high = within (highs s) Three 20000000000000 tt;
      mid = within (mids s) Three 20000000000000 tt;
      low = within (lows s) Three 20000000000000 tt;
    }

pub sum_of_squares_spec : {M : Type 1} → statement M
sum_of_squares_spec = tie.close (tie.spec (λ c κs. search rules) (λ c κs. search rules) (λ c κs. search rules) add-t7 add-t8 add-t9 add-t10 add-t11 add-t12 returns)

-- `besselian_rows::rows::is_level` meets its contract: 10,000 z² and 1849 (x² + y² + z²) are compared.
use mathlib.Core.Path.{ap, ap₂, ◌∙◌}
use mathlib.Core.List.{[], ◌∷◌}
use borrow.Author.Rules.{rules}
use lib.IntN.{ℤ, pos, ◌*ℤ◌}
use lib.Signed.{le_z}
use Rattle.rounding.specs.laws.Code.{arg, lit, mul, Within, whole, ends, ◌▹◌, fits, runs, within, read_back}
use Rattle.besselian_rows.specs.Exact.{level}
use Rattle.besselian_rows.specs.laws.WideLaws.{value_same, value-times}
use Rattle.besselian_rows.proofs.rows.is_level.Statement.{statement}
use Rattle.besselian_rows.proofs.rows.is_level.Tie as tie

-- the parts of z², and of x² + y² + z²
of_one : (c : tie.After-square-c) → Within (whole c.square-c.result.high ∷ whole c.square-c.result.mid ∷ whole c.square-c.result.low ∷ [])
    (5791242250000 ∷ 4812995187000 ∷ 999998000001 ∷ [])
of_one c = c.square-c.ensures.high ▹ c.square-c.ensures.mid ▹ c.square-c.ensures.low ▹ ends

of-all : (c : tie.After-sum_of_squares-w) → Within (whole c.sum_of_squares-w.result.high ∷ whole c.sum_of_squares-w.result.mid ∷ whole
    c.sum_of_squares-w.result.low ∷ []) (20000000000000 ∷ 20000000000000 ∷ 20000000000000 ∷ [])
of-all c = c.sum_of_squares-w.ensures.high ▹ c.sum_of_squares-w.ensures.mid ▹ c.sum_of_squares-w.ensures.low ▹ ends

mul-t8 : tie.Need-overflow_mul-a
mul-t8 c = fits (of_one c.before.before) (mul (lit (pos 10000)) (arg 0)) tt

mul-t9 : tie.Need-overflow_mul-a-2
mul-t9 c = fits (of_one c.before.before.before.before) (mul (lit (pos 10000)) (arg 1)) tt

mul-t10 : tie.Need-overflow_mul-a-3
mul-t10 c = fits (of_one c.before.before.before.before.before.before) (mul (lit (pos 10000)) (arg 2)) tt

mul-t8-2 : tie.Need-overflow_mul-b
mul-t8-2 c = fits (of-all c.before.before.before.before.before.before.before.before.before) (mul (lit (pos 1849)) (arg 0)) tt

mul-t10-2 : tie.Need-overflow_mul-b-2
mul-t10-2 c = fits (of-all c.before.before.before.before.before.before.before.before.before.before.before) (mul (lit (pos 1849)) (arg 1)) tt

mul-t9-2 : tie.Need-overflow_mul-b-3
mul-t9-2 c =
    fits (of-all c.before.before.before.before.before.before.before.before.before.before.before.before.before) (mul (lit (pos 1849)) (arg 2)) tt

at-most-requires : tie.Need-at_most-requires
at-most-requires c κs =
    let z = of_one c.before.before.before.before.before.before.before.before.before.before.before.before in
    let w = of-all c.before.before.before.before.before.before.before.before.before.before.before.before.before in (
      record {
        high = within z (mul (lit (pos 10000)) (arg 0)) 100000000000000000 tt;
        mid = within z (mul (lit (pos 10000)) (arg 1)) 100000000000000000 tt;
        low = within z (mul (lit (pos 10000)) (arg 2)) 100000000000000000 tt;
      },
      record {
        high = within w (mul (lit (pos 1849)) (arg 0)) 100000000000000000 tt;
        mid = within w (mul (lit (pos 1849)) (arg 1)) 100000000000000000 tt;
        low = within w (mul (lit (pos 1849)) (arg 2)) 100000000000000000 tt;
      },
    )

returns : tie.Need-returns
unfolding level
returns c =
    let o = c.before.before.before.before.before.before.before.before.before.before.before.before.before in
    let a = c.before.before.before.before.before.before.before.before.before.before.before.before.before.before in
    let s = c.before.before.before.before.before.before.before.before.before.before.before.before.before.before.before in
    let z = of_one o in
    let w = of-all a in
    let zz = rw (read_back s.args.z s.requires.2 tt) at o.square-c.ensures.value in
    let ww = rw (read_back s.args.x s.requires.0 tt, read_back s.args.y s.requires.1 tt, read_back s.args.z s.requires.2 tt)
    at a.sum_of_squares-w.ensures.value in
    c.at_most.ensures
    ∙ ap₂ le_z
    (value_same (runs z (mul (lit (pos 10000)) (arg 0)) tt) (runs z (mul (lit (pos 10000)) (arg 1)) tt) (runs z (mul (lit (pos 10000)) (arg 2)) tt)
    ∙ value-times (pos 10000) o.square-c.result ∙ ap (λ (t : ℤ). pos 10000 *ℤ t) zz)
    (value_same (runs w (mul (lit (pos 1849)) (arg 0)) tt) (runs w (mul (lit (pos 1849)) (arg 1)) tt) (runs w (mul (lit (pos 1849)) (arg 2)) tt)
    ∙ value-times (pos 1849) a.sum_of_squares-w.result ∙ ap (λ (t : ℤ). pos 1849 *ℤ t) ww)

pub is_level_spec : {M : Type 1} → statement M
is_level_spec = tie.close (tie.spec (λ c κs. search rules) (λ c κs. search rules) mul-t8 mul-t9 mul-t10 mul-t8-2 mul-t10-2 mul-t9-2 at-most-requires returns)

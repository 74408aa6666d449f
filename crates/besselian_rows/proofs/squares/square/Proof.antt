-- `besselian_rows::squares::square` meets its contract: n is 10^6 h + l.
use mathlib.Core.Path.{◌≡◌, ap, ap₂, ◌∙◌}
use mathlib.Core.List.{[], ◌∷◌}
use borrow.Author.Rules.{rules}
use lib.IntN.{ℤ, pos, ◌*ℤ◌}
use lib.Signed.{quot_z, rem_z}
use Rattle.rounding.specs.laws.Code.{Code, arg, lit, mul, Within, whole, ends, ◌▹◌, fits, runs, within, read_back}
use Rattle.besselian_rows.specs.laws.WideLaws.{square-is, value_same}
use Rattle.besselian_rows.proofs.squares.square.Statement.{statement}
use Rattle.besselian_rows.proofs.squares.square.Tie as tie

bounds : (c : tie.After-lower-l) → Within (whole c.upper-h.result ∷ whole c.lower-l.result ∷ []) (2406500 ∷ 999999 ∷ [])
bounds c = c.upper-h.ensures.size ▹ c.lower-l.ensures.size ▹ ends

abbrev HH : Code
HH = mul (arg 0) (arg 0)

abbrev HL : Code
HL = mul (mul (lit (pos 2)) (arg 0)) (arg 1)

abbrev LL : Code
LL = mul (arg 1) (arg 1)

mul-t5 : tie.Need-overflow_mul-result-2
mul-t5 c = fits (bounds c) (mul (lit (pos 2)) (arg 0)) tt

returns : tie.Need-returns
returns c =
    let n = c.args.n in
    let m = read_back n c.requires tt in
    let h : c.upper-h.result ≡ quot_z n (pos 1000000) = c.upper-h.ensures.value ∙ ap (λ (z : ℤ). quot_z z (pos 1000000)) m in
    let l : c.lower-l.result ≡ rem_z n (pos 1000000) = c.lower-l.ensures.value ∙ ap (λ (z : ℤ). rem_z z (pos 1000000)) m in
    record {
      value = value_same (runs (bounds c) HH tt ∙ ap (λ (z : ℤ). z *ℤ z) h)
          (runs (bounds c) HL tt ∙ ap₂ (λ (y z : ℤ). pos 2 *ℤ y *ℤ z) h l)
          (runs (bounds c) LL tt ∙ ap (λ (z : ℤ). z *ℤ z) l)
          ∙ square-is n;
      high = within (bounds c) HH 5791242250000 tt;
      mid = within (bounds c) HL 4812995187000 tt;
      low = within (bounds c) LL 999998000001 tt;
    }

pub square_spec : {M : Type 1} → statement M
square_spec = tie.close (tie.spec (λ c κs. search rules) (λ c κs. search rules) (λ c. fits (bounds c) HH tt) mul-t5 (λ c. fits (bounds c) HL tt) (λ c. fits (bounds c) LL tt) returns)

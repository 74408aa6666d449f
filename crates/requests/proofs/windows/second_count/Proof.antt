-- `requests::windows::second_count` meets its contract: the last second is not before the first, so the difference is
-- a natural number.
use mathlib.Core.Path.{ap, ◌∙◌}
use mathlib.Core.List.{[], ◌∷◌}
use Prim.Native.Nat.{suc}
use native.Mathlib.Omega.{arith}
use native.Mathlib.Numerals.{add-one}
use lib.IntN.{ℤ, nat_abs}
use Rattle.rounding.specs.laws.Order.{minus_nonneg}
use Rattle.rounding.specs.laws.Code.{Code, arg, sub, run, Within, whole, ends, ◌▹◌, fits, runs, within, unsigned}
use Rattle.requests.specs.Windows.{second_count}
use Rattle.requests.specs.WindowLaws.{window-sizes}
use Rattle.requests.proofs.windows.second_count.Statement.{statement}
use Rattle.requests.proofs.windows.second_count.Tie as tie

bounds : (c : tie.After-struct_told-1) → Within (whole c.args.w.last ∷ whole c.args.w.first ∷ []) (10800 ∷ 10800 ∷ [])
bounds c =
    let s = window-sizes c.args.w c.requires in
    s.1 ▹ s.0 ▹ ends

abbrev difference : Code
difference = sub (arg 0) (arg 1)

cast-result : tie.Need-overflow_cast-result
cast-result c = unsigned (bounds c) difference tt (minus_nonneg c.requires.ordered)

add-result : tie.Need-overflow_add-result
add-result c = record { fits = omega (arith, within (bounds c) difference 21600 tt) }

returns : tie.Need-returns
unfolding second_count
returns c =
    let w = c.args.w in
    add-one (nat_abs (run (whole w.last ∷ whole w.first ∷ []) difference)) ∙ ap (λ (z : ℤ). suc (nat_abs z)) (runs (bounds c) difference tt)

pub second_count_spec : {M : Type 1} → statement M
second_count_spec = tie.close (tie.spec (λ c. fits (bounds c) difference tt) cast-result add-result returns)

-- `requests::windows::nth_second` meets its contract: a sum of small numbers.
use mathlib.Core.Path.{ap, ◌∙◌}
use mathlib.Core.List.{[], ◌∷◌}
use Prim.Native.Nat.{◌≤◌}
use native.Mathlib.Omega.{arith}
use lib.IntN.{ℤ, pos, ◌+ℤ◌}
use Rattle.rounding.specs.laws.Order.{fits64}
use Rattle.rounding.specs.laws.Code.{arg, add, Within, whole, raw, ends, ◌▹◌, fits, runs, count-is, count-size}
use Rattle.requests.specs.WindowLaws.{window-sizes, seconds-few}
use Rattle.requests.proofs.windows.nth_second.Statement.{statement}
use Rattle.requests.proofs.windows.nth_second.Tie as tie

few : (c : tie.Start) → c.args.k ≤ 21600
few c = omega (arith, c.requires.1, seconds-few c.args.w c.requires.0)

bounds : (c : tie.After-struct_told-1) → Within (whole c.args.w.first ∷ raw c.args.k ∷ []) (10800 ∷ 21600 ∷ [])
bounds c =
    let s = c.before.before in
    (window-sizes s.args.w s.requires.0).0 ▹ count-size s.args.k (few s) tt ▹ ends

cast-result : tie.Need-overflow_cast-result
cast-result c = fits64 (pos c.args.k) (omega (arith, few c))

returns : tie.Need-returns
returns c =
    let s = c.before.before in
    runs (bounds c) (add (arg 0) (arg 1)) tt ∙ ap (λ (z : ℤ). s.args.w.first +ℤ z) (count-is s.args.k {m = 21600} (few s) tt)

pub nth_second_spec : {M : Type 1} → statement M
nth_second_spec = tie.close (tie.spec cast-result (λ c. fits (bounds c) (add (arg 0) (arg 1)) tt) returns)

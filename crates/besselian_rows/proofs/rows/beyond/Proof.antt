-- `besselian_rows::rows::beyond` meets its contract: the two tests, on numbers read back from their bits.
use mathlib.Core.Path.{◌≡◌, ◌∙◌}
use mathlib.Core.List.{[], ◌∷◌}
use lib.IntN.{ℤ, pos, neg_ℤ, ◌-ℤ◌}
use mir.Syntax.{w64}
use mir.ValLaws.{to_z-of_z}
use Rattle.rounding.specs.laws.Code.{Code, arg, lit, sub, Within, whole, ends, ◌▹◌, fits, runs, read_back}
use Rattle.rounding.specs.laws.Ring.{num, opp, ◌⊖◌, ring, v0}
use Rattle.besselian_rows.specs.Parts.{beyond}
use Rattle.besselian_rows.proofs.rows.beyond.Statement.{statement}
use Rattle.besselian_rows.proofs.rows.beyond.Tie as tie

bounds : (c : tie.Start) → Within (whole c.args.m ∷ []) (2400000000000 ∷ [])
bounds c = c.requires ▹ ends

abbrev Minus : Code
Minus = sub (lit (pos 0)) (arg 0)

minus_is : (m : ℤ) → pos 0 -ℤ m ≡ neg_ℤ m
minus_is m = ring (m ∷ []) (num 0 ⊖ v0) (opp v0) tt

returns : tie.Need-returns
unfolding beyond
returns c = rw (runs (bounds c) Minus tt ∙ minus_is c.args.m, read_back c.args.m c.requires tt, to_z-of_z w64 c.args.x c.ranges.x)

pub beyond_spec : {M : Type 1} → statement M
beyond_spec = tie.close (tie.spec (λ c. fits (bounds c) Minus tt) returns)

-- `obscuration::area::offset` meets its contract: nothing is negative in the quotient, so the machine rounds it down.
use mathlib.Core.Path.{◌≡◌, ap, ◌∙◌}
use mathlib.Core.List.{[], ◌∷◌}
use Prim.Native.Nat.{◌+◌, ◌*◌, ◌≤◌}
use native.Mathlib.Omega.{arith}
use borrow.Author.Rules.{rules}
use lib.Dec.{lit<}
use lib.IntN.{pos, nat_abs}
use Rattle.rounding.specs.laws.Code.{Code, arg, lit, add, sub, mul, quo, Within, whole, ends, ◌▹◌, fits, run, runs}
use Rattle.obscuration.specs.Share.{offset}
use Rattle.obscuration.specs.laws.StripLaws.{offset-size, offset-by}
use Rattle.obscuration.proofs.area.offset.Statement.{statement}
use Rattle.obscuration.proofs.area.offset.Tie as tie

-- r, and 2i + 1
bounds : (c : tie.Start) → Within (whole c.args.r ∷ whole (pos (2 * c.args.i + 1)) ∷ []) (40000000 ∷ 1999 ∷ [])
bounds c =
    let h : nat_abs (pos (2 * c.args.i + 1)) ≤ 1999 = omega (arith, c.requires.2) in
    c.requires.0 ▹ h ▹ ends

abbrev opposite : Code
opposite = sub (lit (pos 0)) (arg 0)

abbrev along : Code
along = mul (arg 1) (arg 0)

abbrev result : Code
result = add opposite (quo along (lit (pos 1000)))

div-result : tie.Need-nonzero_div-result
div-result c = (lit< tt, fits (bounds c) (quo along (lit (pos 1000))) tt)

returns : tie.Need-returns
returns c =
    let r = c.args.r in
    let i = c.args.i in
    let e : run (whole r ∷ whole (pos (2 * i + 1)) ∷ []) result ≡ offset r i = runs (bounds c) result tt ∙ offset-by r i c.requires.1 in
    record { value = e; size = omega (arith, ap nat_abs e, offset-size r i c.requires.1 c.requires.2, c.requires.0) }

pub offset_spec : {M : Type 1} → statement M
offset_spec =
    tie.close
    (tie.spec (λ c. search rules) (λ c. search rules) (λ c. fits (bounds c) opposite tt) (λ c. search rules)
    (λ c. fits (bounds c) along tt) div-result (λ c. fits (bounds c) result tt) returns)

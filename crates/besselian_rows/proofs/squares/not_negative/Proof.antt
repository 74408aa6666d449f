-- `besselian_rows::squares::not_negative` meets its contract: the parts are carried up.
use mathlib.Core.Path.{ap, ◌∙◌}
use mathlib.Core.List.{[], ◌∷◌}
use native.Mathlib.Omega.{arith}
use Prim.Native.Nat.{◌≤◌}
use lib.IntN.{ℤ, pos, nat_abs, ◌+ℤ◌}
use lib.Signed.{le_z}
use Rattle.rounding.specs.Near.{floor_z}
use Rattle.rounding.specs.laws.Code.{Code, arg, add, Within, whole, ends, ◌▹◌, fits, runs, within, read_back, read-size}
use Rattle.besselian_rows.specs.Wide.{IsFloor}
use Rattle.besselian_rows.specs.laws.WideLaws.{carried}
use Rattle.besselian_rows.proofs.squares.not_negative.Statement.{statement}
use Rattle.besselian_rows.proofs.squares.not_negative.Tie as tie

floor-million-requires : tie.Need-floor_million-a-requires
floor-million-requires c κs = read-size c.args.low 1000000000000000000 c.requires.2 tt

first : (c : tie.After-floor_million-a) → IsFloor c.args.low c.floor_million-a.result
first c = rw (read_back c.args.low c.requires.2 tt) at c.floor_million-a.ensures

bounds : (c : tie.After-floor_million-a) → Within (whole c.args.mid ∷ whole c.floor_million-a.result ∷ [])
    (200000000000000000 ∷ 200000000000000000 ∷ [])
bounds c =
    let h : nat_abs c.floor_million-a.result ≤ 200000000000000000 = omega (arith, (first c).size, c.requires.2) in
    c.requires.1 ▹ h ▹ ends

abbrev MA : Code
MA = add (arg 0) (arg 1)

second : (c : tie.After-floor_million-b) → IsFloor (c.args.mid +ℤ c.floor_million-a.result) c.floor_million-b.result
second c = rw (runs (bounds c.before) MA tt) at c.floor_million-b.ensures

ends-in : (c : tie.After-floor_million-b) → Within (whole c.args.high ∷ whole c.floor_million-b.result ∷ [])
    (200000000000000000 ∷ 1000000000000000000 ∷ [])
ends-in c =
    let h : nat_abs c.floor_million-b.result ≤ 1000000000000000000 = omega
    (arith, (second c).size, ap nat_abs (runs (bounds c.before) MA tt), within (bounds c.before) MA 1000000000000000000 tt) in
    c.requires.0 ▹ h ▹ ends

returns : tie.Need-returns
returns c =
    let b = c.before.before in
    ap (λ (z : ℤ). le_z (pos 0) z) (runs (ends-in c) MA tt ∙ ap (λ (z : ℤ). b.args.high +ℤ z)
    ((second c).value ∙ ap (λ (z : ℤ). floor_z (b.args.mid +ℤ z) (pos 1000000)) (first c.before).value))
    ∙ carried b.args.high b.args.mid b.args.low

pub not_negative_spec : {M : Type 1} → statement M
not_negative_spec = tie.close (tie.spec floor-million-requires (λ c. fits (bounds c) MA tt) (λ c κs. within (bounds c) MA 1000000000000000000 tt) (λ c. fits (ends-in c) MA tt) returns)

-- `besselian_rows::rows::share` meets its contract.
use mathlib.Core.Path.{◌≡◌, sym, ap, ap₂, subst, ◌∙◌}
use mathlib.Core.List.{[], ◌∷◌}
use Prim.Native.Nat.{◌≤◌, ◌*◌}
use native.Mathlib.Omega.{arith}
use borrow.Author.Rules.{rules}
use lib.IntN.{ℤ, pos, nat_abs, ◌*ℤ◌}
use lib.Signed.{◌≤ℤ◌}
use mir.Syntax.{w64}
use mir.Val.{to_z}
use Rattle.rounding.specs.laws.Order.{zs, nat_abs_product}
use Rattle.rounding.specs.Near.{near}
use Rattle.rounding.proofs.laws.NearLaws.{near-size}
use Rattle.rounding.specs.laws.Code.{Code, arg, lit, mul, Within, whole, ends, ◌▹◌, fits, runs, within, read_back, read-size, count-is, count-size}
use Rattle.besselian_rows.proofs.rows.share.Statement.{statement}
use Rattle.besselian_rows.proofs.rows.share.Tie as tie

bounds : (c : tie.Start) → Within (whole c.args.g ∷ []) (4200000000 ∷ [])
bounds c =
    let h : nat_abs c.args.g ≤ 4200000000 = omega (arith, c.requires.0, c.requires.1) in
    h ▹ ends

abbrev G : Code
G = mul (arg 0) (lit (pos 100000000))

n-is : (c : tie.Start) → to_z w64 c.args.n ≡ pos c.args.n
n-is c = count-is c.args.n c.requires.1 tt

some : (c : tie.Start) → pos 1 ≤ℤ pos c.args.n
some c = omega (arith, zs, c.requires.2)

near-requires : tie.Need-near-requires
near-requires c κs =
    let l : c.args.n ≤ 10000000000000000 = omega (arith, c.requires.1) in
    (within (bounds c) G 4000000000000000000 tt, count-size c.args.n l tt, subst (λ (z : ℤ). pos 1 ≤ℤ z) (sym (n-is c)) (some c))

returns : tie.Need-returns
returns c =
    let b = c.before in
    let e = c.near.ensures ∙ ap₂ near (runs (bounds b) G tt) (n-is b) in
    let l : nat_abs (b.args.g *ℤ pos 100000000) ≤ 100000000 * b.args.n = omega (arith, nat_abs_product b.args.g (pos 100000000), b.requires.0) in
    let h : nat_abs c.near.result ≤ 100000000 = omega (
      arith,
      ap nat_abs e,
      near-size (b.args.g *ℤ pos 100000000) (pos b.args.n) 100000000 (some b) l,
    ) in
    record { value = read_back c.near.result h tt ∙ e; size = read-size c.near.result 100000000 h tt }

pub share_spec : {M : Type 1} → statement M
share_spec = tie.close (tie.spec (λ c. fits (bounds c) G tt) (λ c. search rules) near-requires returns)

-- `besselian_rows::rows::find_directions` meets its contract.
use mathlib.Core.Path.{◌≡◌, ap, ap₂, ◌∙◌}
use Prim.Native.Nat.{ℕ, ◌≤◌}
use native.Mathlib.Omega.{arith}
use borrow.Author.Rules.{rules}
use lib.IntN.{ℤ, pos, nat_abs, ◌*ℤ◌}
use Rattle.rounding.specs.laws.Order.{fits64}
use Rattle.rounding.specs.Near.{near}
use Rattle.rounding.specs.Root.{root}
use Rattle.rounding.specs.laws.Code.{read_back, count-is}
use Rattle.besselian_rows.specs.Exact.{one}
use Rattle.besselian_rows.specs.Rounded.{r, R, cos-a, sin-a, sin_d, cos_d}
use Rattle.besselian_rows.specs.laws.ReadLaws.{back}
use Rattle.besselian_rows.specs.laws.AxisSizes
use Rattle.besselian_rows.proofs.rows.find_directions.Statement.{statement}
use Rattle.besselian_rows.proofs.rows.find_directions.Tie as tie

r-is : (c : tie.After-root-r) → c.root-r.result ≡ r c.args.p
unfolding r
r-is c = c.root-r.ensures ∙ ap root c.requires.1.flat

n-is : (c : tie.After-root-n) → c.root-n.result ≡ R c.args.p
unfolding R
n-is c = c.root-n.ensures ∙ ap root c.requires.1.whole

r-high : (c : tie.After-root-r) → c.root-r.result ≤ 4200000000
r-high c = let s = c.before in omega (arith, r-is c, AxisSizes.r-le s.args.p s.requires.0, AxisSizes.R-high s.args.p s.requires.0)

r_some : (c : tie.After-root-r) → 1 ≤ c.root-r.result
r_some c = let s = c.before in omega (arith, r-is c, AxisSizes.r-low s.args.p s.requires.0)

n-high : (c : tie.After-root-n) → c.root-n.result ≤ 4200000000
n-high c = let s = c.before.before in omega (arith, n-is c, AxisSizes.R-high s.args.p s.requires.0)

n-some : (c : tie.After-root-n) → 1 ≤ c.root-n.result
n-some c = let s = c.before.before in omega (arith, n-is c, AxisSizes.R-low s.args.p s.requires.0)

share-requires : tie.Need-share-cosa-requires
share-requires c κs =
    let s = c.before.before.before in
    let k = c.before.before in
    let e = back s.requires.1.gx (AxisSizes.gx-size s.args.p s.requires.0) tt in
    (omega (arith, ap nat_abs e, AxisSizes.gx-le s.args.p s.requires.0, r-is k), r-high k, r_some k)

share-requires-2 : tie.Need-share-sina-requires
share-requires-2 c κs =
    let s = c.before.before.before.before.before in
    let k = c.before.before.before.before in
    let e = back s.requires.1.gy (AxisSizes.gy-size s.args.p s.requires.0) tt in
    (omega (arith, ap nat_abs e, AxisSizes.gy-le s.args.p s.requires.0, r-is k), r-high k, r_some k)

share-requires-3 : tie.Need-share-sind-requires
share-requires-3 c κs =
    let s = c.before.before.before.before.before.before.before in
    let k = c.before.before.before.before.before in
    let e = back s.requires.1.gz (AxisSizes.gz-size s.args.p s.requires.0) tt in
    (omega (arith, ap nat_abs e, AxisSizes.gz-le s.args.p s.requires.0, n-is k), n-high k, n-some k)

cast-share : tie.Need-overflow_cast-r
cast-share c = let k = c.before.before.before.before.before.before.before in fits64 (pos k.root-r.result) (omega (arith, r-high k))

share-requires-4 : tie.Need-share-cosd-requires
share-requires-4 c κs =
    let s = c.before.before.before.before.before.before.before.before in
    let k = c.before.before.before.before.before.before.before in
    let m = c.before.before.before.before.before.before in
    let e = count-is k.root-r.result (r-high k) tt in
    (omega (arith, ap nat_abs e, AxisSizes.r-le s.args.p s.requires.0, r-is k, n-is m), n-high m, n-some m)

returns : tie.Need-returns
unfolding cos-a sin-a sin_d cos_d
returns c =
    let s = c.before.before.before.before.before.before.before.before.before in
    let k = c.before.before.before.before.before.before.before.before in
    let m = c.before.before.before.before.before.before.before in
    let a = c.share-cosa in
    let b = c.share-sina in
    let d = c.share-sind in
    let e = c.share-cosd in
    let p = s.args.p in
    let h = s.requires.0 in
    record {
      r = r-is k;
      n = n-is m;
      cosa = read_back a.result a.ensures.size tt ∙ a.ensures.value
          ∙ ap₂ (λ (z : ℤ) (n : ℕ). near (z *ℤ one) (pos n)) (back s.requires.1.gx (AxisSizes.gx-size p h) tt) (r-is k);
      sina = read_back b.result b.ensures.size tt ∙ b.ensures.value
          ∙ ap₂ (λ (z : ℤ) (n : ℕ). near (z *ℤ one) (pos n)) (back s.requires.1.gy (AxisSizes.gy-size p h) tt) (r-is k);
      sind = read_back d.result d.ensures.size tt ∙ d.ensures.value
          ∙ ap₂ (λ (z : ℤ) (n : ℕ). near (z *ℤ one) (pos n)) (back s.requires.1.gz (AxisSizes.gz-size p h) tt) (n-is m);
      cosd = read_back e.result e.ensures.size tt ∙ e.ensures.value
          ∙ ap₂ (λ (z : ℤ) (n : ℕ). near (z *ℤ one) (pos n)) (count-is k.root-r.result (r-high k) tt ∙ ap pos (r-is k)) (n-is m);
    }

pub find_directions_spec : {M : Type 1} → statement M
find_directions_spec = tie.close (tie.spec (λ c κs. search rules) (λ c κs. search rules) share-requires share-requires-2 share-requires-3 cast-share share-requires-4 returns)

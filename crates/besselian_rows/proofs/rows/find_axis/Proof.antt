-- `besselian_rows::rows::find_axis` meets its contract.
use mathlib.Core.Path.{◌≡◌, ap, ap₂, ◌∙◌}
use Prim.Native.Nat.{ℕ, ◌+◌, ◌*◌}
use native.Mathlib.Omega.{arith}
use borrow.Author.Rules.{rules}
use lib.IntN.{ℤ, nat_abs}
use Rattle.rounding.specs.laws.Code.{read_back, read-size}
use Rattle.besselian_rows.specs.Rounded.{gx, gy, gz, flat, whole}
use Rattle.besselian_rows.specs.laws.AxisSizes
use Rattle.besselian_rows.specs.AcceptedLaws.{moon-sizes, sun-sizes}
use Rattle.besselian_rows.proofs.rows.find_axis.Statement.{statement}
use Rattle.besselian_rows.proofs.rows.find_axis.Tie as tie

thousands-requires : tie.Need-thousands-gx-requires
thousands-requires c κs =
    let s = c.before.before in (
      read-size s.args.p.sunx 2400000000000 (sun-sizes s.args.p s.requires.sun).0 tt,
      read-size s.args.p.moonx 6500000000 (moon-sizes s.args.p s.requires.moon).0 tt,
    )

thousands-requires-2 : tie.Need-thousands-gy-requires
thousands-requires-2 c κs =
    let s = c.before.before.before.before.before in (
      read-size s.args.p.suny 2400000000000 (sun-sizes s.args.p s.requires.sun).1 tt,
      read-size s.args.p.moony 6500000000 (moon-sizes s.args.p s.requires.moon).1 tt,
    )

thousands-requires-3 : tie.Need-thousands-gz-requires
thousands-requires-3 c κs =
    let s = c.before.before.before.before.before.before.before.before in (
      read-size s.args.p.sunz 2400000000000 (sun-sizes s.args.p s.requires.sun).2 tt,
      read-size s.args.p.moonz 6500000000 (moon-sizes s.args.p s.requires.moon).2 tt,
    )

-- what the calls gave
gx-is : (c : tie.After-thousands-gx) → c.thousands-gx.result ≡ gx c.args.p
unfolding gx
gx-is c =
    let s = c.before.before.before in
    rw (
      read_back s.args.p.sunx (sun-sizes s.args.p s.requires.sun).0 tt,
      read_back s.args.p.moonx (moon-sizes s.args.p s.requires.moon).0 tt,
    ) at c.thousands-gx.ensures.value

gy-is : (c : tie.After-thousands-gy) → c.thousands-gy.result ≡ gy c.args.p
unfolding gy
gy-is c =
    let s = c.before.before.before.before.before.before in
    rw (
      read_back s.args.p.suny (sun-sizes s.args.p s.requires.sun).1 tt,
      read_back s.args.p.moony (moon-sizes s.args.p s.requires.moon).1 tt,
    ) at c.thousands-gy.ensures.value

gz-is : (c : tie.After-thousands-gz) → c.thousands-gz.result ≡ gz c.args.p
unfolding gz
gz-is c =
    let s = c.before.before.before.before.before.before.before.before.before in
    rw (
      read_back s.args.p.sunz (sun-sizes s.args.p s.requires.sun).2 tt,
      read_back s.args.p.moonz (moon-sizes s.args.p s.requires.moon).2 tt,
    ) at c.thousands-gz.ensures.value

flat-is : (c : tie.After-squared-zz) → c.squared-xx.result + c.squared-yy.result
    ≡ flat c.args.p
unfolding flat
flat-is c =
    let a = c.before.before.before.before.before.before.before.before.before in
    let b = c.before.before.before.before.before.before in
    let x = read_back a.thousands-gx.result a.thousands-gx.ensures.size tt ∙ gx-is a in
    let y = read_back b.thousands-gy.result b.thousands-gy.ensures.size tt ∙ gy-is b in
    ap₂ (λ (m n : ℕ). m + n) (c.squared-xx.ensures ∙ ap (λ (z : ℤ). nat_abs z * nat_abs z) x)
    (c.squared-yy.ensures ∙ ap (λ (z : ℤ). nat_abs z * nat_abs z) y)

whole_is : (c : tie.After-squared-zz) → c.squared-xx.result + c.squared-yy.result + c.squared-zz.result
    ≡ whole c.args.p
unfolding whole
whole_is c =
    let a = c.before.before.before in
    let z = read_back a.thousands-gz.result a.thousands-gz.ensures.size tt ∙ gz-is a in
    ap₂ (λ (m n : ℕ). m + n) (flat-is c) (c.squared-zz.ensures ∙ ap (λ (t : ℤ). nat_abs t * nat_abs t) z)

add-flat : tie.Need-overflow_add-flat
add-flat c =
    let s = c.before.before.before.before.before.before.before.before.before.before.before.before in
    record { fits = omega (arith, flat-is c, AxisSizes.flat-high s.args.p s.requires) }

add-whole : tie.Need-overflow_add-whole
add-whole c =
    let s = c.before.before.before.before.before.before.before.before.before.before.before.before in
    record { fits = omega (arith, whole_is c, AxisSizes.whole-high s.args.p s.requires) }

returns : tie.Need-returns
returns c =
    let x = c.before.before.before.before.before.before.before.before.before in
    let y = c.before.before.before.before.before.before in
    let z = c.before.before.before in
    record {
      gx = read_back x.thousands-gx.result x.thousands-gx.ensures.size tt ∙ gx-is x;
      gy = read_back y.thousands-gy.result y.thousands-gy.ensures.size tt ∙ gy-is y;
      gz = read_back z.thousands-gz.result z.thousands-gz.ensures.size tt ∙ gz-is z;
      flat = flat-is c;
      whole = whole_is c;
    }

pub find_axis_spec : {M : Type 1} → statement M
find_axis_spec =
    tie.close (tie.spec thousands-requires thousands-requires-2 thousands-requires-3 (λ c κs. search rules) (λ c κs. search rules) (λ c κs. search rules) add-flat
    add-whole returns)

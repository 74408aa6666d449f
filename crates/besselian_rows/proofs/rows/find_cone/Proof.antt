-- `besselian_rows::rows::find_cone` meets its contract.
use mathlib.Core.Path.{◌≡◌, ap, ap₂, ◌∙◌}
use mathlib.Core.List.{[], ◌∷◌}
use Prim.Native.Nat.{ℕ, ◌*◌, ◌-◌, ◌≤◌}
use native.Mathlib.Omega.{arith}
use native.Mathlib.Nat.{mul-le-mul}
use borrow.Author.Rules.{rules}
use lib.Dec.{lit≤}
use lib.IntN.{ℤ, pos, nat_abs, ◌*ℤ◌}
use lib.Signed.{le_z_yes}
use Rattle.rounding.specs.laws.Order.{fits64}
use Rattle.rounding.specs.Near.{near}
use Rattle.rounding.specs.Root.{root}
use Rattle.rounding.specs.laws.Code.{Code, arg, mul, Within, whole, raw, ends, ◌▹◌, fits, runs, within, count-is, count-size}
use Rattle.besselian_rows.specs.Exact.{one}
use Rattle.besselian_rows.specs.Rounded.{T, tan-f, slope, foot}
use Rattle.besselian_rows.specs.laws.ReadLaws.{same_size, back, back_size}
use Rattle.besselian_rows.specs.laws.AxisSizes
use Rattle.besselian_rows.specs.laws.Sizes
use Rattle.besselian_rows.proofs.rows.find_cone.Statement.{statement}
use Rattle.besselian_rows.proofs.rows.find_cone.Tie as tie

sub-root : tie.Need-overflow_sub-whole
sub-root c = omega (arith, c.requires.1.whole, Sizes.whole-low c.args.p c.requires.0, c.requires.2.square)

t-is : (c : tie.After-root-t) → c.root-t.result ≡ T c.args.p c.args.radii c.args.square
unfolding T
t-is c = c.root-t.ensures ∙ ap (λ (n : ℕ). root (n - c.args.square)) c.requires.1.whole

t-low : (c : tie.After-root-t) → 1990000000 ≤ c.root-t.result
t-low c =
    let s = c.before in
    let k = s.requires.2 in
    omega (arith, t-is c, Sizes.T-low s.args.p s.requires.0 s.args.radii s.args.square s.args.moon k)

t-high : (c : tie.After-root-t) → c.root-t.result ≤ 4200000000
t-high c =
    let s = c.before in
    let k = s.requires.2 in
    omega (arith, t-is c, Sizes.T-high s.args.p s.requires.0 s.args.radii s.args.square s.args.moon k)

near-unsigned-requires : tie.Need-near_unsigned-tangent-requires
near-unsigned-requires c κs =
    (omega (arith, c.requires.2.radii), omega (arith, t-high c), omega (arith, t-low c))

tan-is : (c : tie.After-near_unsigned-tangent) → pos c.near_unsigned-tangent.result
    ≡ tan-f c.args.p c.args.radii c.args.square
unfolding tan-f
tan-is c = c.near_unsigned-tangent.ensures ∙ ap (λ (n : ℕ). near (pos (c.args.radii * 100000)) (pos n)) (t-is c.before)

tan-high : (c : tie.After-near_unsigned-tangent) → c.near_unsigned-tangent.result ≤ 600000
tan-high c =
    let s = c.before.before in
    let k = s.requires.2 in
    omega (arith, ap nat_abs (tan-is c), Sizes.tan-size s.args.p s.requires.0 s.args.radii s.args.square s.args.moon k)

cast-tangent : tie.Need-overflow_cast-tangent
cast-tangent c = fits64 (pos c.near_unsigned-tangent.result) (omega (arith, tan-high c))

bounds : (c : tie.After-near_unsigned-tangent) → Within (whole c.args.z ∷ raw c.near_unsigned-tangent.result ∷ []) (19500000000 ∷ 600000 ∷ [])
bounds c =
    let s = c.before.before in
    same_size s.requires.1.z (Sizes.z-size s.args.p s.requires.0) ▹ count-size c.near_unsigned-tangent.result (tan-high c) tt ▹ ends

abbrev ZT : Code
ZT = mul (arg 0) (arg 1)

near-requires : tie.Need-near-slope-requires
near-requires c κs = (within (bounds c) ZT 4000000000000000000 tt, lit≤ tt, le_z_yes tt)

slope-is : (c : tie.After-near-slope) → c.near-slope.result ≡ slope c.args.p c.args.radii
    c.args.square
unfolding slope
slope-is c =
    let b = c.before in
    c.near-slope.ensures ∙ ap (λ (n : ℤ). near n one) (runs (bounds b) ZT tt
    ∙ ap₂ (λ (m n : ℤ). m *ℤ n) c.requires.1.z (count-is b.near_unsigned-tangent.result (tan-high b) tt ∙ tan-is b))

n-high : (c : tie.After-near-slope) → c.args.n ≤ 4200000000
n-high c = let s = c.before.before.before in omega (arith, s.requires.1.length, AxisSizes.R-high s.args.p s.requires.0)

-- the Moon's radius times the length
foot-room : (c : tie.After-near-slope) → c.args.moon * c.args.n ≤ 114660000000000000
foot-room c = omega (arith, mul-le-mul c.requires.2.moon (n-high c))

near-unsigned-requires-2 : tie.Need-near_unsigned-foot-requires
near-unsigned-requires-2 c κs =
    (omega (arith, foot-room c, t-high c.before.before), omega (arith, t-high c.before.before), omega (arith, t-low c.before.before))

foot-is : (c : tie.After-near_unsigned-foot) → pos c.near_unsigned-foot.result
    ≡ foot c.args.p c.args.radii c.args.square c.args.moon
unfolding foot
foot-is c =
    c.near_unsigned-foot.ensures ∙ ap₂ (λ (m n : ℕ). near (pos (c.args.moon * m)) (pos n)) c.requires.1.length
    (t-is c.before.before.before)

foot-high : (c : tie.After-near_unsigned-foot) → c.near_unsigned-foot.result ≤ 54600000
foot-high c =
    let s = c.before.before.before.before in
    let k = s.requires.2 in
    omega (arith, ap nat_abs (foot-is c), Sizes.foot_size s.args.p s.requires.0 s.args.radii s.args.square s.args.moon k)

cast-foot : tie.Need-overflow_cast-foot
cast-foot c = fits64 (pos c.near_unsigned-foot.result) (omega (arith, foot-high c))

returns : tie.Need-returns
returns c =
    let s = c.before.before.before.before in
    let k = s.requires.2 in
    let b = c.before.before in
    let l = Sizes.slope_size s.args.p s.requires.0 s.args.radii s.args.square s.args.moon k in
    record {
      tangent = count-is b.near_unsigned-tangent.result (tan-high b) tt ∙ tan-is b;
      slope = back (slope-is c.before) l tt;
      foot = count-is c.near_unsigned-foot.result (foot-high c) tt ∙ foot-is c;
      slope_size = back_size 117000000 (slope-is c.before) l tt;
      foot_size = count-size c.near_unsigned-foot.result (foot-high c) tt;
    }

pub find_cone_spec : {M : Type 1} → statement M
find_cone_spec =
    tie.close
    (tie.spec sub-root (λ c κs. search rules) (λ c. search rules) near-unsigned-requires cast-tangent
    (λ c. fits (bounds c) ZT tt) near-requires (λ c. record { fits = omega (arith, foot-room c) })
    near-unsigned-requires-2 cast-foot returns)

-- `shadow::coordinates_of` meets its contract: each letter is one near of products of what it is handed.
use mathlib.Core.Path.{◌≡◌, sym, ap, ◌∙◌, subst}
use mathlib.Core.List.{[], ◌∷◌}
use Prim.Native.Nat.{ℕ, ◌*◌, ◌≤◌}
use native.Mathlib.Omega.{arith}
use lib.Dec.{T, leb}
use lib.IntN.{ℤ, nat_abs, ◌+ℤ◌, ◌-ℤ◌, ◌*ℤ◌}
use lib.Signed.{le_z_yes}
use mir.Syntax.{w64}
use mir.Val.{to_z, of_z}
use Rattle.rounding.specs.laws.Code.{Code, arg, add, sub, mul, Within, whole, ends, ◌▹◌, fits, runs, within, sized, read_back}
use Rattle.rounding.specs.Units.{one}
use Rattle.rounding.specs.Near.{near}
use Rattle.rounding.proofs.laws.NearLaws.{near-size}
use Rattle.rounding.specs.Value.{Value}
use Rattle.shadow.proofs.coordinates_of.Statement.{statement}
use Rattle.shadow.proofs.coordinates_of.Tie as tie

abbrev start : tie.After-struct_told-6-1 → tie.Start
start c = c.before.before.before.before.before.before

-- what is handed over: r, p, then sin H, cos H, sin d, cos d
bounds : (c : tie.After-struct_told-6-1)
    → Within
    (whole (start c).args.place.r
    ∷ whole (start c).args.place.p
    ∷ whole (start c).args.o.hsine
    ∷ whole (start c).args.o.hcosine
    ∷ whole (start c).args.o.dsine
    ∷ whole (start c).args.o.dcosine
    ∷ [])
    (101000000 ∷ 101000000 ∷ 100000000 ∷ 100000000 ∷ 100000000 ∷ 100000000 ∷ [])
bounds c =
    let p = (start c).requires in
    p.0.r ▹ p.0.p ▹ p.1.hsine ▹ p.1.hcosine ▹ p.1.dsine ▹ p.1.dcosine ▹ ends

-- near over 10^8 of what the machine computed
unit : {n m r : ℤ} → r ≡ near n one → n ≡ m → r ≡ near m one
unit e f = e ∙ ap (λ (z : ℤ). near z one) f

unit_size : {r : ℤ} (n : ℤ) (m : ℕ) → r ≡ near n one → nat_abs n ≤ m * 100000000 → nat_abs r ≤ m
unit_size n m e h = omega (arith, ap nat_abs e, near-size n one m (le_z_yes tt) h)

q-is : (c : tie.After-near_unit-q) → c.near_unit-q.result ≡ near ((start c.before).args.place.r *ℤ (start c.before).args.o.hcosine) one
q-is c = unit c.near_unit-q.ensures (runs (bounds c.before) (mul (arg 0) (arg 3)) tt)

q-size : (c : tie.After-near_unit-q) → nat_abs c.near_unit-q.result ≤ 101000000
q-size c =
    unit_size ((start c.before).args.place.r *ℤ (start c.before).args.o.hcosine) 101000000 (q-is c) (sized (bounds c.before) (mul (arg 0) (arg 3)))

-- with q in front: q is 0, r 1, p 2, sin H 3, cos H 4, sin d 5, cos d 6
after : (c : tie.After-near_unit-q)
    → Within
    (whole c.near_unit-q.result
    ∷ whole (start c.before).args.place.r
    ∷ whole (start c.before).args.place.p
    ∷ whole (start c.before).args.o.hsine
    ∷ whole (start c.before).args.o.hcosine
    ∷ whole (start c.before).args.o.dsine
    ∷ whole (start c.before).args.o.dcosine
    ∷ [])
    (101000000 ∷ 101000000 ∷ 101000000 ∷ 100000000 ∷ 100000000 ∷ 100000000 ∷ 100000000 ∷ [])
after c = q-size c ▹ bounds c.before

abbrev xi : Code
xi = mul (arg 1) (arg 3)

abbrev eta : Code
eta = sub (mul (arg 2) (arg 6)) (mul (arg 0) (arg 5))

abbrev zeta : Code
zeta = add (mul (arg 2) (arg 5)) (mul (arg 0) (arg 6))

near-unit-requires : tie.Need-near_unit-q-requires
near-unit-requires c κs = within (bounds c) (mul (arg 0) (arg 3)) 1000000000000000000 tt

mul-near-unit-3 : tie.Need-overflow_mul-p
mul-near-unit-3 c = fits (after c.before) (mul (arg 2) (arg 6)) tt

mul-near-unit-4 : tie.Need-overflow_mul-q
mul-near-unit-4 c = fits (after c.before) (mul (arg 0) (arg 5)) tt

near-unit-requires-3 : tie.Need-near_unit-eta-requires
near-unit-requires-3 c κs = within (after c.before) eta 1000000000000000000 tt

mul-near-unit-5 : tie.Need-overflow_mul-p-2
mul-near-unit-5 c = fits (after c.before.before) (mul (arg 2) (arg 5)) tt

mul-near-unit-6 : tie.Need-overflow_mul-q-2
mul-near-unit-6 c = fits (after c.before.before) (mul (arg 0) (arg 6)) tt

near-unit-requires-4 : tie.Need-near_unit-zeta-requires
near-unit-requires-4 c κs = within (after c.before.before) zeta 1000000000000000000 tt

-- a result that is near of z, read back
given : {r : ℤ} (z : ℤ) (m : ℕ) → r ≡ near z one → nat_abs r ≤ m → T (leb m 9223372036854775807) → Value (near z one) m (to_z w64 (of_z w64 r))
given {r} z m e h t = record { value = read_back r h t ∙ e; size = subst (λ (y : ℤ). nat_abs y ≤ m) (sym (read_back r h t)) h }

returns : tie.Need-returns
returns c =
    let a = (start c.before.before.before.before).args in
    let r = a.place.r in
    let p = a.place.p in
    let o = a.o in
    let w = after c.before.before.before in
    let q = c.near_unit-q.result in
    let e = q-is c.before.before.before in
    let x = unit c.near_unit-xi.ensures (runs w xi tt) in
    let y = unit c.near_unit-eta.ensures (runs w eta tt) in
    let z = unit c.near_unit-zeta.ensures (runs w zeta tt) in
    record {
      xi = given (r *ℤ o.hsine) 101000000 x (unit_size (r *ℤ o.hsine) 101000000 x (sized w xi)) tt;
      eta = subst (λ (k : ℤ). Value (near (p *ℤ o.dcosine -ℤ k *ℤ o.dsine) one) 202000000 (to_z w64 (of_z w64 c.near_unit-eta.result))) e
          (given (p *ℤ o.dcosine -ℤ q *ℤ o.dsine) 202000000 y (unit_size (p *ℤ o.dcosine -ℤ q *ℤ o.dsine) 202000000 y (sized w eta)) tt);
      zeta = subst (λ (k : ℤ). Value (near (p *ℤ o.dsine +ℤ k *ℤ o.dcosine) one) 202000000 (to_z w64 (of_z w64 c.near_unit-zeta.result))) e
          (given (p *ℤ o.dsine +ℤ q *ℤ o.dcosine) 202000000 z (unit_size (p *ℤ o.dsine +ℤ q *ℤ o.dcosine) 202000000 z (sized w zeta)) tt);
    }

pub coordinates_of_spec : {M : Type 1} → statement M
coordinates_of_spec =
    tie.close
    (tie.spec (λ c. fits (bounds c) (mul (arg 0) (arg 3)) tt) near-unit-requires (λ c. fits (after c) xi tt)
    (λ c κs. within (after c) xi 1000000000000000000 tt) mul-near-unit-3 mul-near-unit-4
    (λ c. fits (after c.before) eta tt) near-unit-requires-3 mul-near-unit-5 mul-near-unit-6
    (λ c. fits (after c.before.before) zeta tt) near-unit-requires-4 returns)

-- `station::c_of` meets its contract: each call gives its part of C, and the laws of PlaceLaws give their sizes; what
-- is under the root is not negative.
use mathlib.Core.Path.{◌≡◌, sym, ap, ◌∙◌, subst}
use mathlib.Core.List.{[], ◌∷◌}
use Prim.Native.Nat.{◌≤◌}
use native.Mathlib.Omega.{arith}
use borrow.Author.Rules.{rules}
use lib.Dec.{lit≤}
use lib.IntN.{ℤ, pos, nat_abs, ◌+ℤ◌, ◌*ℤ◌}
use lib.Signed.{◌≤ℤ◌}
use mir.Syntax.{w64}
use mir.Val.{to_z, of_z}
use Rattle.rounding.specs.laws.Order.{zs, fits64}
use Rattle.rounding.specs.laws.Code.{Code, arg, lit, add, mul, Within, whole, ends, ◌▹◌, fits, runs, within, unsigned, read_back, read-size}
use Rattle.rounding.specs.Units.{one}
use Rattle.rounding.specs.Near.{near}
use Rattle.rounding.specs.Root.{root}
use Rattle.station.specs.Place.{E, under, W, C}
use Rattle.station.proofs.laws.PlaceLaws.{n-size, under-nonneg, root-low, root-high, C-size}
use Rattle.station.proofs.c_of.Statement.{statement}
use Rattle.station.proofs.c_of.Tie as tie

bounds : (c : tie.Start) → Within (whole c.args.sine ∷ []) (100000000 ∷ [])
bounds c = c.requires.0 ▹ ends

abbrev sE : Code
sE = mul (arg 0) (lit (pos 99330658))

-- what `near_unit` gave
e-is : (c : tie.After-near_unit-e) → c.near_unit-e.result ≡ near (c.args.sine *ℤ E) one
e-is c = c.near_unit-e.ensures ∙ ap (λ (z : ℤ). near z one) (runs (bounds c.before) sE tt)

after : (c : tie.After-near_unit-e) → Within (whole c.args.cosine ∷ whole c.near_unit-e.result ∷ whole c.args.sine ∷ [])
    (100000000 ∷ 100000000 ∷ 100000000 ∷ [])
after c =
    let b = c.before in
    let h : nat_abs c.near_unit-e.result ≤ 100000000 = omega
    (arith, ap nat_abs (e-is c), n-size b.args.sine b.args.cosine b.requires.0 b.requires.1 b.requires.2) in
    b.requires.1 ▹ h ▹ b.requires.0 ▹ ends

abbrev U : Code
U = add (mul (arg 0) (arg 0)) (mul (arg 1) (arg 2))

-- what is under the root
under-is : (c : tie.After-near_unit-e) → c.args.cosine *ℤ c.args.cosine +ℤ c.near_unit-e.result *ℤ c.args.sine ≡ under
    c.args.sine c.args.cosine
unfolding under
under-is c = ap (λ (z : ℤ). c.args.cosine *ℤ c.args.cosine +ℤ z *ℤ c.args.sine) (e-is c)

-- what `root` gave
w-is : (c : tie.After-root-w) → c.root-w.result ≡ root (nat_abs (under c.args.sine c.args.cosine))
w-is c = c.root-w.ensures ∙ ap (λ (z : ℤ). root (nat_abs z)) (runs (after c.before) U tt ∙ under-is c.before)

w-low : (c : tie.After-root-w) → 99463000 ≤ c.root-w.result
w-low c = let b = c.before.before in rw (w-is c) (root-low b.args.sine b.args.cosine b.requires.0 b.requires.1 b.requires.2)

w-high : (c : tie.After-root-w) → c.root-w.result ≤ 141421357
w-high c = let b = c.before.before in rw (w-is c) (root-high b.args.sine b.args.cosine b.requires.0 b.requires.1 b.requires.2)

w-back : (c : tie.After-root-w) → to_z w64 (of_z w64 (pos c.root-w.result)) ≡ pos c.root-w.result
w-back c = read_back (pos c.root-w.result) {m = 141421357} (w-high c) tt

cast-root : tie.Need-overflow_cast-under
cast-root c =
    let b = c.before in
    unsigned (after c) U tt (subst (λ (z : ℤ). pos 0 ≤ℤ z) (sym (under-is c))
    (under-nonneg b.args.sine b.args.cosine b.requires.0 b.requires.1 b.requires.2))

cast-near : tie.Need-overflow_cast-w
cast-near c = fits64 (pos c.root-w.result) (omega (arith, w-high c))

near-requires : tie.Need-near-requires
near-requires c κs =
    (lit≤ tt, read-size (pos c.root-w.result) 10000000000000000 (w-high c) tt, subst (λ (z : ℤ). pos 1 ≤ℤ z) (sym (w-back c)) (omega (arith, zs, w-low c)))

returns : tie.Need-returns
unfolding C W
returns c =
    let b = c.before.before.before in
    let e = c.near.ensures ∙ ap (λ (z : ℤ). near (pos 10000000000000000) z) (w-back c.before ∙ ap pos (w-is c.before)) in
    let h : nat_abs c.near.result ≤ 100600000 = omega (arith, ap nat_abs e, C-size b.args.sine b.args.cosine b.requires.0 b.requires.1 b.requires.2) in
    record { value = read_back c.near.result h tt ∙ e; size = read-size c.near.result 100600000 h tt }

pub c_of_spec : {M : Type 1} → statement M
c_of_spec =
    tie.close
    (tie.spec (λ c. fits (bounds c) sE tt) (λ c κs. within (bounds c) sE 1000000000000000000 tt)
    (λ c. fits (after c) (mul (arg 0) (arg 0)) tt) (λ c. fits (after c) (mul (arg 1) (arg 2)) tt)
    (λ c. fits (after c) U tt) cast-root (λ c κs. search rules) cast-near near-requires returns)

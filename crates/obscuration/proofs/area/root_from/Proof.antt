-- `obscuration::area::root_from` meets its contract. The loop's invariant: y is at least the root. The measure is y.
-- Why: with q = n / y, rounded down, n is below (q + 1)·y; were y + q below twice the root s, that would be at most
-- (2s - y)·y, which is s² - (s - y)², and so n below s². And where y² is at most n, y is at most the root.
use mathlib.Core.List.{[], ◌∷◌}
use Prim.Native.Nat.{ℕ, zero, suc, ◌+◌, ◌*◌, ◌/◌, ◌≤◌, ◌<◌}
use native.Mathlib.Omega.{arith}
use native.Mathlib.Nat.{div-add-mod, mod-lt, mul-le-mul, lt_of_not-le}
use borrow.Author.Rules.{rules}
use lib.IntN.{pos, ◌+ℤ◌, ◌*ℤ◌}
use lib.Signed.{◌≤ℤ◌, ◌<ℤ◌}
use Rattle.rounding.specs.laws.Order.{zs}
use Rattle.rounding.specs.laws.Ring.{num, ◌⊕◌, ◌⊖◌, ◌⊗◌, v0, v1, v2, v3}
use Rattle.rounding.specs.laws.Cert.{leq, less, sq, ◌⊞◌, ◌⊠◌, certify}
use Rattle.rounding.specs.Root.{root}
use Rattle.rounding.specs.laws.RootLaws.{root_is, root-least}
use Rattle.obscuration.proofs.area.root_from.Statement.{statement}
use Rattle.obscuration.proofs.area.root_from.Tie as tie

-- n is below (q + 1)·y; 0 is y, 1 is q, 2 is n and 3 a number whose square is at most n
twice : (n y s : ℕ) → 1 ≤ y → s * s ≤ n → 2 * s ≤ y + n / y
twice n y s h l = omega (arith, lt_of_not-le clash)
  where
    q : ℕ
    q = n / y

    clash : y + q + 1 ≤ 2 * s → ⊥
    clash g =
        let e : n < (q + 1) * y = omega (arith, div-add-mod n y, mod-lt n {m = y} h) in
        let a : (pos s *ℤ pos s) ≤ℤ pos n = omega (arith, zs) in
        let b : pos n <ℤ ((pos q +ℤ pos 1) *ℤ pos y) = omega (arith, zs) in
        let d : (pos y +ℤ pos q +ℤ pos 1) ≤ℤ (pos 2 *ℤ pos s) = omega (arith, zs) in
        let z : pos 0 ≤ℤ pos y = omega (arith, zs) in
        let over = leq (num 0) v0 z ⊠ leq (v0 ⊕ v1 ⊕ num 1) (num 2 ⊗ v3) d ⊞ sq (v3 ⊖ v0) in
        let c = leq (v3 ⊗ v3) v2 a ⊞ less v2 ((v1 ⊕ num 1) ⊗ v0) b ⊞ over in
        omega (arith, zs, certify 0 (pos y ∷ pos q ∷ pos n ∷ pos s ∷ []) (num 1) (num 0) c tt)

step : (n y : ℕ) → 1 ≤ y → n < 18446744073709551616 → root n ≤ (y + n / y) / 2
step n y h l = omega (arith, twice n y (root n) h (root_is n l).low)

-- a quotient by at least 1,000,000; by a number whose square is more
quotient-small : (n y : ℕ) → 1000000 ≤ y → n ≤ 1600000000000000 → n / y ≤ 1600000000
quotient-small n y h l =
    omega (arith, lt_of_not-le (λ (g : 1600000001 ≤ n / y). absurd (omega (arith, div-add-mod n y, mul-le-mul h g))))

quotient-below : (n y : ℕ) → n < y * y → n / y < y
quotient-below n y h =
    lt_of_not-le (λ (g : y ≤ n / y). absurd (omega (arith, div-add-mod n y, mul-le-mul {n₁ = y} {m₁ = y} {n₂ = y} (omega arith) g)))

above : (n y : ℕ) → n < y * y → 1 ≤ y
above n zero h = absurd (omega arith)
above n (suc y) h = omega arith

abbrev invariant-loop : tie.invariant-loop-y
invariant-loop start n y₀ y = (root n ≤ y) × (y ≤ 820000000)

abbrev decreases-loop : tie.decreases-loop-y
decreases-loop start n y₀ y = y

add-y : tie.Need-overflow_add-y invariant-loop decreases-loop
add-y c = omega (arith, quotient-small c.args.n c.args.start c.requires.0 c.requires.2)

loop-holds : tie.Need-loop-y-init invariant-loop decreases-loop
loop-holds c =
    let a = c.args in
    let p = c.requires in
    (step a.n a.start (omega arith) (omega arith), omega (arith, quotient-small a.n a.start p.0 p.2))

mul-loop : tie.Need-overflow_mul-y invariant-loop decreases-loop
mul-loop c = let h = c.loop-y.invariant.1 in omega (arith, mul-le-mul h h)

falls : (c : tie.In-loop-y invariant-loop decreases-loop) → c.args.n / c.loop-y.y < c.loop-y.y
falls c = quotient-below c.args.n c.loop-y.y c.loop-y-test.true

div-y-2 : tie.Need-nonzero_div-y-in-loop-y invariant-loop decreases-loop
div-y-2 c = above c.args.n c.loop-y.y c.loop-y-test.true

add-y-2 : tie.Need-overflow_add-y-in-loop-y invariant-loop decreases-loop
add-y-2 c = omega (arith, falls c, c.loop-y.invariant.1)

loop-again : tie.Need-loop-y-preserved invariant-loop decreases-loop
loop-again c =
    let n = c.args.n in
    let y = c.loop-y.y in
    (step n y (above n y c.loop-y-test.true) (omega (arith, c.requires.2)), omega (arith, falls c, c.loop-y.invariant.1))

returns : tie.Need-returns invariant-loop decreases-loop
returns c =
    let n = c.args.n in
    let small : n < 18446744073709551616 = omega (arith, c.requires.2) in
    omega (arith, c.loop-y.invariant.0, root-least n c.loop-y.y small c.loop-y-test.false)

pub root_from_spec : {M : Type 1} → statement M
root_from_spec =
    tie.close
    (tie.spec invariant-loop decreases-loop (λ c. search rules) add-y loop-holds mul-loop div-y-2 add-y-2
    (λ c. omega (arith, falls c)) loop-again returns)

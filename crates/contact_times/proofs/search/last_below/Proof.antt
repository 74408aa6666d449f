-- `contact_times::search::last_below` meets its contract: each round halves as `halved` does, so what is left to halve
-- gives the same as the whole.
use mathlib.Core.Path.{◌≡◌, refl, sym, ap, ◌∙◌}
use mathlib.Core.Bool.{Bool, true, false}
use Prim.Native.Nat.{ℕ, ◌+◌, ◌-◌, ◌/◌, ◌≤◌, ◌<◌}
use native.Mathlib.Omega.{arith}
use lib.Dec.{ltb}
use lib.IntN.{ℤ, pos, nat_abs, ◌+ℤ◌}
use mir.Syntax.{w64}
use mir.Val.{to_z, of_z}
use borrow.Author.Tests.{lt-ltb, le-ltb}
use Rattle.rounding.specs.Parts.{sum}
use Rattle.rounding.specs.laws.Code.{read_back}
use Rattle.rounding.specs.laws.Order.{nat_abs_parts, nat_abs_by}
use Rattle.contact_times.specs.declared.hundredths.Crossing.{Crossing}
use Rattle.contact_times.specs.Brackets.{side_at, halved, last_below}
use Rattle.contact_times.specs.laws.BracketLaws.{halved-up, halved-down, halved-end}
use Rattle.contact_times.proofs.search.last_below.Statement.{statement}
use Rattle.contact_times.proofs.search.last_below.Tie as tie

-- what is left to halve
pub record Left (f : ℕ → Bool) (from to low high : ℕ) : Type 0 where
  pub apart : low < high
  pub high_le : high ≤ to
  pub same : halved (high - low) f low high ≡ halved (to - from) f from to

-- a hundredth between two that are in the range is in it
between : (first : ℤ) (k to : ℕ) → k ≤ to → nat_abs first ≤ 1080000 → nat_abs (first +ℤ pos to) ≤ 1080000 → nat_abs (first +ℤ pos k) ≤ 1080000
between first k to h a b =
    nat_abs_by (first +ℤ pos k)
    (omega (arith, (sum first (pos k)).is, (sum first (pos to)).is, nat_abs_parts first, nat_abs_parts (first +ℤ pos to)))
    (omega (arith, (sum first (pos k)).is, (sum first (pos to)).is, nat_abs_parts first, nat_abs_parts (first +ℤ pos to)))

abbrev test : Crossing → (first : ℤ) (start bound : ℕ) → ℕ → Bool
test c first start bound k = ltb (side_at c first start k) bound

abbrev invariant-loop : tie.invariant-loop-low
invariant-loop table c first start bound from to low₀ high₀ low high = Left (test c (to_z w64 first) start bound) from to low high

abbrev decreases-loop : tie.decreases-loop-low
decreases-loop table c first start bound from to low₀ high₀ low high = high - low

loop-holds : tie.Need-loop-low-init invariant-loop decreases-loop
loop-holds c = record { apart = c.requires.5; high_le = omega arith; same = refl }

add-loop : tie.Need-overflow_add-low invariant-loop decreases-loop
add-loop c = record { fits = omega (arith, c.loop-low.invariant.apart, c.loop-low.invariant.high_le, c.requires.3) }

add-k : tie.Need-overflow_add-k invariant-loop decreases-loop
add-k c = record { fits = omega (arith, c.loop-low.invariant.apart, c.loop-low.invariant.high_le, c.requires.3) }

side-at-requires : tie.Need-side_at-s-requires invariant-loop decreases-loop
side-at-requires c κs =
    let s = c.before.before.before in
    let b = c.loop-low.invariant in
    let k = (c.loop-low.low + c.loop-low.high) / 2 in
    let h : k ≤ s.args.to = omega (arith, b.apart, b.high_le) in
    let r = read_back s.args.first s.requires.2 tt in
    (s.requires.0, s.requires.1, rw r s.requires.2, omega (arith, h, s.requires.3), rw r (between s.args.first k s.args.to h s.requires.2 s.requires.4))

loop-less : tie.Need-loop-low-smaller-then-s-bound invariant-loop decreases-loop
loop-less c = let b = c.loop-low.invariant in omega (arith, b.apart)

loop-again : tie.Need-loop-low-preserved-then-s-bound invariant-loop decreases-loop
loop-again c =
    let l = c.loop-low in
    let b = l.invariant in
    let a = c.args in
    let f = test a.c (to_z w64 (of_z w64 a.first)) a.start a.bound in
    let k = (l.low + l.high) / 2 in
    let e : f k ≡ true = lt-ltb (side_at a.c (to_z w64 (of_z w64 a.first)) a.start k) a.bound (omega (arith, c.side_at-s.ensures)) in
    record {
      apart = omega (arith, b.apart);
      high_le = b.high_le;
      same = sym (halved-up f l.low l.high (omega arith) e) ∙ b.same;
    }

loop-less-2 : tie.Need-loop-low-smaller invariant-loop decreases-loop
loop-less-2 c = let b = c.loop-low.invariant in omega (arith, b.apart)

loop-again-2 : tie.Need-loop-low-preserved invariant-loop decreases-loop
loop-again-2 c =
    let l = c.loop-low in
    let b = l.invariant in
    let a = c.args in
    let f = test a.c (to_z w64 (of_z w64 a.first)) a.start a.bound in
    let k = (l.low + l.high) / 2 in
    let e : f k ≡ false = le-ltb (side_at a.c (to_z w64 (of_z w64 a.first)) a.start k) a.bound (omega (arith, c.side_at-s.ensures)) in
    record {
      apart = omega (arith, b.apart);
      high_le = omega (arith, b.apart, b.high_le);
      same = sym (halved-down f l.low l.high (omega arith) e) ∙ b.same;
    }

returns : tie.Need-returns invariant-loop decreases-loop
unfolding last_below
returns c =
    let l = c.loop-low in
    let b = l.invariant in
    let s = c.before.before.before in
    let a = s.args in
    let f = test a.c (to_z w64 (of_z w64 a.first)) a.start a.bound in (
      sym (halved-end f (l.high - l.low) l.low l.high (omega arith)) ∙ b.same
          ∙ ap (λ (z : ℤ). halved (a.to - a.from) (test a.c z a.start a.bound) a.from a.to) (read_back a.first s.requires.2 tt),
      omega (arith, b.apart, b.high_le),
    )

pub last_below_spec : {M : Type 1} → statement M
last_below_spec =
    tie.close
    (tie.spec invariant-loop decreases-loop loop-holds add-loop add-k side-at-requires loop-less loop-again loop-less-2
    loop-again-2 returns)

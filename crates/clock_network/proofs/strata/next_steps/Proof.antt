-- `clock_network::strata::next_steps` meets its contract: 1 at the antenna, else one more than what is known of the
-- station followed.
use native.Mathlib.Omega.{arith}
use borrow.Author.Rules.{rules}
use Prim.Native.Nat.{ℕ}
use mathlib.Core.List.{List}
use lib.ListN.{length, get_or}
use lib.IntN.{ℤ, pos}
use mir.Syntax.{w64}
use mir.Val.{of_z}
use mathlib.Core.Path.{◌≡◌, ap}
use Rattle.clock_network.specs.laws.First.{First}
use Rattle.clock_network.specs.laws.Bits.{zero_bits}
use Rattle.clock_network.specs.Steps.{At}
use Rattle.clock_network.specs.laws.Laws.{placed, next_antenna, next-nowhere, next-unknown, next_known}
use Rattle.clock_network.proofs.strata.next_steps.Statement.{statement}
use Rattle.clock_network.proofs.strata.next_steps.Tie as tie
use Rattle.clock_network.proofs.strata.next_steps.Reads as reads
use Rattle.clock_network.proofs.strata.next_steps.Lts as lts
use Rattle.clock_network.proofs.strata.place.Reads as place-reads

abbrev Start : Type 0
Start = lts.Start (place-reads.Asked, place-reads.Learnt) reads.Pre reads.Post

abbrev ns : Start → List ℤ
ns c = c.args.numbers.now

abbrev cs : Start → List ℤ
cs c = c.args.clocks.now

abbrev st : Start → List ℕ
st c = c.args.steps.now

-- where the clock's number stands first
here : (c : lts.After-place-j (place-reads.Asked, place-reads.Learnt) reads.Pre reads.Post) → let b = c.before.before.before.before in First (At (ns b) (get_or (cs b) b.args.i (pos 0))) (length (ns b)) c.place-j.result
here c = let b = c.before.before.before.before in placed (ns b) (length (ns b)) c.place-j.result (get_or (cs b) b.args.i (pos 0)) (record { sfits = c.x-1.given }) c.place-j.ensures

other : (c : lts.Else-x-eq0 (place-reads.Asked, place-reads.Learnt) reads.Pre reads.Post) → let b = c.before.before.before in get_or (cs b) b.args.i (pos 0) ≡ pos 0 → ⊥
other c e = c.if-x-eq0.false (ap (of_z w64) e)

returns : tie.Need-returns-then-x-eq0
returns c = next_antenna (ns c.before.before.before) (cs c.before.before.before) (st c.before.before.before) c.args.i c.requires.4 c.requires.2 (zero_bits (record { sfits = c.x-1.given }) c.if-x-eq0.true)

returns-2 : tie.Need-returns-then-j-numbers
returns-2 c = let b = c.before.before.before.before.before in next-nowhere (ns b) (cs b) b.args.i c.place-j.result (here c.before) (other c.before.before) (st b) b.requires.4 c.if-j-numbers.true

returns-3 : tie.Need-returns-then-steps-j-eq0
returns-3 c = let b = c.before.before.before.before.before.before.before in next-unknown (ns b) (cs b) b.args.i c.place-j.result (here c.before.before.before) (other c.before.before.before.before) (st b) b.requires.4 b.requires.3 c.if-j-numbers.false c.if-steps-j-eq0.true

add-result : tie.Need-overflow_add-result
add-result c = let b = c.before.before.before.before.before.before.before.before in omega (arith, b.requires.4 c.place-j.result)

returns-4 : tie.Need-returns
returns-4 c = let b = c.before.before.before.before.before.before.before.before in next_known (ns b) (cs b) b.args.i c.place-j.result (here c.before.before.before.before) (other c.before.before.before.before.before) (st b) b.requires.4 b.requires.2 c.if-j-numbers.false c.if-steps-j-eq0.false

pub next_steps_spec : {M : Type 1} → statement M
next_steps_spec =
    tie.close
    (tie.spec (λ c. search rules) (λ c. search rules) returns (λ c κs. search rules) returns-2
    (λ c. search rules) returns-3 (λ c. search rules) add-result returns-4)

-- `adaptive_sampling::guesses::crossing` meets its contract: each of its guesses lies within the stretch.
use Prim.Native.Nat.{◌≤◌}
use mathlib.Core.Path.{ap}
use lib.IntN.{nat_abs}
use Rattle.rounding.specs.laws.Code.{read_back, read-size}
use native.Mathlib.Omega.{arith}
use borrow.Author.Rules.{rules}
use Rattle.adaptive_sampling.proofs.guesses.crossing.Statement.{statement}
use Rattle.adaptive_sampling.proofs.guesses.crossing.Tie as tie

x-small : (c : tie.After-size-x) → c.size-x.result ≤ 9223372036854775807
x-small c =
    let e = c.excess-first in
    omega (arith, c.size-x.ensures, ap nat_abs (read_back e.result e.ensures tt), e.ensures)

y-small : (c : tie.After-size-y) → c.size-y.result ≤ 9223372036854775807
y-small c =
    let e = c.excess-second in
    omega (arith, c.size-y.ensures, ap nat_abs (read_back e.result e.ensures tt), e.ensures)

size-requires : tie.Need-size-x-requires
size-requires c κs = read-size c.excess-first.result 9223372036854775807 c.excess-first.ensures tt

size-requires-2 : tie.Need-size-y-requires
size-requires-2 c κs = read-size c.excess-second.result 9223372036854775807 c.excess-second.ensures tt

returns : tie.Need-returns-then-second-lt0
returns c = search rules

entry-requires : tie.Need-entry-t-requires
entry-requires c κs =
    let p = c.requires in
    (y-small c.before.before, x-small c.before.before.before, omega (arith, c.chord_of-d.ensures.0), p.4, p.5)

returns-2 : tie.Need-returns-then-first-lt0
returns-2 c = search rules

entry-requires-2 : tie.Need-entry-requires
entry-requires-2 c κs =
    let p = c.requires in
    (x-small c.before.before.before, y-small c.before.before, omega (arith, c.chord_of-d.ensures.0), p.4, p.5)

returns-3 : tie.Need-returns-then-second-lt0-2
returns-3 c = search rules

returns-4 : tie.Need-returns
returns-4 c = search rules

pub crossing_spec : {M : Type 1} → statement M
crossing_spec = tie.close (tie.spec (λ c κs. search rules) (λ c κs. search rules) (λ c κs. search rules) size-requires size-requires-2 (λ c κs. search rules) returns entry-requires (λ c. search rules) returns-2 entry-requires-2 returns-3 (λ c κs. search rules) returns-4)

-- `adaptive_sampling::guesses::approach` meets its contract: each of its guesses lies within the stretch.
use Prim.Native.Nat.{◌+◌, ◌/◌, ◌≤◌}
use mathlib.Core.Path.{ap}
use native.Mathlib.Nat.{div-le_self}
use lib.IntN.{nat_abs}
use Rattle.rounding.specs.laws.Code.{read_back, read-size}
use native.Mathlib.Omega.{arith}
use borrow.Author.Rules.{rules}
use Rattle.adaptive_sampling.proofs.guesses.approach.Statement.{statement}
use Rattle.adaptive_sampling.proofs.guesses.approach.Tie as tie

speed : (c : tie.After-size-along) → c.size-along.result / c.args.h / (c.at_most-k.result + 1) ≤ 4000000000000000000
speed c =
    let e = c.chord_of-d in
    let x = c.size-along.result in
    let h = c.args.h in
    let k = c.at_most-k.result + 1 in
    omega (arith, c.size-along.ensures, ap nat_abs (read_back e.result.along e.ensures.1 tt), e.ensures.1, div-le_self x h, div-le_self (x / h) k)

size-requires : tie.Need-size-m-requires
size-requires c κs = let s = c.before.before in read-size s.args.c.m 9223372036854775807 s.requires.1.m tt

add-speed : tie.Need-overflow_add-speed
add-speed c =
    let x = c.before.before.before.before.before.before in
    let q = x.chord_of-d.result.square in
    let h = x.args.h in
    record { fits = omega (arith, div-le_self (q / h) h, div-le_self q h, x.chord_of-d.ensures.0) }

returns : tie.Need-returns-then-k-near
returns c = search rules

returns-2 : tie.Need-returns-then-t-gt0
returns-2 c = search rules

size-requires-2 : tie.Need-size-along-requires
size-requires-2 c κs = let e = c.chord_of-d in read-size e.result.along 9223372036854775807 e.ensures.1 tt

returns-3 : tie.Need-returns
returns-3 c = search rules

pub approach_spec : {M : Type 1} → statement M
approach_spec = tie.close (tie.spec (λ c κs. search rules) size-requires (λ c κs. search rules) (λ c κs. search rules) (λ c. search rules) (λ c. search rules) (λ c. search rules) add-speed (λ c. search rules) (λ c. search rules) (λ c κs. search rules) (λ c κs. search rules) (λ c. search rules) (λ c κs. search rules) returns (λ c κs. search rules) (λ c κs. search rules) returns-2 size-requires-2 (λ c. search rules) (λ c. search rules) (λ c. search rules) (λ c. record { fits = omega (arith, speed c) }) (λ c. record { fits = omega (arith, speed c) }) (λ c κs. search rules) returns-3)

-- `clock_network::checks::check_clocks` meets its contract: the ways of 14, 15, 16.
use Rattle.std.specs.Prelude.{Result, Err}
use mathlib.Core.Path.{sym, ap, ◌∙◌}
use Rattle.sheet_types.specs.declared.refusals.Refusal.{Refusal}
use Prim.Native.Nat.{ℕ, ◌≤◌}
use native.Mathlib.Omega.{arith}
use borrow.Author.Rules.{rules}
use lib.ListN.{length}
use Rattle.sheet_types.specs.Refusals.{refusal}
use Rattle.clock_network.specs.Defined.{firstRepeat, firstStray}
use Rattle.clock_network.specs.CheckLaws.{once, clocks-14, clocks-15, clocks-16, clocks-within}
use Rattle.clock_network.proofs.checks.check_clocks.Statement.{statement}
use Rattle.clock_network.proofs.checks.check_clocks.Tie as tie

-- a refusal at the place that was found
abbrev at : ℕ → ℕ → Result Unit Refusal
at number place = Err (refusal number place)

none-repeats : (c : tie.Else-repeat-n) → let ns = c.args.numbers.now in length ns ≤ firstRepeat ns
none-repeats c = omega (arith, c.first_repeat-repeat.ensures, c.if-repeat-n.false)

none-strays : (c : tie.Else-stray-n) → let a = c.args in length a.numbers.now ≤ firstStray a.numbers.now a.clocks.now
none-strays c = omega (arith, c.first_stray-stray.ensures, c.if-stray-n.false)

returns : tie.Need-returns-then-repeat-n
returns c =
    let a = c.args in
    let e = c.first_repeat-repeat.ensures in
    ap (at 14) e ∙ sym (clocks-14 a.numbers.now a.clocks.now (omega (arith, e, c.if-repeat-n.true)))

returns-2 : tie.Need-returns-then-stray-n
returns-2 c =
    let b = c.before.before in
    let a = b.args in
    let e = c.first_stray-stray.ensures in
    ap (at 15) e ∙ sym (clocks-15 a.numbers.now a.clocks.now (none-repeats b) (omega (arith, e, c.if-stray-n.true)))

first-lost-requires : tie.Need-first_lost-lost-requires
first-lost-requires c κs =
    let b = c.before.before in
    let s = b.before.before in
    (s.requires.0, s.requires.1, once s.args.numbers.now s.args.clocks.now (none-repeats b))

returns-3 : tie.Need-returns-then-lost-n
returns-3 c =
    let d = c.before.before in
    let b = d.before.before in
    let a = b.args in
    let e = c.first_lost-lost.ensures in
    ap (at 16) e ∙ sym (clocks-16 a.numbers.now a.clocks.now (none-repeats b) (none-strays d) (omega (arith, e, c.if-lost-n.true)))

returns-4 : tie.Need-returns
returns-4 c =
    let d = c.before.before in
    let b = d.before.before in
    let a = b.args in
    sym (clocks-within a.numbers.now a.clocks.now (none-repeats b) (none-strays d) (omega (arith, c.first_lost-lost.ensures, c.if-lost-n.false)))

pub check_clocks_spec : {M : Type 1} → statement M
check_clocks_spec =
    tie.close
    (tie.spec (λ c κs. search rules) returns (λ c κs. search rules) returns-2 first-lost-requires returns-3
    returns-4)

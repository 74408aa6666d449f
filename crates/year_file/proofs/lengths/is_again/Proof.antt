-- `year_file::lengths::is_again` meets its contract: what was found makes up `Again`, and none began 5 bytes before.
use Prim.Native.Nat.{◌-◌}
use mathlib.Core.Path.{sym}
use native.Mathlib.Omega.{arith}
use Rattle.rounding.specs.laws.Tests.{distinct}
use Rattle.year_file.specs.laws.Repeats.{Again, again_none}
use borrow.Author.Rules.{rules}
use Rattle.year_file.proofs.lengths.is_again.Statement.{statement}
use Rattle.year_file.proofs.lengths.is_again.Tie as tie

returns : tie.Need-returns-then-lost-lt5
returns c = λ e. absurd (distinct (sym e))

returns-2 : tie.Need-returns-then-file-at-lt14
returns-2 c = λ e. absurd (distinct (sym e))

returns-3 : tie.Need-returns-then-file-at-ne1
returns-3 c = λ e. absurd (distinct (sym e))

returns-4 : tie.Need-returns-then-not-opens_once
returns-4 c = λ e. absurd (distinct (sym e))

returns-5 : tie.Need-returns
returns-5 c =
    let opens = c.before.before in
    let started = opens.before.before.before.before.before.before in
    let file = started.args.file.now in
    let at = started.args.at in
    let before = started.requires.1 in λ e.
    let again : Again file at = record {
      back = omega (arith, before.within);
      long = omega arith;
      same = c.same_before.ensures e;
      head = opens.if-file-at-ne1.false;
      opens = opens.opens_once.ensures c.if-not-opens_once.false;
    } in
    again_none file at (λ i. omega (arith, opens.shared_slice_known-2-1.given i)) again (before.none (at - 5) (omega arith) (omega arith))

pub is_again_spec : {M : Type 1} → statement M
is_again_spec =
    tie.close
    (tie.spec returns (λ c. search rules) returns-2 (λ c. search rules) returns-3 (λ c. search rules)
    (λ c κs. search rules) returns-4 (λ c κs. search rules) returns-5)

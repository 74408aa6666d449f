-- `circumstances::writing::lengths::kind_in` meets its contract: arm by arm.
use mathlib.Core.Path.{sym, ap}
use borrow.Author.Rules.{rules}
use Rattle.local_circumstances.specs.laws.Lengths.{kind_in}
use Rattle.circumstances.proofs.writing.lengths.kind_in.Statement.{statement}
use Rattle.circumstances.proofs.writing.lengths.kind_in.Tie as tie

returns : tie.Need-returns-in-Enter
returns c = sym (ap (kind_in c.args.phase) c.in-Enter.is)

returns-2 : tie.Need-returns-in-Leave
returns-2 c = sym (ap (kind_in c.args.phase) c.in-Leave.is)

returns-3 : tie.Need-returns-in-Graze
returns-3 c = sym (ap (kind_in c.args.phase) c.in-Graze.is)

returns-4 : tie.Need-returns-in-Open
returns-4 c = sym (ap (kind_in c.args.phase) c.in-Open.is)

pub kind_in_spec : {M : Type 1} → statement M
kind_in_spec = tie.close (tie.spec (λ c. search rules) (λ c. search rules) (λ c. search rules) (λ c. search rules) returns returns-2 returns-3 returns-4)

-- `answers::sky_of` meets its contract: each arm is a row of its definition.
use mathlib.Core.Path.{sym, ap, ◌∙◌}
use Rattle.answers.specs.Answers.{sky_of}
use borrow.Author.Rules.{rules}
use Rattle.answers.proofs.sky_of.Statement.{statement}
use Rattle.answers.proofs.sky_of.Tie as tie

returns : tie.Need-returns-in-Ok
returns c = ap sky_of (sym c.in-Ok.is ∙ c.wish-asked.ensures)

returns-2 : tie.Need-returns-in-Err
returns-2 c = ap sky_of (sym c.in-Err.is ∙ c.wish-asked.ensures)

pub sky_of_spec : {M : Type 1} → statement M
sky_of_spec = tie.close (tie.spec (λ c κs. search rules) (λ c. search rules) (λ c. search rules) returns returns-2)

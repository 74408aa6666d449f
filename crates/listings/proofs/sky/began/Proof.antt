-- `listings::sky::began` meets its contract: the second is read from its bits.
use mathlib.Core.Path.{ap, ◌∙◌}
use Rattle.rounding.specs.laws.Code.{read_result}
use Rattle.listings.specs.Sky.{inside_at}
use borrow.Author.Rules.{rules}
use Rattle.listings.proofs.sky.began.Statement.{statement}
use Rattle.listings.proofs.sky.began.Tie as tie

returns : tie.Need-returns
returns c = c.inside_at.ensures ∙ ap (inside_at _) (read_result _ c.struct_told-1.given.0.1)

pub began_spec : {M : Type 1} → statement M
began_spec =
    tie.close
    (tie.spec (λ c κs. search rules) returns)

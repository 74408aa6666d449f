-- `request_text::instants::texts::seconds_after` meets its contract: the name is said, so what follows it is read.
use mathlib.Core.Path.{ap, ◌∙◌}
use Prim.Native.Nat.{◌≤◌}
use native.Mathlib.Omega.{arith}
use lib.ListN.{length}
use Rattle.request_text.specs.Instants.{seconds_in}
use Rattle.request_text.specs.laws.ToldLaws.{offset-within, after-name}
use borrow.Author.Rules.{rules}
use Rattle.request_text.proofs.instants.texts.seconds_after.Statement.{statement}
use Rattle.request_text.proofs.instants.texts.seconds_after.Tie as tie

within : (c : tie.After-said-said) → 7 ≤ length c.said-said.result.now
within c = omega (arith, ap length c.said-said.ensures, offset-within _ c.requires)

returns : tie.Need-returns
returns c = c.seconds_in.ensures ∙ ap seconds_in (after-name _ _ c.said-said.ensures)

pub seconds_after_spec : {M : Type 1} → statement M
seconds_after_spec =
    tie.close (tie.spec (λ c κs. search rules) (λ c. omega (arith, within c)) (λ c. omega (arith, within c)) (λ c. search rules) (λ c κs. search rules) returns)

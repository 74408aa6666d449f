-- `request_text::instants::texts::read_after` meets its contract: the name is said, so what follows it is read.
use mathlib.Core.Path.{ap, ◌∙◌}
use Prim.Native.Nat.{◌≤◌}
use native.Mathlib.Omega.{arith}
use lib.ListN.{length}
use Rattle.request_text.specs.Instants.{instant_of}
use Rattle.request_text.specs.laws.ToldLaws.{name-within, after-name}
use borrow.Author.Rules.{rules}
use Rattle.request_text.proofs.instants.texts.read_after.Statement.{statement}
use Rattle.request_text.proofs.instants.texts.read_after.Tie as tie

within : (c : tie.After-said-said) → 7 ≤ length c.said-said.result.now
within c = omega (arith, ap length c.said-said.ensures, name-within _ c.requires)

returns : tie.Need-returns
returns c = c.read.ensures ∙ ap instant_of (after-name _ _ c.said-said.ensures)

pub read_after_spec : {M : Type 1} → statement M
read_after_spec =
    tie.close (tie.spec (λ c κs. search rules) (λ c. omega (arith, within c)) (λ c. omega (arith, within c)) (λ c. search rules) (λ c κs. search rules) returns)

-- `element_fits::angles::acute` meets its contract: the test finds the lesser of the two.
use mathlib.Core.Path.{sym, ap, ◌∙◌}
use Prim.Native.Nat.{ℕ, ◌-◌}
use native.Mathlib.Omega.{arith}
use borrow.Author.Rules.{rules}
use Rattle.element_fits.specs.laws.ArgumentLaws.{acute-flat, acute-steep}
use Rattle.element_fits.proofs.angles.acute.Statement.{statement}
use Rattle.element_fits.proofs.angles.acute.Tie as tie

returns : tie.Need-returns-then-q-p
returns c = (c.arc.ensures.0 ∙ sym (acute-flat _ _ c.if-q-p.true), omega (arith, c.arc.ensures.1))

returns-2 : tie.Need-returns-else-q-p
returns-2 c = (ap (λ (n : ℕ). 90_000_000 - n) c.arc-else-q-p.ensures.0 ∙ sym (acute-steep _ _ c.if-q-p.false), omega arith)

pub acute_spec : {M : Type 1} → statement M
acute_spec = tie.close (tie.spec (λ c κs. search rules) (λ c κs. search rules) (λ c. search rules) returns returns-2)

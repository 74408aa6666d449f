-- `request_format::fields::row_of` meets its contract: the tables stand one after the other.
use mathlib.Core.Path.{◌≡◌, subst, ◌∙◌}
use Prim.Native.Nat.{ℕ, ◌<◌}
use native.Mathlib.Omega.{arith}
use borrow.Author.Rules.{rules}
use Rattle.request_format.specs.declared.fields.Shape.{Shape}
use Rattle.request_format.specs.Fields.{countOf}
use Rattle.request_format.specs.Rows.{row_in, rowAt}
use Rattle.request_format.specs.laws.Table.{tables}
use Rattle.request_format.specs.laws.TableLaws.{eclipse-first, eclipse-after, star-here}
use Rattle.request_format.proofs.fields.row_of.Statement.{statement}
use Rattle.request_format.proofs.fields.row_of.Tie as tie

-- where the shape is s
module _ (c : tie.Start) (s : Shape) (e : c.args.shape ≡ s) where
  short : c.args.k < countOf s
  short = subst (λ (x : Shape). c.args.k < countOf x) e c.requires

  is : (i : ℕ) → i < 43 → row_in tables i ≡ rowAt s c.args.k → (i < 43) × (row_in tables i ≡ rowAt c.args.shape c.args.k)
  is i h q = (h, q ∙ rw e)

returns : tie.Need-returns-then-k-lt22
returns c = is c.before.before _ c.in-Eclipse.is _ (omega arith) (eclipse-first _ c.if-k-lt22.true)

add-result : tie.Need-overflow_add-result
add-result c = omega (arith, short c.before.before _ c.in-Eclipse.is)

add-result-2 : tie.Need-overflow_add-result-in-Star
add-result-2 c = omega (arith, short c.before _ c.in-Star.is)

returns-2 : tie.Need-returns-else-k-lt22
returns-2 c =
    is c.before.before _ c.in-Eclipse.is _
    (omega (arith, short c.before.before _ c.in-Eclipse.is)) (eclipse-after _ c.if-k-lt22.false)

returns-3 : tie.Need-returns-in-Star
returns-3 c =
    is c.before _ c.in-Star.is _ (omega (arith, short c.before _ c.in-Star.is))
    (star-here _)

pub row_of_spec : {M : Type 1} → statement M
row_of_spec = tie.close (tie.spec (λ c. search rules) returns add-result (λ c. search rules) add-result-2 returns-2 returns-3)

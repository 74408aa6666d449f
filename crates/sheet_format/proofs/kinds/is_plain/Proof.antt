-- `sheet_format::kinds::is_plain` meets its contract. The four tests are the definition's.
use Rattle.sheet_format.specs.Kinds.{plain}
use borrow.Author.Rules.{rules}
use Rattle.sheet_format.proofs.kinds.is_plain.Statement.{statement}
use Rattle.sheet_format.proofs.kinds.is_plain.Tie as tie

returns : tie.Need-returns
unfolding plain
returns c = rw (
  c.is_unused.ensures,
  c.is_unused-2.ensures,
  c.is_unused-3.ensures,
  c.is_unused-4.ensures,
  c.widths_of-w.ensures,
)

pub is_plain_spec : {M : Type 1} → statement M
is_plain_spec = tie.close (tie.spec (λ c κs. search rules) (λ c κs. search rules) (λ c κs. search rules) (λ c κs. search rules) (λ c κs. search rules) returns)

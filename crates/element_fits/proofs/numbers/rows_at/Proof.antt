-- `element_fits::numbers::rows_at` meets its contract: seven calls.
use borrow.Author.Rules.{rules}
use Rattle.element_fits.specs.Numbers.{rows_of}
use Rattle.element_fits.proofs.numbers.rows_at.Statement.{statement}
use Rattle.element_fits.proofs.numbers.rows_at.Tie as tie

returns : tie.Need-returns
unfolding rows_of
returns c =
    rw (
      c.row_at-r0.ensures,
      c.row_at-r1.ensures,
      c.row_at-r2.ensures,
      c.row_at-r3.ensures,
      c.row_at-r4.ensures,
      c.row_at-r5.ensures,
      c.row_at-r6.ensures,
    )

pub rows_at_spec : {M : Type 1} → statement M
rows_at_spec = tie.close (tie.spec (λ c κs. search rules) (λ c κs. search rules) (λ c κs. search rules) (λ c κs. search rules) (λ c κs. search rules) (λ c κs. search rules) (λ c κs. search rules) returns)

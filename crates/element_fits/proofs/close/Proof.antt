-- `element_fits::close` meets its contract: the distance, compared.
use mathlib.Core.Path.{ap, ap₂, ◌∙◌}
use Prim.Native.Nat.{ℕ}
use borrow.Author.Rules.{rules}
use lib.Dec.{leb}
use Rattle.rounding.specs.laws.Code.{read_back}
use Rattle.element_fits.specs.Answers.{off, close}
use Rattle.element_fits.proofs.close.Statement.{statement}
use Rattle.element_fits.proofs.close.Tie as tie

returns : tie.Need-returns
unfolding close
returns c =
    let s = c.before in
    let a = s.args in
    ap (λ (n : ℕ). leb n a.tolerance) (c.off-size.ensures.0 ∙ ap₂ (off a.c) (read_back a.t s.requires.1 tt) (read_back a.v s.requires.2 tt))

pub close_spec : {M : Type 1} → statement M
close_spec = tie.close (tie.spec (λ c κs. search rules) returns)

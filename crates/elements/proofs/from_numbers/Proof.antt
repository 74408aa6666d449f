-- `elements::from_numbers` meets its contract: each part is read from its places, and the tangents from theirs.
use borrow.Author.Rules.{rules}
use lib.IntN.{pos}
use lib.ListN.{get_or}
use Rattle.rounding.specs.laws.Code.{read_result}
use Rattle.elements.specs.Elements.{elements_of}
use Rattle.elements.proofs.from_numbers.Statement.{statement}
use Rattle.elements.proofs.from_numbers.Tie as tie

returns : tie.Need-returns
unfolding elements_of
returns c =
    let m = c.before.before in
    let y = m.before.before.before.before in
    let n = y.args.n.now in
    rw (
      y.cubic_from-x.ensures,
      y.cubic_from-y.ensures,
      m.quadratic_from-d.ensures,
      m.quadratic_from-l1.ensures,
      m.quadratic_from-l2.ensures,
      m.quadratic_from-mu.ensures,
      read_result (get_or n 20 (pos 0)) c.tanf1-1.given,
      read_result (get_or n 21 (pos 0)) c.tanf2-1.given,
    )

pub from_numbers_spec : {M : Type 1} → statement M
from_numbers_spec =
    tie.close
    (tie.spec (λ c κs. search rules) (λ c κs. search rules) (λ c κs. search rules) (λ c κs. search rules)
    (λ c κs. search rules) (λ c κs. search rules) (λ c. search rules) (λ c. search rules) returns)

-- `elements::stars::from_numbers` meets its contract: each part is read from its places.
use lib.IntN.{pos}
use lib.ListN.{get_or}
use borrow.Author.Rules.{rules}
use Rattle.rounding.specs.laws.Code.{read_result}
use Rattle.elements.specs.Stars.{star_of}
use Rattle.elements.proofs.stars.from_numbers.Statement.{statement}
use Rattle.elements.proofs.stars.from_numbers.Tie as tie

returns : tie.Need-returns
unfolding star_of
returns c =
    let d = c.before.before in
    let y = d.before in
    let n = y.args.n.now in
    rw (
      y.cubic_from-x.ensures,
      y.cubic_from-y.ensures,
      read_result (get_or n 8 (pos 0)) d.d-1.given,
      c.quadratic_from-mu.ensures,
      read_result (get_or n 12 (pos 0)) c.radius-1.given,
    )

pub from_numbers_spec : {M : Type 1} → statement M
from_numbers_spec =
    tie.close
    (tie.spec (λ c κs. search rules) (λ c κs. search rules) (λ c. search rules) (λ c κs. search rules)
    (λ c. search rules) returns)

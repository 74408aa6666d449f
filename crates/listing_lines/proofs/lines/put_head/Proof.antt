-- `listing_lines::lines::put_head` meets its contract: the numbers are the station and the seconds of its window.
use mathlib.Core.Path.{◌∙◌}
use native.Mathlib.Omega.{arith}
use Rattle.rounding.specs.laws.Code.{read_result, count-is}
use Rattle.listing_lines.specs.laws.LineLaws.{filled-three}
use borrow.Author.Rules.{rules}
use Rattle.listing_lines.proofs.lines.put_head.Statement.{statement}
use Rattle.listing_lines.proofs.lines.put_head.Tie as tie

returns : tie.Need-returns
returns c =
    let s = c.before.before.before.before.before.before in
    filled-three _ _ _ _ _ _ _ _ _ _ _ (count-is _ {m = 4294967295} (omega arith) tt) (read_result s.second_of-from.result s.second_of-from.type_inv ∙ s.second_of-from.ensures)
    (read_result s.second_of-to.result s.second_of-to.type_inv ∙ s.second_of-to.ensures) c.put_filled.ensures

pub put_head_spec : {M : Type 1} → statement M
put_head_spec =
    tie.close
    (tie.spec (λ c. search rules) (λ c κs. search rules) (λ c κs. search rules) (λ c. search rules) (λ c κs. search rules) (λ c. search rules) returns)

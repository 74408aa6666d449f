-- `listing_lines::lines::put_contact` meets its contract: the word, the phase, then the numbers.
use mathlib.Core.Path.{◌∙◌}
use native.Mathlib.Omega.{arith}
use Rattle.rounding.specs.laws.Code.{read_result, count-is}
use Rattle.listing_lines.specs.laws.LineLaws.{filled-three, put_three}
use borrow.Author.Rules.{rules}
use Rattle.listing_lines.proofs.lines.put_contact.Statement.{statement}
use Rattle.listing_lines.proofs.lines.put_contact.Tie as tie

returns : tie.Need-returns
returns c =
    let s = c.before.before.before.before.before.before in
    let phase = s.before.before.before.before in
    put_three _ _ _ _ _ _ _ _ _ _ _ (omega arith) phase.put_text-name.ensures phase.put_phase-next.ensures
    (filled-three _ _ _ _ _ _ _ _ _ _ _ (read_result s.second_of-start.result s.second_of-start.type_inv ∙ s.second_of-start.ensures) (read_result s.second_of-end.result s.second_of-end.type_inv ∙ s.second_of-end.ensures) (count-is _ {m = 4294967295} (omega arith) tt)
    c.put_filled.ensures)

pub put_contact_spec : {M : Type 1} → statement M
put_contact_spec =
    tie.close
    (tie.spec (λ c κs. search rules) (λ c κs. search rules) (λ c κs. search rules) (λ c κs. search rules) (λ c. search rules) (λ c. search rules) (λ c κs. search rules) (λ c. search rules) returns)

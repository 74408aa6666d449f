-- `listing_lines::lines::put_numbered` meets its contract: the word and the numbers, one after the other.
use native.Mathlib.Omega.{arith}
use Rattle.listing_lines.specs.laws.LineLaws.{put_four}
use borrow.Author.Rules.{rules}
use Rattle.listing_lines.proofs.lines.put_numbered.Statement.{statement}
use Rattle.listing_lines.proofs.lines.put_numbered.Tie as tie

returns : tie.Need-returns
returns c =
    let middle = c.before.before.before.before.before.before in
    put_four _ _ _ _ _ _ _ _ _ _ _ _ _ _ (omega arith) middle.put_text-first.ensures
    middle.put_number-middle.ensures middle.put_byte-second.ensures c.put_number.ensures

pub put_numbered_spec : {M : Type 1} → statement M
put_numbered_spec =
    tie.close
    (tie.spec (λ c κs. search rules) (λ c κs. search rules) (λ c κs. search rules) (λ c κs. search rules)
    (λ c. search rules) returns)

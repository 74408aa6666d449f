-- `listing_lines::lines::put_entry` meets its contract: the text, then the end of its line.
use native.Mathlib.Omega.{arith}
use Rattle.listing_lines.specs.laws.LineLaws.{put_line}
use borrow.Author.Rules.{rules}
use Rattle.listing_lines.proofs.lines.put_entry.Statement.{statement}
use Rattle.listing_lines.proofs.lines.put_entry.Tie as tie

returns : tie.Need-returns
returns c = put_line _ _ _ _ _ _ _ (omega arith) c.put_entry_text-end.ensures c.put_end.ensures

pub put_entry_spec : {M : Type 1} → statement M
put_entry_spec = tie.close (tie.spec (λ c κs. search rules) (λ c κs. search rules) (λ c. search rules) returns)

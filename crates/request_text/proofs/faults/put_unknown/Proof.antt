-- `request_text::faults::put_unknown` meets its contract: the words, then of what the line says the bytes up to a
-- blank.
use mathlib.Core.Path.{refl, sym}
use native.Mathlib.Omega.{arith}
use lib.Seq.{length-take-le}
use Rattle.decimal_text.specs.laws.TextLaws.{put_then}
use Rattle.request_text.specs.laws.MessageLaws.{put_as}
use Rattle.request_text.specs.laws.WordLaws.{word_cut}
use borrow.Author.Rules.{rules}
use Rattle.request_text.proofs.faults.put_unknown.Statement.{statement}
use Rattle.request_text.proofs.faults.put_unknown.Tie as tie

slice-aggregate-put-text-2 : tie.Need-slice_bounds-put_text-end-2
slice-aggregate-put-text-2 c = sym (length-take-le _ _ c.run-letters.ensures.1)

returns : tie.Need-returns
returns c =
    put_then _ _ _ _ _ _ _ _ (omega arith) c.put_text-next.ensures
    (put_as _ _ _ _ _ _ _ refl (word_cut _ _ _ c.said-said.ensures c.run-letters.ensures.0) c.put_text.ensures)

pub put_unknown_spec : {M : Type 1} → statement M
put_unknown_spec =
    tie.close
    (tie.spec (λ c κs. search rules) (λ c κs. search rules) (λ c κs. search rules) slice-aggregate-put-text-2 (λ c κs. search rules) (λ c. search rules) returns)

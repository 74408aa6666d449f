-- `request_text::typed_requests::messages::put_instant` meets its contract: part after part (`put_parts`).
use native.Mathlib.Omega.{arith}
use Rattle.request_text.specs.laws.TypedMessageLaws.{put_parts}
use borrow.Author.Rules.{rules}
use Rattle.request_text.proofs.typed_requests.messages.put_instant.Statement.{statement}
use Rattle.request_text.proofs.typed_requests.messages.put_instant.Tie as tie

returns : tie.Need-returns
returns c =
    let wrong = c.before.before in
    let number = wrong.before.before.before.before in
    let line = number.before.before.before.before in
    put_parts _ _ _ _ _ _ _ _ _ _ (omega arith) line.put_text-number.ensures number.put_number-colon.ensures wrong.put_wrong.ensures

pub put_instant_spec : {M : Type 1} → statement M
put_instant_spec =
    tie.close
    (tie.spec (λ c κs. search rules) (λ c κs. search rules) (λ c κs. search rules) (λ c. search rules) returns)

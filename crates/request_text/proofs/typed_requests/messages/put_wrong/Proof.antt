-- `request_text::typed_requests::messages::put_wrong` meets its contract: each fault has its text.
use Rattle.request_text.specs.laws.TypedMessageLaws.{put_wrong}
use borrow.Author.Rules.{rules}
use Rattle.request_text.proofs.typed_requests.messages.put_wrong.Statement.{statement}
use Rattle.request_text.proofs.typed_requests.messages.put_wrong.Tie as tie

returns : tie.Need-returns-in-Malformed
returns c = put_wrong _ _ _ _ _ _ c.in-Malformed.is c.put_text.ensures

returns-2 : tie.Need-returns-in-Twice
returns-2 c = put_wrong _ _ _ _ _ _ c.in-Twice.is c.put_text-in-Twice.ensures

returns-3 : tie.Need-returns-in-NotSeconds
returns-3 c = put_wrong _ _ _ _ _ _ c.in-NotSeconds.is c.put_text-in-NotSeconds.ensures

returns-4 : tie.Need-returns-in-OffsetTwice
returns-4 c = put_wrong _ _ _ _ _ _ c.in-OffsetTwice.is c.put_text-in-OffsetTwice.ensures

returns-5 : tie.Need-returns-in-NeedsInstant
returns-5 c = put_wrong _ _ _ _ _ _ c.in-NeedsInstant.is c.put_text-in-NeedsInstant.ensures

pub put_wrong_spec : {M : Type 1} → statement M
put_wrong_spec =
    tie.close
    (tie.spec (λ c. search rules) (λ c κs. search rules) (λ c. search rules) (λ c κs. search rules) (λ c. search rules) (λ c κs. search rules) (λ c. search rules) (λ c κs. search rules) (λ c. search rules) (λ c κs. search rules) (λ c. search rules) returns (λ c. search rules) returns-2 (λ c. search rules) returns-3 (λ c. search rules) returns-4 (λ c. search rules) returns-5)

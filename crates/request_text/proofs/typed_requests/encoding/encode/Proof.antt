-- `request_text::typed_requests::encoding::encode` meets its contract: by the shape.
use Rattle.request_text.specs.laws.EncodedLaws.{encoded_as}
use borrow.Author.Rules.{rules}
use Rattle.request_text.proofs.typed_requests.encoding.encode.Statement.{statement}
use Rattle.request_text.proofs.typed_requests.encoding.encode.Tie as tie

returns : tie.Need-returns-in-Eclipse
returns c = encoded_as _ _ _ _ _ _ c.in-Eclipse.is c.encode_eclipse.ensures

returns-2 : tie.Need-returns-in-Star
returns-2 c = encoded_as _ _ _ _ _ _ c.in-Star.is c.encode_star.ensures

pub encode_spec : {M : Type 1} → statement M
encode_spec =
    tie.close
    (tie.spec (λ c. search rules) (λ c κs. search rules) (λ c. search rules) (λ c κs. search rules) returns
    returns-2)

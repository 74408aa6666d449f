-- The numbers of a text that is not refused fit, so they are put, and are read back (`numbers-put`).
use Rattle.std.proofs.Common.{arith, refl}
use Rattle.request_text.specs.laws.EncodedLaws.{made-is, numbers-put}
use Rattle.request_text.proofs.typed_requests.encoding.encode_star.Goals as goal

pub returns : goal.returns
returns c =
    numbers-put _ _ _ c.in_ok-star_numbers.ensures.value _ _ _ _
    (made-is _ _ _ c.in_ok-star_numbers.ensures.value _ _ _ _ refl c.star_numbers.ensures.out_after c.put_star.ensures.bytes) (omega arith) c.put_text.ensures

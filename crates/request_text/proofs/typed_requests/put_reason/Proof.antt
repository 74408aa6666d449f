-- `request_text::typed_requests::put_reason` meets its contract: each reason has its message.
use native.Mathlib.Omega.{arith}
use Rattle.request_text.specs.laws.MeaningLaws.{put-known, put-number, long-le, number-le, instant-small}
use borrow.Author.Rules.{rules}
use Rattle.request_text.proofs.typed_requests.put_reason.Statement.{statement}
use Rattle.request_text.proofs.typed_requests.put_reason.Tie as tie

returns : tie.Need-returns-in-TooLong
returns c =
    let put = c.before.before in
    put-known _ _ _ put.in-TooLong.is _ _ _ _ put.put_text.ensures (long-le put.args.text.now)

returns-2 : tie.Need-returns-in-Number
returns-2 c =
    let put = c.before.before in
    let shape = put.before.before in
    put-known _ _ _ shape.in-Number.is _ _ _ _
    (put-number _ _ shape.shape_of-shape.ensures _ _ _ _ _ _ put.put_message.ensures) (number-le _ _ _ (omega arith))

returns-3 : tie.Need-returns-in-Instant
returns-3 c =
    let put = c.before.before in
    put-known _ _ _ put.in-Instant.is _ _ _ _ put.put_instant.ensures (instant-small put.args.text.now _ _ (omega arith))

pub put_reason_spec : {M : Type 1} → statement M
put_reason_spec =
    tie.close
    (tie.spec (λ c. search rules) (λ c κs. search rules) (λ c. search rules) (λ c κs. search rules) (λ c κs. search rules) (λ c. search rules) (λ c κs. search rules) (λ c. search rules) returns (λ c. search rules) returns-2 (λ c. search rules) returns-3)

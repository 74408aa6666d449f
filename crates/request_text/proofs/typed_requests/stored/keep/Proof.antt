-- `request_text::typed_requests::stored::keep` meets its contract: nothing is stored where a buffer is too short.
use Rattle.request_text.specs.laws.StoredLaws.{request-short, instant-short, both-kept}
use borrow.Author.Rules.{rules}
use Rattle.request_text.proofs.typed_requests.stored.keep.Statement.{statement}
use Rattle.request_text.proofs.typed_requests.stored.keep.Tie as tie

returns : tie.Need-returns-then-request-size
returns c =
    let a = c.args in
    request-short a.bytes.now a.reference a.request.now a.instant.now c.if-request-size.true

returns-2 : tie.Need-returns-then-instant-lt6
returns-2 c =
    let a = c.args in
    instant-short a.bytes.now a.reference a.request.now a.instant.now c.if-request-size.false c.if-instant-lt6.true

returns-3 : tie.Need-returns
returns-3 c =
    let numbers = c.before.before in
    let bytes = numbers.before.before.before.before in
    let tested = bytes.before.before in
    let a = tested.args in
    both-kept a.bytes.now a.reference a.request.now a.instant.now tested.if-request-size.false tested.if-instant-lt6.false _ _ _ bytes.put_text.ensures numbers.put_numbers.ensures

pub keep_spec : {M : Type 1} → statement M
keep_spec =
    tie.close
    (tie.spec returns returns-2 (λ c κs. search rules) (λ c κs. search rules) (λ c. search rules)
    (λ c. search rules) returns-3)

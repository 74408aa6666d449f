-- `ukhtvaresh::of_requests::second::ukhtvaresh_second` meets its contract: the answer of the crate below, as numbers.
use borrow.Author.Rules.{rules}
use mir.Syntax.{w64}
use mir.ValLaws.{to_z-of_z}
use Rattle.request_format.specs.declared.fields.Shape.TheVariants.{Eclipse}
use Rattle.ukhtvaresh.proofs.Seconds.{second-replied}
use Rattle.ukhtvaresh.proofs.of_requests.second.ukhtvaresh_second.Statement.{statement}
use Rattle.ukhtvaresh.proofs.of_requests.second.ukhtvaresh_second.Tie as tie

returns : tie.Need-returns
returns c =
    let said = c.before.before.before.before in
    let start = said.before.before.before.before.before in
    let a = start.args in
    second-replied Eclipse a.request.now a.sines.now a.shadow.now 8 (to_z-of_z w64 a.second start.ranges.second) c.second_reply-reply.ensures
    said.second-given.ensures

pub ukhtvaresh_second_spec : {M : Type 1} → statement M
ukhtvaresh_second_spec = tie.close (tie.spec (λ c κs. search rules) (λ c κs. search rules) (λ c. search rules) (λ c. search rules) returns)

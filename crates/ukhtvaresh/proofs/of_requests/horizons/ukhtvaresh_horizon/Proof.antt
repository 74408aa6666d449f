-- `ukhtvaresh::of_requests::horizons::ukhtvaresh_horizon` meets its contract: the answer of the crate below, as
-- numbers.
use borrow.Author.Rules.{rules}
use mir.Syntax.{w64}
use mir.ValLaws.{to_z-of_z}
use Rattle.request_format.specs.declared.fields.Shape.TheVariants.{Eclipse}
use Rattle.ukhtvaresh.proofs.Horizons.{horizon-replied}
use Rattle.ukhtvaresh.proofs.of_requests.horizons.ukhtvaresh_horizon.Statement.{statement}
use Rattle.ukhtvaresh.proofs.of_requests.horizons.ukhtvaresh_horizon.Tie as tie

returns : tie.Need-returns
returns c =
    let said = c.before.before.before.before in
    let start = said.before.before.before.before.before in
    let a = start.args in
    horizon-replied Eclipse a.request.now a.sines.now a.horizon.now (to_z-of_z w64 a.second start.ranges.second) c.horizon_reply-reply.ensures
    said.horizon-given.ensures

pub ukhtvaresh_horizon_spec : {M : Type 1} → statement M
ukhtvaresh_horizon_spec = tie.close (tie.spec (λ c κs. search rules) (λ c κs. search rules) (λ c. search rules) (λ c. search rules) returns)

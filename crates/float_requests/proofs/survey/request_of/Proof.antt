-- `float_requests::survey::request_of` meets its contract: doubles in whole units, and all else copied.
use mathlib.Core.Path.{◌≡◌, ap, ◌∙◌}
use borrow.Author.Rules.{rules}
use mir.Syntax.{w64}
use mir.Val.{to_z, of_z}
use Rattle.rounding.specs.laws.Code.{read_result}
use Rattle.binary64.specs.Doubles.{longitude_scale, double_in, longitude_of, stand_in, held}
use Rattle.binary64.specs.laws.HeldLaws.{stand_in_reading}
use Rattle.float_requests.specs.Survey.{request_of}
use Rattle.float_requests.specs.laws.HeldRequest.{held_request}
use Rattle.float_requests.proofs.survey.request_of.Statement.{statement}
use Rattle.float_requests.proofs.survey.request_of.Tie as tie

-- the longitude that was read
longitude-is : (c : tie.After-unit_of-longitude) → to_z w64 (of_z w64 c.unit_of-longitude.result) ≡ held (longitude_of c.args.s.longitude)
longitude-is c =
    let l = c.args.s.longitude in
    read_result c.unit_of-longitude.result c.unit_of-longitude.type_inv
    ∙ c.unit_of-longitude.ensures
    ∙ ap stand_in c.read_longitude.ensures
    ∙ stand_in_reading (longitude_scale l) (double_in l)

returns : tie.Need-returns
unfolding held_request request_of
returns c =
    let s = c.args.s in
    let told = c.struct_told-2-1.given.1.1 in
    rw (
      c.elements_in-elements.ensures,
      longitude-is c.before.before.before,
      read_result s.number told.0.1,
      read_result s.latitude told.1.0.1,
      read_result s.height told.1.1.0.1,
      read_result s.deltat told.1.1.1.0.1,
      read_result s.guard told.1.1.1.1.1.0.1,
    )

pub request_of_spec : {M : Type 1} → statement M
request_of_spec = tie.close (tie.spec (λ c κs. search rules) (λ c κs. search rules) (λ c κs. search rules) returns)

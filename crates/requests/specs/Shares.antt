-- A request that asks for the covered share. Definitions only.
use Rattle.std.specs.Prelude.{Bool, true, false}
use Rattle.elements.specs.declared.Body.{Body}
use Rattle.elements.specs.declared.Body.TheVariants as B
use Rattle.requests.specs.declared.Request.{Request}
use Rattle.requests.specs.declared.Occultation.{Occultation}

-- document 02, wish 4: "where the request asks for it": the same request, and it asks
abbrev pub with_share : Request → Request
with_share q = record { elements = q.elements; station = q.station; window = q.window; guard = q.guard; share = true }

-- whether the sheet has it: of the Sun, where it is asked for; a star's never
abbrev pub sharing_of : Body → Bool → Bool
sharing_of (B.Sun e) asked = asked
sharing_of (B.Star s) asked = false

unfoldable pub sharing : Occultation → Bool
sharing o = sharing_of o.body o.share

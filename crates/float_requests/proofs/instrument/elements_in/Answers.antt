-- `float_requests::instrument::elements_in` meets its contract: the elements of the 22 units.
use Rattle.std.proofs.Common.{ap, ◌∙◌, List, map, Float}
use Rattle.elements.specs.Elements.{elements_of}
use Rattle.binary64.specs.Doubles.{held}
use Rattle.float_requests.specs.Instrument.{scales, units_in, elements_in}
use Rattle.float_requests.specs.HeldElements.{held_elements}
use Rattle.float_requests.proofs.instrument.elements_in.Goals as goal

pub returns : goal.returns
unfolding held_elements elements_in elements_of
returns c =
    c.from_numbers.ensures
    ∙ ap elements_of (c.units_in-units.ensures ∙ ap (λ (xs : List Float). map held (units_in scales xs)) c.from-xs.ensures)

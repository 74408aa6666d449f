-- The whole network in one list: document 02, wish 10. Definitions only. What its clocks are: clock_network,
-- Steps; what a list is refused for: clock_network, Checks; a station's first enter: Enters.
use Rattle.std.specs.Prelude.{cond, ◌&&◌, List, map, ℕ, eqb, ℤ, pos, nat_abs, length, get_or, Result, Ok, Err}
use Rattle.sheet_types.specs.declared.refusals.Refusal.{Refusal}
use Rattle.sheet_types.specs.Refusals.{refusal, andThen}
use Rattle.requests.specs.Requests.{of_eclipse}
use Rattle.requests.specs.Admission.{room_checked, sines_after}
use Rattle.clock_network.specs.Defined.{steps_of, earliestOf}
use Rattle.clock_network.specs.declared.stations.Node.{Node}
use Rattle.clock_network.specs.Nodes.{numbers_of, clocks_of}
use Rattle.networks.specs.Enters.{never, firstTo}
use Rattle.clock_network.specs.declared.checks.Eclipse.{Eclipse}
use Rattle.clock_network.specs.Checks.{eclipse_of, request_of, checked}

-- ---- the refusals, in their order

-- other lengths than 25 numbers of the eclipse and 64 of the steps
abbrev pub shape_checked : List ℤ → List ℕ → Result Unit Refusal
shape_checked ns steps = cond (eqb (length ns) 25 && eqb (length steps) 64) (Ok tt) (Err (refusal 10 0))

-- "last, 4 for the sine room"
unfoldable pub admitted : List ℤ → List Node → (sines steps : List ℕ) → Result Unit Refusal
admitted ns l sines steps = andThen (shape_checked ns steps) (andThen (checked (eclipse_of ns) l) (room_checked sines))

-- ---- the answer

-- "each enter is that of the sheet the station gets alone, with room enough"
abbrev pub to_of : Eclipse → Node → ℕ
to_of e n = firstTo (of_eclipse (request_of e n.station))

abbrev pub tos_of : Eclipse → List Node → List ℕ
tos_of e l = map (to_of e) l

-- "then name the station whose first *enter* penumbra has the smallest "to", the first in the list among equals, or 0
-- if none enters"
unfoldable pub named : Eclipse → List Node → ℕ
named e l = nat_abs (get_or (numbers_of l) (earliestOf (tos_of e l) never) (pos 0))

abbrev pub answer_by : Result Unit Refusal → Eclipse → List Node → Result ℕ Refusal
answer_by (Ok tt) e l = Ok (named e l)
answer_by (Err r) e l = Err r

unfoldable pub answer_to : List ℤ → List Node → (sines steps : List ℕ) → Result ℕ Refusal
answer_to ns l sines steps = answer_by (admitted ns l sines steps) (eclipse_of ns) l

-- "The steps come back as 64 numbers in list order, 0 past the list."; after a refusal they are as they were
abbrev pub steps_after : Result Unit Refusal → List Node → List ℕ → List ℕ
steps_after (Ok tt) l steps = steps_of (numbers_of l) (clocks_of l)
steps_after (Err r) l steps = steps

unfoldable pub steps_for : List ℤ → List Node → (sines steps : List ℕ) → List ℕ
steps_for ns l sines steps = steps_after (admitted ns l sines steps) l steps

-- the buffer for table S: filled where nothing is refused
unfoldable pub sines_for : List ℤ → List Node → (sines steps : List ℕ) → List ℕ
sines_for ns l sines steps = sines_after (admitted ns l sines steps) sines

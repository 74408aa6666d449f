-- What the program writes of its input, all bytes of it, a typed network: with 901 numbers for table S and 64 for the
-- steps.
use Rattle.std.specs.Prelude.{ℕ, Bool, cond, List, [], ◌++◌, ltb, ℤ, length, get_or, Result, Ok, Err}
use Rattle.sheet_types.specs.declared.refusals.Refusal.{Refusal}
use Rattle.sheet_format.specs.StoredSeconds.{second_of}
use Rattle.clock_network.specs.Defined.{earliestOf}
use Rattle.clock_network.specs.declared.stations.Node.{Node}
use Rattle.clock_network.specs.Held.{blank_node}
use Rattle.clock_network.specs.Nodes.{number_of}
use Rattle.clock_network.specs.declared.checks.Eclipse.{Eclipse}
use Rattle.clock_network.specs.Checks.{eclipse_of, request_of}
use Rattle.station.specs.declared.Station.{Station}
use Rattle.requests.specs.Requests.{of_eclipse}
use Rattle.listing_lines.specs.declared.clock.Altitude.{Altitude}
use Rattle.listing_lines.specs.declared.clock.Altitude.TheVariants as Sun
use Rattle.listings.specs.Sky.{altitude_at}
use Rattle.networks.specs.Network.{tos_of, answer_to, steps_for}
use Rattle.networks.specs.Enters.{never}
use Rattle.decimal_text.specs.Decimals.{decimal, signed}
use Rattle.decimal_text.specs.Rows.{rows}
use Rattle.decimal_text.specs.Texts.{letters}
use Rattle.listing_lines.specs.Lines.{refusal_line}
use Rattle.request_format.specs.declared.fields.Shape.TheVariants as S
use Rattle.request_text.specs.Messages.{message_of}
use Rattle.program_io.specs.Inputs.{zeros}
use Rattle.network_text.specs.declared.Fault.{Fault}
use Rattle.network_text.specs.declared.Fault.TheVariants as F
use Rattle.network_text.specs.Typing.{Typing, given, refused, typing_of, eclipse_in}

-- ---- the answer

-- "it prints each station with its steps"
unfoldable pub station_line : ℤ → ℕ → List ℕ
station_line number steps = letters "station " ++ signed number ++ letters " steps " ++ decimal steps ++ letters "\n"

unfoldable pub station_lines : List Node → List ℕ → List ℕ
station_lines l steps = rows (λ k. station_line (number_of (get_or l k blank_node)) (get_or steps k 0)) (length l)

-- whether the Sun is above the horizon of a station at second τ, by the altitude there (listings, Sky)
unfoldable pub sun_at : Eclipse → Station → ℤ → Altitude
sun_at e s τ = altitude_at (of_eclipse (request_of e s)) τ

unfoldable pub sun_text : Altitude → List ℕ
sun_text Sun.Nothing = []
sun_text (Sun.Above n) = letters " sun up"
sun_text (Sun.Below n) = letters " sun down"

-- "to" of a station's first enter, as in a listing, and the Sun at that second
unfoldable pub to_line : Eclipse → Station → ℕ → List ℕ
to_line e s to = letters " to " ++ signed (second_of to) ++ sun_text (sun_at e s (second_of to)) ++ letters "\n"

-- "and the one that sees it first": `first NUMBER to SECOND`, or `first 0` if none enters
abbrev pub to_text : Eclipse → List Node → List ℕ → ℕ → List ℕ
to_text e l tos best = cond (ltb best (length tos)) (to_line e (get_or l best blank_node).station (get_or tos best 0)) (letters "\n")

unfoldable pub first_line : Eclipse → List Node → ℕ → List ℕ → List ℕ
first_line e l named tos = letters "first " ++ decimal named ++ to_text e l tos (earliestOf tos never)

unfoldable pub named_text : Eclipse → ℕ → List ℕ → List Node → List ℕ → List ℕ
named_text e named tos l steps = station_lines l steps ++ first_line e l named tos

-- by the library's answer
abbrev pub answer_by : Result ℕ Refusal → Eclipse → List ℕ → List Node → List ℕ → List ℕ
answer_by (Ok n) e tos l steps = named_text e n tos l steps
answer_by (Err r) e tos l steps = refusal_line r.number r.place

-- the program provides the buffers for table S and for the steps
unfoldable pub answer_text : (sines steps : List ℕ) → List ℤ → List Node → List ℕ
answer_text sines steps ns l = answer_by (answer_to ns l sines steps) (eclipse_of ns) (tos_of (eclipse_of ns) l) l (steps_for ns l sines steps)

-- ---- a fault

unfoldable pub clock_text : ℕ → List ℕ
clock_text line = letters "line " ++ decimal line ++ letters ": clock is not a station's number\n"

-- as of a typed request, or of a clock
unfoldable pub fault_text : List ℕ → ℕ → Fault → List ℕ
fault_text text line (F.Typed f) = message_of S.Eclipse text line f
fault_text text line F.Clock = clock_text line

-- ---- what the program writes

abbrev pub tooLong : List ℕ → Bool
tooLong text = ltb 65536 (length text)

-- to standard output
abbrev pub output_by : Typing → List ℕ
output_by (given ns l) = answer_text (zeros 901) (zeros 64) (eclipse_in ns) l
output_by (refused i f) = []

unfoldable pub output : List ℕ → List ℕ
output text = cond (tooLong text) [] (output_by (typing_of text))

-- to standard error
abbrev pub error_by : List ℕ → Typing → List ℕ
error_by text (given ns l) = []
error_by text (refused i f) = fault_text text i f

unfoldable pub error : List ℕ → List ℕ
error text = cond (tooLong text) (letters "the text has more than 65,536 bytes\n") (error_by text (typing_of text))

-- A typed network: the numbers that its lines give, and its stations in list order.
use Rattle.std.specs.Prelude.{ℕ, ◌+◌, List, [], ◌∷◌, ◌++◌, ℤ, length, take, drop, replicate, Result, Ok, Err}
use Rattle.request_text.specs.declared.Fault as request
use Rattle.clock_network.specs.declared.stations.Node.{Node}
use Rattle.clock_network.specs.declared.stations.Held.{Held}
use Rattle.clock_network.specs.Held.{least64, held_of}
use Rattle.request_format.specs.declared.fields.Shape.TheVariants as S
use Rattle.tokens.specs.Text.{lines_of}
use Rattle.request_text.specs.Typing as typing
use Rattle.network_text.specs.declared.Fault.{Fault}
use Rattle.network_text.specs.declared.Said.{Said}
use Rattle.network_text.specs.Lines.{told_of}

-- whether a line is taken
pub data Listed : Type 0 where
  taken : Listed
  faulty : Fault → Listed

-- a number is taken as in a typed request (`request_text`, Typing)
abbrev pub listed_by : Result Unit request.Fault → Listed
listed_by (Ok tt) = taken
listed_by (Err f) = faulty (Fault.Typed f)

abbrev pub noted_of : Result Said Fault → List ℕ → Listed
noted_of (Ok (Said.Request line)) marks = listed_by (typing.noted_of line marks)
noted_of (Ok (Said.Station n)) marks = taken
noted_of (Err f) marks = faulty f

abbrev pub marks_after : Result Said Fault → List ℕ → List ℕ
marks_after (Ok (Said.Request line)) marks = typing.marks_after line marks
marks_after (Ok (Said.Station n)) marks = marks
marks_after (Err f) marks = marks

abbrev pub numbers_after : Result Said Fault → List ℕ → List ℤ → List ℤ
numbers_after (Ok (Said.Request line)) marks ns = typing.numbers_after line marks ns
numbers_after (Ok (Said.Station n)) marks ns = ns
numbers_after (Err f) marks ns = ns

-- "Stations stand in list order"
abbrev pub nodes_after : Result Said Fault → List Node → List Node
nodes_after (Ok (Said.Request line)) l = l
nodes_after (Ok (Said.Station n)) l = l ++ n ∷ []
nodes_after (Err f) l = l

-- what a text is: the numbers and the stations, or the first line that is refused, and why
pub data Typing : Type 0 where
  given : List ℤ → List Node → Typing
  refused : ℕ → Fault → Typing

abbrev pub onward : Listed → ℕ → Typing → Typing
onward taken i r = r
onward (faulty f) i r = refused i f

-- the lines from line i on; after the last, no number of elements and window may be missing, but the guard
unfoldable pub read_lines : List (List ℕ) → ℕ → List ℤ → List ℕ → List Node → Typing
read_lines [] i ns marks l = onward (listed_by (typing.missing 0 (take (typing.required S.Eclipse) marks))) i (given ns l)
read_lines (x ∷ xs) i ns marks l =
    let told = told_of x in
    onward (noted_of told marks) i (read_lines xs (i + 1) (numbers_after told marks ns) (marks_after told marks) (nodes_after told l))

-- a number that need not be given is marked 1 from the start: a station's five
abbrev pub marks_before : List ℕ
marks_before = replicate 22 0 ++ replicate 5 1 ++ replicate 3 0

unfoldable pub typing_of : List ℕ → Typing
typing_of text = read_lines (lines_of text) 1 (typing.untyped S.Eclipse) marks_before []

abbrev pub answer_of : Typing → Result Unit (ℕ × Fault)
answer_of (given ns l) = Ok tt
answer_of (refused i f) = Err (i, f)

-- a list as a value: 64 of its stations, and how many it has
abbrev pub held : List Node → Held
held l = held_of l (least64 (length l))

-- on a refusal there are no stations, and the caller's numbers are unchanged
unfoldable pub held_from : Typing → Held
held_from (given ns l) = held l
held_from (refused i f) = held []

-- the elements, the window and the guard, without the station's five numbers, which no line gives
unfoldable pub eclipse_in : List ℤ → List ℤ
eclipse_in ns = take 22 ns ++ drop 27 ns

abbrev pub numbers_from : Typing → List ℤ → List ℤ
numbers_from (given ns l) old = eclipse_in ns
numbers_from (refused i f) old = old

-- What a line of a typed network says: the elements and the window as in a typed request, a station, or a fault.
use Rattle.std.specs.Prelude.{Err, Ok, ℕ, cond, ◌&&◌, List, eqb, ltb, drop, Result, Option, None, Some, ℤ, Option}
use Rattle.request_text.specs.declared.Fault as request
use Rattle.request_format.specs.declared.fields.Shape.TheVariants as S
use Rattle.request_text.specs.declared.Fault.TheVariants as R
use Rattle.request_text.specs.Names.{names, find_in}
use Rattle.request_text.specs.Lines.{said, meaning_of}
use Rattle.network_text.specs.declared.Fault.{Fault}
use Rattle.network_text.specs.declared.Said.{Said}
use Rattle.network_text.specs.Stations.{station_of}

-- by the number of a request that a line names: 22 is `station`; 23 to 26, the station's other numbers, have no line
-- of their own here
abbrev pub by_name : List ℕ → Result (Option (ℕ × ℤ)) request.Fault → Option (ℕ × ℕ) → Result Said Fault
by_name said line None = Ok (Said.Request line)
by_name said line (Some (k, n)) =
    cond (eqb k 22) (station_of (drop n said)) (cond (ltb 22 k && ltb k 27) (Err (Fault.Typed R.Unknown)) (Ok (Said.Request line)))

unfoldable pub told_of : List ℕ → Result Said Fault
told_of l = by_name (said l) (meaning_of S.Eclipse l) (find_in (names S.Eclipse) 0 (said l))

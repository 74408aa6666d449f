-- Worked examples of lines: each is computed.
use Rattle.std.specs.Prelude.{Result, ◌≡◌, refl, List, [], ◌∷◌, map, pos, neg_ℤ, Ok, Some, None, Err}
use Prim.Native.String.{String}
use Rattle.request_format.specs.Fields.{holds}
use Rattle.request_format.specs.Rows.{letters, rows, rowAt}
use Rattle.tokens.specs.Text.{run_of}
use Rattle.tokens.specs.Numbers.{appended, is_number, is_whole, amount}
use Rattle.request_text.specs.declared.Fault as request
use Rattle.request_text.specs.declared.Fault.TheVariants as R
use Rattle.request_text.specs.Names.{names, named, find_in}
use Rattle.request_text.specs.Lines.{with_sign, fitted, value_of, of_value, of_name, meaning_of}
use Rattle.network_text.specs.declared.Fault.TheVariants as F
use Rattle.network_text.specs.declared.Fault.{Fault}
use Rattle.network_text.specs.declared.Said.{Said}
use Rattle.network_text.specs.Stations.{node_of, word_of, words_from, station_of}
use Rattle.network_text.specs.Lines.{told_of}

abbrev lines : List String
lines =
    "station 1 55.755 37.617 150 29.5 0  # Moscow" ∷ "\tstation\t22 -33.9 -18.5\t0 -1 1" ∷ "first -3600" ∷ "" ∷ "# a comment"
    ∷ "station 1 55.755 37.617 150 29.5" ∷ "station 1 55.755 37.617 150 29.5 0 7" ∷ "station 1 55.7550001 37.617 150 29.5 0" ∷ "station 1 55.755"
    ∷ "station 70000 0 0 0 0 0" ∷ "station 1 0 0 0 0 -1" ∷ "latitude 55" ∷ "delta t 29.5" ∷ "stations 1" ∷ []

abbrev typed : request.Fault → Result Said Fault
typed f = (Err (F.Typed f))

pub told : map (λ (l : String). told_of (letters l)) lines
    ≡ (Ok (Said.Station (node_of (pos 1 ∷ pos 55755000 ∷ pos 37617000 ∷ pos 150 ∷ pos 2950 ∷ pos 0 ∷ []))))
    ∷ (Ok (Said.Station (node_of (pos 22 ∷ neg_ℤ (pos 33900000) ∷ neg_ℤ (pos 18500000) ∷ pos 0 ∷ neg_ℤ (pos 100) ∷ pos 1 ∷ []))))
    ∷ (Ok (Said.Request (Ok (Some (27, (neg_ℤ (pos 3600))))))) ∷ (Ok (Said.Request (Ok None))) ∷ (Ok (Said.Request (Ok None)))
    ∷ (Err F.Clock) ∷ (Err F.Clock) ∷ typed (R.NotWhole 23) ∷ typed (R.NotNumber 24)
    ∷ typed (R.Unfit 22) ∷ (Err F.Clock) ∷ typed R.Unknown ∷ typed R.Unknown ∷ (Ok (Said.Request (Err R.Unknown))) ∷ []
unfolding holds rows rowAt run_of appended is_number is_whole amount names named find_in with_sign fitted value_of of_value of_name meaning_of word_of words_from station_of told_of
told = refl

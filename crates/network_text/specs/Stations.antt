-- What a station's line gives: six words, `NUMBER LATITUDE LONGITUDE HEIGHT DELTA_T CLOCK`, each in its whole units.
use Rattle.std.specs.Prelude.{ℕ, zero, suc, ◌+◌, cond, List, [], ◌∷◌, ◌++◌, eqb, ltb, ℤ, pos, get_or, Result, Ok, Some, Err, None, Option}
use Rattle.request_text.specs.declared.Fault as request
use Rattle.clock_network.specs.declared.stations.Node.{Node}
use Rattle.request_format.specs.declared.fields.Shape.TheVariants as S
use Rattle.tokens.specs.declared.Class.TheVariants as C
use Rattle.tokens.specs.Text.{all_of}
use Rattle.request_text.specs.Lines.{value_of, word_in, after_word}
use Rattle.network_text.specs.declared.Fault.{Fault}
use Rattle.network_text.specs.declared.Fault.TheVariants as F
use Rattle.network_text.specs.declared.Said.{Said}

-- word k is typed as that number of a request: the station's five; the clock is "the number of the station whose clock
-- it follows"
abbrev pub field_of : ℕ → ℕ
field_of k = cond (ltb k 5) (22 + k) 22

-- an invalid word k is reported as in a typed request; for the clock, only that it is invalid
abbrev pub fault_of : ℕ → request.Fault → Fault
fault_of k f = cond (eqb k 5) F.Clock (F.Typed f)

-- what word k is by its value in a typed request, which says something
abbrev pub by_value : ℕ → Result (Option (ℕ × ℤ)) request.Fault → Result ℤ Fault
by_value k (Ok (Some (j, z))) = Ok z
by_value k (Err f) = Err (fault_of k f)
by_value k (Ok None) = Err F.Clock

unfoldable pub word_of : ℕ → List ℕ → Result ℤ Fault
word_of k w = by_value k (value_of S.Eclipse (field_of k) w)

abbrev pub amount_of : Result ℤ Fault → ℤ
amount_of (Ok z) = z
amount_of (Err f) = pos 0

abbrev pub onward : Result ℤ Fault → Result Said Fault → Result Said Fault
onward (Ok z) r = r
onward (Err f) r = Err f

abbrev pub node_of : List ℤ → Node
node_of vs =
    record {
      station =
          record {
            number = get_or vs 0 (pos 0);
            latitude = get_or vs 1 (pos 0);
            longitude = get_or vs 2 (pos 0);
            height = get_or vs 3 (pos 0);
            deltat = get_or vs 4 (pos 0);
          };
      clock = get_or vs 5 (pos 0);
    }

-- the words from word k on, after those that gave the values vs; nothing but blanks may stand after the last
unfoldable pub words_from : ℕ → ℕ → List ℤ → List ℕ → Result Said Fault
words_from zero k vs s = cond (all_of C.Blank s) (Ok (Said.Station (node_of vs))) (Err F.Clock)
words_from (suc left) k vs s =
    let word = word_of k (word_in s) in
    onward word (words_from left (k + 1) (vs ++ amount_of word ∷ []) (after_word s))

-- what stands after the name `station`
unfoldable pub station_of : List ℕ → Result Said Fault
station_of s = words_from 6 0 [] s

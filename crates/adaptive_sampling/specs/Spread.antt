-- Five seconds that cut a window into four stretches, and their shadows. Definitions only.
use Rattle.std.specs.Prelude.{ℕ, ◌-◌, ◌*◌, ◌/◌, ◌<◌, List, pos, get_or}
use Rattle.shadow.specs.declared.Sample.{Sample}
use Rattle.requests.specs.declared.Occultation.{Occultation}
use Rattle.exclusion_test.specs.Samples.{IsAt, SampleSizes}

-- the k-th of the seconds that cut a window of n into four stretches
abbrev pub stop : ℕ → ℕ → ℕ
stop n k = k * (n - 1) / 4

-- what stands past the end of a list of shadows
abbrev pub blank : Sample
blank = record { u = pos 0; v = pos 0; m = pos 0; first = pos 0; second = pos 0 }

-- the first k of the shadows at those seconds
abbrev pub SpreadTo : Occultation → (n k : ℕ) → List Sample → Type 0
SpreadTo o n k l = (i : ℕ) → i < k → IsAt o (stop n i) (get_or l i blank)

-- the shadows at those seconds
abbrev pub Spread : Occultation → ℕ → List Sample → Type 0
Spread o n l = SpreadTo o n 5 l

-- how large their numbers are, for the code
abbrev pub Sized : List Sample → Type 0
Sized l = (k : ℕ) → k < 5 → SampleSizes (get_or l k blank)

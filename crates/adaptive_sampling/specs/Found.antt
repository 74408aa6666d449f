-- What is known of all seconds of a window. Definitions only.
use Rattle.std.specs.Prelude.{◌≡◌, List, ℕ, ◌≤◌, length, take}
use Rattle.requests.specs.declared.Occultation.{Occultation}
use Rattle.seconds.specs.Seconds.{closestOf}
use Rattle.seconds.specs.AllStates.{AllStates}
use Rattle.adaptive_sampling.specs.declared.bisection.Known.{Known}

pub record Found (o : Occultation) (runs : List ℕ) (t : Known) : Type 0 where
  pub count : t.count ≤ length runs
  pub states : AllStates o (take t.count runs)
  pub closest : t.best ≡ closestOf o

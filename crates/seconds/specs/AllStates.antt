-- The states of all seconds of an occultation, stored as runs of both phases. Definitions only.
use Rattle.std.specs.Prelude.{◌≡◌, List, ℕ, ◌<◌, length, get_or}
use Rattle.sheet_types.specs.declared.phases.Phase.TheVariants.{Penumbra}
use Rattle.shadow_geometry.specs.Shadow.{phases_of}
use Rattle.requests.specs.declared.Occultation.{Occultation}
use Rattle.run_length.specs.Runs.{decoded, Whole}
use Rattle.seconds.specs.Seconds.{states_of}

-- each phase of a shadow has its states there
pub record AllStates (o : Occultation) (runs : List ℕ) : Type 0 where
  pub whole : Whole runs
  pub phase : (k : ℕ) → k < length (phases_of o.body) → decoded k runs ≡ states_of o (get_or (phases_of o.body) k Penumbra)

-- What is known of the seconds so far: their states as runs, and the closest of them. Definitions only.
use Rattle.std.specs.Prelude.{◌≡◌, List, ◌⊎◌, ℕ, ◌+◌, ◌≤◌, ◌<◌, ℤ, pos, nat_abs, ◌*ℤ◌, ◌≤ℤ◌, ◌<ℤ◌}
use Rattle.sheet_types.specs.States.{code}
use Rattle.shadow_geometry.specs.Shadow.{state}
use Rattle.shadow.specs.declared.Sample.{Sample}
use Rattle.shadow.specs.Second.{radius_in}
use Rattle.requests.specs.declared.Occultation.{Occultation}
use Rattle.requests.specs.Windows.{second_count, list_of}
use Rattle.run_length.specs.Runs.{state_in, told, Ends, Pushed}
use Rattle.adaptive_sampling.specs.declared.partial.Tally.{Tally}
use Rattle.exclusion_test.specs.Samples.{byte_at, square_at, size}
use Rattle.adaptive_sampling.specs.Reach.{Reached}
use Rattle.adaptive_sampling.specs.Nearest.{Nearest}

-- the states of both phases, as they stand in a run
pub record IsPair (guard : ℤ) (s : Sample) (r : ℕ) : Type 0 where
  pub small : r < 16
  pub states : (k : ℕ) → k < 2 → state_in k r ≡ code (state guard (size (radius_in s k)) s.m)

-- the closer of second j, whose M is m, and the closest so far; the earlier of equals
pub record Closer (t : Tally) (j : ℕ) (m : ℤ) (r : Tally) : Type 0 where
  pub which : ((m <ℤ t.least) × (r.best ≡ j) × (r.least ≡ m)) ⊎ ((t.least ≤ℤ m) × (r.best ≡ t.best) × (r.least ≡ t.least))

-- h seconds, the last of them second j, got the states of s
pub record Stored (guard : ℤ) (s : Sample) (h j : ℕ) (old : List ℕ) (t : Tally) (new : List ℕ) (r : Tally) : Type 0 where
  pub pair : ℕ
  pub is : IsPair guard s pair
  pub pushed : Pushed old t.filled pair h new r.filled
  pub closer : Closer t j s.m r
  pub near : r.near ≡ t.near

-- the same seconds, and perhaps a smaller distance, which a second whose M is m reaches
pub record Approached (t : Tally) (m : ℤ) (r : Tally) : Type 0 where
  pub filled : r.filled ≡ t.filled
  pub best : r.best ≡ t.best
  pub least : r.least ≡ t.least
  pub which : (r.near ≡ t.near) ⊎ ((r.near ≤ t.near) × (m ≤ℤ (pos r.near *ℤ pos r.near)))

-- the seconds 0 to i: a second that is passed over has the states of a computed one and is not the closest
pub record Kept (o : Occultation) (i : ℕ) (runs : List ℕ) (t : Tally) : Type 0 where
  pub ends : Ends runs t.filled
  pub few : t.filled.count + t.filled.seconds ≤ i + 1
  pub states : (k : ℕ) → k < 2 → told k runs t.filled ≡ list_of (byte_at o k) (i + 1)
  pub nearest : Nearest (square_at o) (pos t.near *ℤ pos t.near) i t.best t.least
  pub size : nat_abs t.least ≤ 1000000000000000000
  pub reached : Reached o (second_count o.window) t.near

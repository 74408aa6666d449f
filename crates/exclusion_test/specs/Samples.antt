-- The seconds of a window that are computed: their shadows, the byte of a phase at each second, and M. Definitions
-- only.
use Rattle.std.specs.Prelude.{ℕ, ◌≤◌, ℤ, pos, nat_abs}
use Rattle.sheet_types.specs.States.{code}
use Rattle.shadow_geometry.specs.Shadow.{M}
use Rattle.station.specs.Place.{place_of}
use Rattle.shadow.specs.declared.Sample.{Sample}
use Rattle.shadow.specs.Second.{phase_in, IsSample}
use Rattle.requests.specs.declared.Occultation.{Occultation}
use Rattle.requests.specs.Windows.{nth_second}
use Rattle.seconds.specs.Seconds.{moment_at, state_at}

-- s is the shadow at second k
abbrev pub IsAt : Occultation → ℕ → Sample → Type 0
IsAt o k s = IsSample o.body (place_of o.station) (nth_second o.window k) s

-- the state of phase k at second n, as a byte
unfoldable pub byte_at : Occultation → (k n : ℕ) → ℕ
byte_at o k n = code (state_at o (phase_in o.body k) (nth_second o.window n))

-- M at second n
unfoldable pub square_at : Occultation → ℕ → ℤ
square_at o n = M (moment_at o (nth_second o.window n))

abbrev pub size : ℤ → ℤ
size l = pos (nat_abs l)

-- how large the numbers of a shadow are, for the code
pub record SampleSizes (s : Sample) : Type 0 where
  pub u : nat_abs s.u ≤ 1000000000
  pub v : nat_abs s.v ≤ 1000000000
  pub m : nat_abs s.m ≤ 1000000000000000000
  pub first : nat_abs s.first ≤ 600000000
  pub second : nat_abs s.second ≤ 600000000

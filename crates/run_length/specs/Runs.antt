-- The states of the seconds of a window, of two phases in one list of bytes. Definitions only. A run is a spell of
-- seconds that have the same two states. Its first byte holds the states, in its lower four bits, and in its upper
-- four how long it is: at 0 it is one second, in one byte; at 1 + h a second byte n follows, and it is h * 256 + n
-- seconds.
use Rattle.std.specs.Prelude.{ℕ, zero, suc, ◌+◌, ◌*◌, ◌/◌, ◌%◌, ◌≤◌, ◌<◌, ◌≡◌, List, [], ◌∷◌, ◌++◌, length, take, drop, replicate}
use Rattle.run_length.specs.declared.Run.{Run}
use Rattle.run_length.specs.declared.Filled.{Filled}

-- the state of the first phase (0) or the second that a run's first byte holds: 0 outside, 1 inside, any other unsure
abbrev pub state_in : ℕ → ℕ → ℕ
state_in zero b = b % 4
state_in (suc k) b = b / 4 % 4

-- the upper four bits of a first byte
abbrev pub high : ℕ → ℕ
high b = b / 16

-- the seconds of a run, by the upper bits of its first byte and by the byte after that
abbrev pub seconds_of : ℕ → ℕ → ℕ
seconds_of zero n = 1
seconds_of (suc h) n = h * 256 + n

-- what follows a run, by the upper bits of its first byte: what follows one byte, or two
abbrev pub following : ℕ → List ℕ → List ℕ → List ℕ
following zero one two = one
following (suc h) one two = two

-- the states of phase k, one a second. (A second byte that is missing is taken for 0.)
unfoldable pub decoded : ℕ → List ℕ → List ℕ
decoded k [] = []
decoded k (b ∷ []) = replicate (seconds_of (high b) 0) (state_in k b)
decoded k (b ∷ n ∷ s) = replicate (seconds_of (high b) n) (state_in k b) ++ following (high b) (decoded k (n ∷ s)) (decoded k s)

-- the bytes are whole runs, each of one second at least
pub data Whole : List ℕ → Type 0 where
  none : Whole []
  one : {b : ℕ} {s : List ℕ} → high b ≡ 0 → Whole s → Whole (b ∷ s)
  more : {b n : ℕ} {s : List ℕ} → 0 < high b → 0 < seconds_of (high b) n → Whole s → Whole (b ∷ n ∷ s)

-- the run at place i of the bytes, as phase k sees it
pub record RunAt (k : ℕ) (bytes : List ℕ) (i : ℕ) (r : Run) : Type 0 where
  pub states : decoded k (drop i bytes) ≡ replicate r.seconds r.state ++ decoded k (drop r.after bytes)
  pub some : 0 < r.seconds
  pub further : i < r.after
  pub within : r.after ≤ length bytes
  pub whole : Whole (drop r.after bytes)

-- the states of phase k that the runs so far say, one a second: those stored in the first `count` bytes, then the last
abbrev pub told : ℕ → List ℕ → Filled → List ℕ
told k bytes f = decoded k (take f.count bytes) ++ replicate f.seconds (state_in k f.pair)

-- the first `count` bytes are whole runs, and the last run is one that can be stored
pub record Ends (bytes : List ℕ) (f : Filled) : Type 0 where
  pub whole : Whole (take f.count bytes)
  pub pair : f.pair < 16
  pub some : 1 ≤ f.seconds
  pub most : f.seconds ≤ 3839

-- a run of n seconds, of a pair's states, stored after those in the first `count` bytes; r is the place after it
pub record Written (old : List ℕ) (count pair n : ℕ) (new : List ℕ) (r : ℕ) : Type 0 where
  pub same : length new ≡ length old
  pub whole : Whole (take r new)
  pub states : (k : ℕ) → decoded k (take r new) ≡ decoded k (take count old) ++ replicate n (state_in k pair)
  pub short : r ≤ count + n

-- n seconds more, of a pair's states, after the runs so far
pub record Pushed (old : List ℕ) (f : Filled) (pair n : ℕ) (new : List ℕ) (r : Filled) : Type 0 where
  pub same : length new ≡ length old
  pub ends : Ends new r
  pub states : (k : ℕ) → told k new r ≡ told k old f ++ replicate n (state_in k pair)
  pub short : r.count + r.seconds ≤ f.count + f.seconds + n

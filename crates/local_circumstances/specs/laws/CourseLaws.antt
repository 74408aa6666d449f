-- The states of a course by its seconds, and its seconds as they are stored.
--   states_length, states-at   a byte for each second of the window, its state's
--   stored_at                  second k is stored as the first one and k
use Rattle.std.specs.Prelude.{◌≡◌, ℕ, ◌+◌, ◌<◌, length, get_or}
use Rattle.std.proofs.Common.{sym, ap, ◌∙◌}
use Rattle.sheet_types.specs.declared.phases.Phase.{Phase}
use Rattle.sheet_types.specs.States.{code}
use Rattle.requests.specs.Windows.{second_count}
use Rattle.requests.specs.WindowLaws.{low_second, each-length, each_at}
use Rattle.sheet_format.specs.StoredSeconds.{stored, second_of}
use Rattle.sheet_format.specs.laws.StoredSecondLaws.{stored-later, second-stored}
use Rattle.local_circumstances.specs.Courses.{Course, second, states_of}
use Rattle.local_circumstances.specs.Sound.{Sound}

module _ (c : Course) (φ : Phase) where
  pub states_length : length (states_of c φ) ≡ second_count c.window
  unfolding states_of
  states_length = each-length c.window (λ τ. code (c.state φ τ))

  pub states-at : (k : ℕ) → k < second_count c.window → get_or (states_of c φ) k 0 ≡ code (c.state φ (second c k))
  unfolding states_of
  states-at k h = each_at c.window (λ τ. code (c.state φ τ)) k h

module _ (c : Course) (s : Sound c) where
  abbrev pub first : ℕ
  first = stored c.window.first

  pub stored_at : (k : ℕ) → stored (second c k) ≡ first + k
  stored_at k = stored-later c.window.first k s.window.low

  -- and read back
  pub second_at : (k : ℕ) → second_of (first + k) ≡ second c k
  second_at k = ap second_of (sym (stored_at k)) ∙ second-stored (second c k) (low_second c.window s.window k)

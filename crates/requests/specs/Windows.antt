-- A window: its range, and its seconds, counted from 0. Definitions only.
use Rattle.std.specs.Prelude.{Bool, ◌&&◌, List, [], ◌∷◌, ℕ, zero, suc, ℤ, pos, neg_ℤ, nat_abs, ◌+ℤ◌, ◌-ℤ◌, ◌≤ℤ◌}
use Rattle.std.specs.Int.Signed.{le_z}
use Rattle.requests.specs.declared.windows.Window.{Window}

-- "Window: first and last second, -10,800 ≤ first ≤ last ≤ 10,800."
unfoldable pub window_holds : Window → Bool
window_holds w = le_z (neg_ℤ (pos 10800)) w.first && (le_z w.first w.last && le_z w.last (pos 10800))

-- a second that any window may have
unfoldable pub in_span : ℤ → Bool
in_span τ = le_z (neg_ℤ (pos 10800)) τ && le_z τ (pos 10800)

-- "every second of its window"
abbrev pub InWindow : Window → ℤ → Type 0
InWindow w τ = (w.first ≤ℤ τ) × (τ ≤ℤ w.last)

-- the k-th second, from the first, which is the 0th
abbrev pub nth_second : Window → ℕ → ℤ
nth_second w k = w.first +ℤ pos k

-- how many seconds it has, first and last among them
unfoldable pub second_count : Window → ℕ
second_count w = suc (nat_abs (w.last -ℤ w.first))

-- f 0, f 1, .. f (n - 1)
abbrev pub list_of : (ℕ → ℕ) → ℕ → List ℕ
list_of f zero = []
list_of f (suc n) = f 0 ∷ list_of (λ k. f (suc k)) n

-- a number for each second, from the first to the last
unfoldable pub each_second : Window → (ℤ → ℕ) → List ℕ
each_second w f = list_of (λ k. f (nth_second w k)) (second_count w)

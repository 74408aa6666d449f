-- A distance that some second reaches. Definitions only.
use Rattle.std.specs.Prelude.{◌≡◌, ℕ, ◌≤◌, ◌<◌, pos, nat_abs, ◌*ℤ◌, ◌≤ℤ◌}
use Rattle.requests.specs.declared.Occultation.{Occultation}
use Rattle.exclusion_test.specs.Samples.{square_at}
use Rattle.adaptive_sampling.specs.declared.seeds.Low.{Low}

-- a second of n, with its M
pub record Seen (o : Occultation) (n : ℕ) (w : Low) : Type 0 where
  pub small : w.second < n
  pub is : w.m ≡ square_at o w.second
  pub size : nat_abs w.m ≤ 1000000000000000000

-- some second of n has at most r²
pub record Reached (o : Occultation) (n r : ℕ) : Type 0 where
  pub few : r ≤ 1000000001
  pub second : ℕ
  pub small : second < n
  pub reached : square_at o second ≤ℤ (pos r *ℤ pos r)

-- One value at the seven hours, as a closure takes it from an hour.
use Rattle.std.specs.Prelude.{◌≡◌, ℤ}
use Rattle.element_fits.specs.declared.least_squares.Hourly.{Hourly}
use Rattle.element_fits.specs.declared.Hour.{Hour}
use Rattle.element_fits.specs.declared.Hours.{Hours}
use Rattle.element_fits.specs.FromTables.{each}

-- what is said of an hour and its value, at each of the seven
pub record AtEach (says : Hour → ℤ → Type 0) (h : Hours) (v : Hourly) : Type 0 where
  pub v0 : says h.h0 v.v0
  pub v1 : says h.h1 v.v1
  pub v2 : says h.h2 v.v2
  pub v3 : says h.h3 v.v3
  pub v4 : says h.h4 v.v4
  pub v5 : says h.h5 v.v5
  pub v6 : says h.h6 v.v6

pub each_is : (f : Hour → ℤ) (h : Hours) (v : Hourly) → AtEach (λ x r. r ≡ f x) h v → v ≡ each f h
each_is f h v a = rw (← a.v0, ← a.v1, ← a.v2, ← a.v3, ← a.v4, ← a.v5, ← a.v6)

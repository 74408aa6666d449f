-- What callers use of the angle of a direction.
--   acute-flat, acute-steep   by the lesser of cosine and sine; acute-le: at most 90 degrees
--   argument-first .. argument-fourth   the four quadrants, by the signs of x and y
--   argument-below            less than 360 degrees
use Rattle.std.specs.Prelude.{◌≡◌, Bool, ℕ, ◌+◌, ◌-◌, ◌%◌, ◌≤◌, ◌<◌, ℤ, pos, nat_abs, ◌≤ℤ◌, ◌<ℤ◌}
use Rattle.std.proofs.Math.Bool.{true, false, cond}
use Rattle.std.proofs.Common.{⊎_elim, le-leb}
use native.Mathlib.Omega.{arith}
use Rattle.std.proofs.lemmas.Bool.{lt-leb}
use Rattle.std.specs.Int.Signed.{lt_z}
use Rattle.rounding.specs.laws.Tests.{yes-<, no-<}
use Rattle.sine.specs.laws.SineLaws.{either}
use Rattle.element_fits.specs.Angles.{arc, acute, argument}
use Rattle.element_fits.specs.laws.ArcsineLaws.{arc-le}

module _ (p q : ℕ) where
  pub acute-flat : q ≤ p → acute p q ≡ arc q
  unfolding acute
  acute-flat h = rw (le-leb q p h)

  pub acute-steep : p < q → acute p q ≡ 90_000_000 - arc p
  unfolding acute
  acute-steep h = rw (lt-leb q p h)

  pub acute-le : acute p q ≤ 90_000_000
  acute-le =
      ⊎_elim (λ (l : p < q). omega (arith, acute-steep l)) (λ (h : q ≤ p). omega (arith, acute-flat h, arc-le q)) (either q p)

module _ (x y : ℤ) where
  abbrev a : ℕ
  a = acute (nat_abs x) (nat_abs y)

  pub argument-first : pos 0 ≤ℤ x → pos 0 ≤ℤ y → argument x y ≡ a
  unfolding argument
  argument-first h k = rw (no-< h, no-< k)

  pub argument-second : x <ℤ pos 0 → pos 0 ≤ℤ y → argument x y ≡ 180_000_000 - a
  unfolding argument
  argument-second h k = rw (yes-< h, no-< k)

  pub argument-third : x <ℤ pos 0 → y <ℤ pos 0 → argument x y ≡ 180_000_000 + a
  unfolding argument
  argument-third h k = rw (yes-< h, yes-< k)

  pub argument-fourth : pos 0 ≤ℤ x → y <ℤ pos 0 → argument x y ≡ (360_000_000 - a) % 360_000_000
  unfolding argument
  argument-fourth h k = rw (no-< h, yes-< k)

  pub argument-below : argument x y < 360_000_000
  unfolding argument
  argument-below = go (lt_z y (pos 0)) (lt_z x (pos 0)) (acute-le (nat_abs x) (nat_abs y))
    where
      go : (s t : Bool) {n : ℕ} → n ≤ 90_000_000
          → cond s (cond t (180_000_000 + n) ((360_000_000 - n) % 360_000_000)) (cond t (180_000_000 - n) n) < 360_000_000
      go true true h = omega arith
      go true false h = omega arith
      go false true h = omega arith
      go false false h = omega arith

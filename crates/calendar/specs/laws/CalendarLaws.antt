-- How many days a month has, month by month.
use Rattle.std.specs.Prelude.{◌≡◌, true, false, ◌||◌, ℕ, eqb}
use Rattle.std.proofs.Common.{eq-eqb, ne_eqb}
use Rattle.calendar.specs.Calendar.{is_leap, days_in}

module _ (y m : ℕ) where
  pub leap-february : m ≡ 2 → is_leap y ≡ true → 29 ≡ days_in y m
  unfolding days_in
  leap-february e l = rw (eq-eqb m 2 e, l)

  pub february : m ≡ 2 → is_leap y ≡ false → 28 ≡ days_in y m
  unfolding days_in
  february e l = rw (eq-eqb m 2 e, l)

  pub short-month : (m ≡ 2 → ⊥) → (eqb m 4 || eqb m 6 || eqb m 9 || eqb m 11) ≡ true → 30 ≡ days_in y m
  unfolding days_in
  short-month h e = rw (ne_eqb m 2 h, e)

  pub long-month : (m ≡ 2 → ⊥) → (eqb m 4 || eqb m 6 || eqb m 9 || eqb m 11) ≡ false → 31 ≡ days_in y m
  unfolding days_in
  long-month h e = rw (ne_eqb m 2 h, e)

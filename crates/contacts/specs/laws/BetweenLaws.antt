-- The test whether a second lies between two others, as a fact and back.
use Rattle.std.specs.Prelude.{ℕ, ◌+◌, ◌≤◌, ◌<◌, ◌≡◌, true, false}
use Rattle.std.proofs.Common.{arith}
use borrow.Author.Tests.{ltb-true, lt-ltb, le-ltb}
use Rattle.contacts.specs.Entries.{some_between}

module _ (f t : ℕ) where
  pub some-between : some_between f t ≡ true → f + 1 < t
  unfolding some_between
  some-between w = omega (arith, ltb-true)

  pub between-some : f + 1 < t → some_between f t ≡ true
  unfolding some_between
  between-some h = rw lt-ltb

  pub between_none : t ≤ f + 1 → some_between f t ≡ false
  unfolding some_between
  between_none h = rw le-ltb

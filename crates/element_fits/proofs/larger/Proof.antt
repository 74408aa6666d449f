-- `element_fits::larger` meets its contract, by its cases.
use mathlib.Core.Path.{◌≡◌}
use Prim.Native.Nat.{ℕ, ◌≤◌, ◌<◌}
use native.Mathlib.Omega.{arith}
use borrow.Author.Tests.{le-leb, lt-leb}
use Rattle.element_fits.specs.Answers.{larger}
use Rattle.element_fits.proofs.larger.Statement.{statement}
use Rattle.element_fits.proofs.larger.Tie as tie

second : (a b : ℕ) → a < b → b ≡ larger a b
unfolding larger
second a b h = rw (lt-leb b a h)

first : (a b : ℕ) → b ≤ a → a ≡ larger a b
unfolding larger
first a b h = rw (le-leb b a h)

returns : tie.Need-returns-then-a-b
returns c = let s = c.before in (second s.args.a s.args.b (omega arith), s.requires.1)

returns-2 : tie.Need-returns-else-a-b
returns-2 c = let s = c.before in (first s.args.a s.args.b (omega arith), s.requires.0)

pub larger_spec : {M : Type 1} → statement M
larger_spec = tie.close (tie.spec returns returns-2)

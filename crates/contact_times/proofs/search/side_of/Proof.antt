-- `contact_times::search::side_of` meets its contract, test by test.
use mathlib.Core.Path.{◌≡◌, refl}
use Prim.Native.Nat.{ℕ}
use borrow.Author.Tests.{eq-eqb, ne_eqb}
use Rattle.contact_times.specs.Brackets.{side_of}
use Rattle.contact_times.proofs.search.side_of.Statement.{statement}
use Rattle.contact_times.proofs.search.side_of.Tie as tie

module _ (start s : ℕ) where
  same : s ≡ start → 0 ≡ side_of start s
  unfolding side_of
  same e = rw (eq-eqb s start e) refl

  open-state : (s ≡ start → ⊥) → s ≡ 2 → 1 ≡ side_of start s
  unfolding side_of
  open-state n e = rw (ne_eqb s start n, eq-eqb s 2 e) refl

  other : (s ≡ start → ⊥) → (s ≡ 2 → ⊥) → 2 ≡ side_of start s
  unfolding side_of
  other n e = rw (ne_eqb s start n, ne_eqb s 2 e) refl

returns : tie.Need-returns-then-s-start
returns c = same c.args.start c.args.s c.if-s-start.true

returns-2 : tie.Need-returns-then-s-eq2
returns-2 c = let a = c.args in open-state a.start a.s c.if-s-start.false c.if-s-eq2.true

returns-3 : tie.Need-returns-else-s-eq2
returns-3 c = let a = c.args in other a.start a.s c.if-s-start.false c.if-s-eq2.false

pub side_of_spec : {M : Type 1} → statement M
side_of_spec = tie.close (tie.spec returns returns-2 returns-3)

-- `element_fits::numbers::radii_at` meets its contract: three sizes.
use mathlib.Core.Path.{ap, ◌∙◌}
use Prim.Native.Nat.{◌≤◌}
use borrow.Author.Rules.{rules}
use lib.IntN.{nat_abs}
use Rattle.rounding.specs.laws.Code.{read_back, read-size}
use Rattle.besselian_rows.specs.Tables.{number}
use Rattle.element_fits.specs.Numbers.{radii_of}
use Rattle.element_fits.proofs.numbers.radii_at.Statement.{statement}
use Rattle.element_fits.proofs.numbers.radii_at.Tie as tie

module _ (c : tie.Start) where
  sun : nat_abs (number c.args.radii.now 0) ≤ 10930000000
  unfolding radii_of
  sun = c.requires.1.sun_high

  penumbra : nat_abs (number c.args.radii.now 1) ≤ 27300000
  unfolding radii_of
  penumbra = c.requires.1.penumbra_high

  central : nat_abs (number c.args.radii.now 2) ≤ 27300000
  unfolding radii_of
  central = c.requires.1.central_high

returns : tie.Need-returns
unfolding radii_of
returns c =
    let s = c.before.before.before.before.before.before in
    let k = s.args.radii.now in
    rw (
      c.natural-sun.ensures ∙ ap nat_abs (read_back (number k 0) (sun s) tt),
      c.natural-penumbra.ensures ∙ ap nat_abs (read_back (number k 1) (penumbra s) tt),
      c.natural-central.ensures ∙ ap nat_abs (read_back (number k 2) (central s) tt),
    )

pub radii_at_spec : {M : Type 1} → statement M
radii_at_spec =
    tie.close
    (tie.spec (λ c. search rules) (λ c. search rules) (λ c. search rules)
    (λ c κs. let s = c.before.before.before in read-size (number s.args.radii.now 0) 9223372036854775807 (sun s) tt)
    (λ c κs. let s = c.before.before.before.before in read-size (number s.args.radii.now 1) 9223372036854775807 (penumbra s) tt)
    (λ c κs. let s = c.before.before.before.before.before in read-size (number s.args.radii.now 2) 9223372036854775807 (central s) tt)
    returns)

-- `seconds::direction_at` meets its contract: it is the direction of the shadow there.
use mathlib.Core.Path.{sym, subst, ◌∙◌}
use borrow.Author.Rules.{rules}
use lib.Dec.{lit≤}
use Rattle.rounding.specs.laws.Code.{read_back, read-size}
use Rattle.elements.specs.Sizes.{wider_axis}
use Rattle.elements.specs.StarLaws.{axis_sizes}
use Rattle.station.specs.Sizes.{PlaceSizes}
use Rattle.seconds.specs.Seconds.{direction_at}
use Rattle.seconds.proofs.laws.SecondLaws.{placed}
use Rattle.seconds.proofs.direction_at.Statement.{statement}
use Rattle.seconds.proofs.direction_at.Tie as tie

direction-at-requires : tie.Need-direction_at-direction-requires
direction-at-requires c κs =
    let b = c.before.before in
    let o = b.args.o in (
      b.requires.0,
      rw c.axis_of-axis.ensures (wider_axis (axis_sizes o.body b.requires.1.body) (lit≤ tt)),
      subst PlaceSizes (sym b.requires.2) (placed o b.requires.1),
      read-size b.args.t 10800 b.requires.3 tt,
    )

returns : tie.Need-returns
unfolding direction_at
returns c =
    let b = c.before.before.before in
    c.direction_at-direction.ensures ∙ rw (c.axis_of-axis.ensures, b.requires.2, read_back b.args.t b.requires.3 tt)

pub direction_at_spec : {M : Type 1} → statement M
direction_at_spec = tie.close (tie.spec (λ c κs. search rules) direction-at-requires (λ c. search rules) returns)

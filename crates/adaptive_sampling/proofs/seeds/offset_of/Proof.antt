-- `adaptive_sampling::seeds::offset_of` meets its contract: the axis from the station at the k-th second.
use mathlib.Core.Path.{sym, ap, subst, ◌∙◌}
use Prim.Native.Nat.{◌≤◌}
use native.Mathlib.Omega.{arith}
use borrow.Author.Rules.{rules}
use lib.Dec.{lit≤}
use lib.IntN.{nat_abs}
use Rattle.rounding.specs.laws.Code.{read_back, read-size}
use Rattle.elements.specs.Sizes.{wider_axis}
use Rattle.elements.specs.StarLaws.{axis_sizes}
use Rattle.station.specs.Sizes.{PlaceSizes}
use Rattle.requests.specs.WindowLaws.{second-size}
use Rattle.seconds.proofs.laws.SecondLaws.{placed}
use Rattle.adaptive_sampling.proofs.seeds.offset_of.Statement.{statement}
use Rattle.adaptive_sampling.proofs.seeds.offset_of.Tie as tie

abbrev start : tie.After-nth_second-t → tie.Start
start c = c.before.before.before.before

result-small : (c : tie.After-nth_second-t) → nat_abs c.nth_second-t.result ≤ 10800
result-small c =
    let a = start c in
    omega (arith, ap nat_abs c.nth_second-t.ensures, second-size a.args.o.window a.requires.1.window a.args.k a.requires.3)

nth-second-requires : tie.Need-nth_second-t-requires
nth-second-requires c κs = let a = c.before.before.before in (a.requires.1.window, a.requires.3)

offset-at-requires : tie.Need-offset_at-requires
offset-at-requires c κs =
    let a = start c in
    let o = a.args.o in (
      a.requires.0,
      rw c.axis_of-axis.ensures (wider_axis (axis_sizes o.body a.requires.1.body) (lit≤ tt)),
      subst PlaceSizes (sym a.requires.2) (placed o a.requires.1),
      read-size c.nth_second-t.result 10800 (result-small c) tt,
    )

returns : tie.Need-returns
returns c =
    let n = c.before in
    let a = start n in
    rw (n.axis_of-axis.ensures, a.requires.2, read_back n.nth_second-t.result (result-small n) tt ∙ n.nth_second-t.ensures) at c.offset_at.ensures

pub offset_of_spec : {M : Type 1} → statement M
offset_of_spec = tie.close (tie.spec (λ c κs. search rules) nth-second-requires offset-at-requires returns)

-- `local_circumstances::entries::closest_for` meets its contract: the closest second is one of the window's.
use Prim.Native.Nat.{◌≤◌}
use native.Mathlib.Omega.{arith}
use lib.IntN.{nat_abs}
use Rattle.rounding.specs.laws.Code.{read-size}
use Rattle.seconds.proofs.laws.SecondLaws.{closest-within}
use Rattle.local_circumstances.specs.Courses.{closestEntry}
use Rattle.local_circumstances.specs.laws.NamedSecondLaws.{closest-sized, closest-read}
use Rattle.local_circumstances.proofs.entries.closest_for.Statement.{statement}
use Rattle.local_circumstances.proofs.entries.closest_for.Tie as tie

small : (c : tie.After-nth_second-t) → nat_abs c.nth_second-t.result ≤ 10800
small c =
    let b = c.before.before.before in
    closest-sized b.args.o b.requires.1 b.requires.3 c.nth_second-t.ensures

nth-second-requires : tie.Need-nth_second-t-requires
nth-second-requires c κs =
    let b = c.before.before in
    (b.requires.1.window, omega (arith, b.requires.3, closest-within b.args.o b.requires.1))

store-second-requires : tie.Need-store_second-second-requires
store-second-requires c κs = read-size c.nth_second-t.result 10800 (small c) tt

magnitude-at-requires : tie.Need-magnitude_at-magnitude-requires
magnitude-at-requires c κs =
    let b = c.before.before.before.before in
    (b.requires.0, b.requires.1, b.requires.2, read-size c.nth_second-t.result 10800 (small c.before) tt)

returns : tie.Need-returns
unfolding closestEntry
returns c =
    let b = c.before.before.before.before.before in
    let n = c.before.before in
    let t = closest-read b.args.o b.requires.1 b.requires.3 n.nth_second-t.ensures in
    rw (c.store_second-second.ensures.0, c.magnitude_at-magnitude.ensures, t)

pub closest_for_spec : {M : Type 1} → statement M
closest_for_spec = tie.close (tie.spec nth-second-requires store-second-requires magnitude-at-requires returns)

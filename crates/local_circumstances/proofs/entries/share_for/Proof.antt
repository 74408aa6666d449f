-- `local_circumstances::entries::share_for` meets its contract: the closest second is one of the window's.
use Prim.Native.Nat.{◌≤◌}
use native.Mathlib.Omega.{arith}
use lib.IntN.{nat_abs}
use Rattle.rounding.specs.laws.Code.{read-size}
use Rattle.seconds.proofs.laws.SecondLaws.{closest-within}
use Rattle.local_circumstances.specs.Courses.{shareEntry}
use Rattle.local_circumstances.specs.laws.NamedSecondLaws.{closest-sized, closest-read}
use Rattle.local_circumstances.proofs.entries.share_for.Statement.{statement}
use Rattle.local_circumstances.proofs.entries.share_for.Tie as tie

small : (c : tie.After-nth_second-t) → nat_abs c.nth_second-t.result ≤ 10800
small c =
    let b = c.before.before.before in
    closest-sized b.args.o b.requires.1 b.requires.3 c.nth_second-t.ensures

nth-second-requires : tie.Need-nth_second-t-requires
nth-second-requires c κs =
    let b = c.before.before in
    (b.requires.1.window, omega (arith, b.requires.3, closest-within b.args.o b.requires.1))

share-at-requires : tie.Need-share_at-share-requires
share-at-requires c κs =
    let b = c.before.before.before in
    (b.requires.0, b.requires.1, b.requires.2, read-size c.nth_second-t.result 10800 (small c) tt)

returns : tie.Need-returns
unfolding shareEntry
returns c =
    let n = c.before in
    let b = n.before.before.before in
    let t = closest-read b.args.o b.requires.1 b.requires.3 n.nth_second-t.ensures in
    rw (c.share_at-share.ensures, t, b.requires.2)

pub share_for_spec : {M : Type 1} → statement M
share_for_spec = tie.close (tie.spec nth-second-requires share-at-requires returns)

-- `local_circumstances::entries::head_for` meets its contract: a number, two seconds and a guard within their ranges,
-- as unsigned numbers.
use mathlib.Core.List.{[], ◌∷◌}
use Prim.Native.Nat.{◌≤◌}
use native.Mathlib.Omega.{arith}
use lib.IntN.{nat_abs}
use lib.Signed.{le_z_yes}
use Rattle.rounding.specs.laws.Order.{≤ℤ_trans, nat_abs_between}
use Rattle.rounding.specs.laws.Code.{arg, Within, whole, ends, ◌▹◌, within, unsigned, read_back, read-size}
use Rattle.requests.specs.declared.Occultation.{Occultation}
use Rattle.requests.specs.WindowLaws.{window-sizes}
use Rattle.requests.specs.RequestLaws.{InLimits, guard_size}
use Rattle.local_circumstances.specs.Courses.{headEntry}
use Rattle.local_circumstances.proofs.entries.head_for.Statement.{statement}
use Rattle.local_circumstances.proofs.entries.head_for.Tie as tie

number_size : (o : Occultation) → InLimits o → nat_abs o.station.number ≤ 999
number_size o i = nat_abs_between o.station.number 1 i.station.number.0 i.station.number.1

cast-station : tie.Need-overflow_cast-station
cast-station c =
    let b = c.before.before.before.before in
    let w : Within (whole b.args.o.station.number ∷ []) (999 ∷ []) = number_size b.args.o b.requires ▹ ends in
    ((unsigned w (arg 0) tt (≤ℤ_trans (le_z_yes tt) b.requires.station.number.0)).0, record { fits = omega (arith, within w (arg 0) 999 tt) })

store-second-requires : tie.Need-store_second-first-requires
store-second-requires c κs =
    let b = c.before.before.before.before.before in
    read-size b.args.o.window.first 10800 (window-sizes b.args.o.window b.requires.window).0 tt

store-second-requires-2 : tie.Need-store_second-last-requires
store-second-requires-2 c κs =
    let b = c.before.before.before.before.before.before.before in
    read-size b.args.o.window.last 10800 (window-sizes b.args.o.window b.requires.window).1 tt

cast-guard : tie.Need-overflow_cast-guard
cast-guard c =
    let b = c.before.before.before.before.before.before.before.before.before.before in
    let w : Within (whole b.args.o.guard ∷ []) (1000 ∷ []) = (guard_size b.requires.guard).1 ▹ ends in
    ((unsigned w (arg 0) tt (≤ℤ_trans (le_z_yes tt) b.requires.guard.low)).0, record { fits = omega (arith, within w (arg 0) 1000 tt) })

returns : tie.Need-returns
unfolding headEntry
returns c =
    let b = c.before.before.before.before.before.before.before.before.before.before in
    let o = b.args.o in
    let s = window-sizes o.window b.requires.window in
    rw (
      read_back o.station.number (number_size o b.requires) tt,
      c.store_second-first.ensures.0,
      c.store_second-last.ensures.0,
      read_back o.window.first s.0 tt,
      read_back o.window.last s.1 tt,
      read_back o.guard (guard_size b.requires.guard).1 tt,
    )

pub head_for_spec : {M : Type 1} → statement M
head_for_spec = tie.close (tie.spec cast-station store-second-requires store-second-requires-2 cast-guard returns)

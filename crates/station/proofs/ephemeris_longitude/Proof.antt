-- `station::ephemeris_longitude` meets its contract: one product, one near, one difference; none leaves 64 bits.
use mathlib.Core.Path.{◌≡◌, ap, ◌∙◌}
use mathlib.Core.List.{[], ◌∷◌}
use Prim.Native.Nat.{◌≤◌}
use lib.Dec.{lit≤}
use lib.IntN.{ℤ, pos, nat_abs, ◌-ℤ◌}
use lib.Signed.{le_z_yes}
use Rattle.rounding.specs.laws.Code.{Code, arg, lit, sub, mul, Within, whole, ends, ◌▹◌, fits, runs, within}
use Rattle.rounding.specs.Near.{near}
use Rattle.station.specs.Place.{turn_in, ephemeris_longitude}
use Rattle.station.proofs.laws.PlaceLaws.{turn-size, longitude_size}
use Rattle.station.proofs.ephemeris_longitude.Statement.{statement}
use Rattle.station.proofs.ephemeris_longitude.Tie as tie

bounds : (c : tie.Start) → Within (whole c.args.deltat ∷ []) (20000 ∷ [])
bounds c = c.requires.1 ▹ ends

abbrev product : Code
product = mul (arg 0) (lit (pos 417807))

turn_is : (c : tie.After-near) → c.near.result ≡ turn_in c.args.deltat
unfolding turn_in
turn_is c = c.near.ensures ∙ ap (λ (z : ℤ). near z (pos 10000)) (runs (bounds c.before) product tt)

turned : (c : tie.After-near) → Within (whole c.args.longitude ∷ whole c.near.result ∷ []) (180000000 ∷ 835614 ∷ [])
turned c =
    let t : nat_abs c.near.result ≤ 835614 = rw (turn_is c) (turn-size c.args.deltat c.requires.1) in
    c.requires.0 ▹ t ▹ ends

near-requires : tie.Need-near-requires
near-requires c κs = (within (bounds c) product 4000000000000000000 tt, lit≤ tt, le_z_yes tt)

value : (c : tie.After-near) → c.args.longitude -ℤ c.near.result ≡ ephemeris_longitude c.args.longitude c.args.deltat
unfolding ephemeris_longitude
value c = ap (λ (z : ℤ). c.args.longitude -ℤ z) (turn_is c)

returns : tie.Need-returns
returns c =
    let s = c.before in
    let e = runs (turned c) (sub (arg 0) (arg 1)) tt ∙ value c in
    record { value = e; size = rw e (longitude_size s.args.longitude s.args.deltat s.requires.0 s.requires.1) }

pub ephemeris_longitude_spec : {M : Type 1} → statement M
ephemeris_longitude_spec = tie.close (tie.spec (λ c. fits (bounds c) product tt) near-requires (λ c. fits (turned c) (sub (arg 0) (arg 1)) tt) returns)

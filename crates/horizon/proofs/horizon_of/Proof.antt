-- `horizon::horizon_of` meets its contract: the three are put together.
use mathlib.Core.Path.{◌≡◌, ap, ap₂, ◌∙◌}
use borrow.Author.Rules.{rules}
use Prim.Native.Nat.{ℕ, ◌≤◌}
use native.Mathlib.Omega.{arith}
use lib.IntN.{ℤ, nat_abs}
use mir.Syntax.{w64}
use mir.Val.{to_z, of_z}
use Rattle.rounding.specs.laws.Code.{read_back, read-size}
use Rattle.sine_table.specs.Table.{S}
use Rattle.horizon.specs.Altitude.{kept, altitude}
use Rattle.horizon.specs.laws.AltitudeLaws.{kept-size, altitude-size}
use Rattle.shadow_geometry.specs.Direction.{direction}
use Rattle.horizon.specs.declared.Horizon.{Horizon}
use Rattle.horizon.specs.Horizon.{altitude_sine, east, north, zenith_east, zenith_north}
use Rattle.horizon.proofs.horizon_of.Statement.{statement}
use Rattle.horizon.proofs.horizon_of.Tie as tie

-- the sine, kept
sine-size : (c : tie.After-kept-a) → nat_abs c.kept-a.result ≤ 100000000
sine-size c = omega (arith, ap nat_abs c.kept-a.ensures, kept-size (to_z w64 (of_z w64 c.altitude_sine.result)))

three : {a b : ℤ} {x y z w : ℕ} → a ≡ b → x ≡ y → z ≡ w
    → ◌≡◌ {A = Horizon} (record { altitude = a; azimuth = x; zenith = z }) (record { altitude = b; azimuth = y; zenith = w })
three e f g = rw (e, f, g)

kept-requires : tie.Need-kept-a-requires
kept-requires c κs = read-size c.altitude_sine.result 1000000000 c.altitude_sine.ensures.size tt

altitude-requires : tie.Need-altitude-altitude-requires
altitude-requires c κs = (c.requires.0, read-size c.kept-a.result 100000000 (sine-size c) tt)

returns : tie.Need-returns
returns c =
    let s = c.before.before.before.before.before.before in
    let rs = read_back s.args.sine s.requires.1 tt in
    let rc = read_back s.args.cosine s.requires.2 tt in
    let k = c.before.before.before in
    let a = c.altitude-altitude in
    let e : a.result ≡ altitude S (kept (altitude_sine s.args.sine s.args.cosine s.args.o)) =
    a.ensures ∙ ap (altitude S) (read_back k.kept-a.result (sine-size k) tt ∙ k.kept-a.ensures
    ∙ ap kept (read_back k.altitude_sine.result k.altitude_sine.ensures.size tt ∙ k.altitude_sine.ensures.value
    ∙ ap₂ (λ (x y : ℤ). altitude_sine x y s.args.o) rs rc)) in
    let size : nat_abs a.result ≤ 900 = omega (arith, ap nat_abs a.ensures, altitude-size (to_z w64 (of_z w64 k.kept-a.result))) in
    three (read_back a.result size tt ∙ e)
    (c.azimuth-azimuth.ensures ∙ ap₂ (λ (x y : ℤ). direction S (east s.args.o) (north x y s.args.o)) rs rc)
    (c.zenith-zenith.ensures ∙ ap₂ (λ (x y : ℤ). direction S (zenith_east y s.args.o) (zenith_north x y s.args.o)) rs rc)

pub horizon_of_spec : {M : Type 1} → statement M
horizon_of_spec =
    tie.close
    (tie.spec (λ c κs. search rules) kept-requires altitude-requires (λ c κs. search rules)
    (λ c κs. search rules) returns)

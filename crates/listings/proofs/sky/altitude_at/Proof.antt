-- `listings::sky::altitude_at` meets its contract: what is found with a buffer of zeros, by its two cases.
use mathlib.Core.Path.{◌≡◌, sym, ap, ◌∙◌}
use native.Mathlib.Omega.{arith}
use lib.IntN.{nat_abs}
use mir.Syntax.{w64}
use mir.Val.{to_z, of_z}
use mir.ValLaws.{to_z-of_z}
use Rattle.rounding.specs.laws.Code.{read_result}
use Rattle.listings.specs.Sky.{altitude_by, altitude_at}
use Rattle.listings.specs.laws.SkyLaws.{found_small, altitude-found}
use borrow.Author.Rules.{rules}
use Rattle.listings.proofs.sky.altitude_at.Statement.{statement}
use Rattle.listings.proofs.sky.altitude_at.Tie as tie

read : (c : tie.Start) → to_z w64 (of_z w64 c.args.t) ≡ c.args.t
read c = to_z-of_z w64 c.args.t c.ranges.t

-- the altitude, read from its bits
altitude-is : (c : tie.After-struct_told-1) → to_z w64 (of_z w64 c.in-Ok.h.altitude) ≡ c.in-Ok.h.altitude
altitude-is c = read_result c.in-Ok.h.altitude c.struct_told-1.given.0.1

altitude-by-requires : tie.Need-altitude_by-requires
altitude-by-requires c κs =
    let f = c.before in
    omega (arith, found_small _ _ _ _ (sym f.in-Ok.is ∙ f.horizon_at-found.ensures.0), ap nat_abs (altitude-is c))

returns : tie.Need-returns-in-Ok
returns c =
    let f = c.before.before in
    let h = f.before.before in
    let s = h.before.before in
    c.altitude_by.ensures ∙ ap altitude_by (altitude-is c.before)
    ∙ altitude-found _ _ _ s.sines_room-sines.ensures.is _ (sym f.in-Ok.is ∙ h.horizon_at-found.ensures.0)
    ∙ ap (altitude_at _) (read s.before)

returns-2 : tie.Need-returns-in-Err
returns-2 c =
    let h = c.before.before in
    let s = h.before.before in
    altitude-found _ _ _ s.sines_room-sines.ensures.is _ (sym c.in-Err.is ∙ h.horizon_at-found.ensures.0) ∙ ap (altitude_at _) (read s.before)

pub altitude_at_spec : {M : Type 1} → statement M
altitude_at_spec =
    tie.close
    (tie.spec (λ c κs. search rules) (λ c. search rules) (λ c κs. search rules) (λ c. search rules)
    altitude-by-requires (λ c. search rules) returns returns-2)

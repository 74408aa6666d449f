-- `listings::sky::inside_at` meets its contract: what is found with a buffer of zeros, by its two cases.
use mathlib.Core.Path.{◌≡◌, sym, ap, ◌∙◌}
use mir.Syntax.{w64}
use mir.Val.{to_z, of_z}
use mir.ValLaws.{to_z-of_z}
use Rattle.listings.specs.Sky.{inside_at}
use Rattle.listings.specs.laws.SkyLaws.{inside_found}
use borrow.Author.Rules.{rules}
use Rattle.listings.proofs.sky.inside_at.Statement.{statement}
use Rattle.listings.proofs.sky.inside_at.Tie as tie

read : (c : tie.Start) → to_z w64 (of_z w64 c.args.t) ≡ c.args.t
read c = to_z-of_z w64 c.args.t c.ranges.t

returns : tie.Need-returns-in-Ok
returns c =
    let h = c.before.before in
    let s = h.before.before in
    inside_found _ _ _ s.sines_room-sines.ensures.is _ (sym c.in-Ok.is ∙ h.second-found.ensures.0) ∙ ap (inside_at _) (read s.before)

returns-2 : tie.Need-returns-in-Err
returns-2 c =
    let h = c.before.before in
    let s = h.before.before in
    inside_found _ _ _ s.sines_room-sines.ensures.is _ (sym c.in-Err.is ∙ h.second-found.ensures.0) ∙ ap (inside_at _) (read s.before)

pub inside_at_spec : {M : Type 1} → statement M
inside_at_spec =
    tie.close
    (tie.spec (λ c κs. search rules) (λ c. search rules) (λ c κs. search rules) (λ c. search rules)
    (λ c. search rules) returns returns-2)

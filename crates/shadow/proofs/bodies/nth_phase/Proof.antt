-- `shadow::bodies::nth_phase` meets its contract: of either body.
use mathlib.Core.Path.{◌≡◌, sym, ap, ◌∙◌}
use Prim.Native.Nat.{ℕ}
use native.Mathlib.Omega.{arith}
use lib.ListN.{length, get_or}
use borrow.Author.Rules.{rules}
use Rattle.sheet_types.specs.declared.phases.Phase.TheVariants.{Penumbra}
use Rattle.sheet_types.specs.Phases.{star}
use Rattle.elements.specs.declared.Body.{Body}
use Rattle.shadow_geometry.specs.Shadow.{phases_of}
use Rattle.shadow.proofs.bodies.nth_phase.Statement.{statement}
use Rattle.shadow.proofs.bodies.nth_phase.Tie as tie

eclipse-phase-requires : tie.Need-eclipse_phase-requires
eclipse-phase-requires c κs =
    let a = c.before in
    rw c.in-Sun.is at a.requires

returns : tie.Need-returns-in-Sun
returns c = search rules

returns-2 : tie.Need-returns-in-Star
returns-2 c =
    let a = c.before in
    let first : a.args.k ≡ 0 = omega (arith, ap (λ (b : Body). length (phases_of b)) c.in-Star.is, a.requires) in
    sym (ap (λ (b : Body). get_or (phases_of b) a.args.k Penumbra) c.in-Star.is ∙ ap (λ (k : ℕ). get_or star k Penumbra) first)

pub nth_phase_spec : {M : Type 1} → statement M
nth_phase_spec =
    tie.close (tie.spec (λ c. search rules) eclipse-phase-requires (λ c. search rules) returns returns-2)

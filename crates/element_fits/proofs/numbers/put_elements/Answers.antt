-- `element_fits::numbers::put_elements` meets its contract: the parts are stored one behind the other.
use Rattle.std.proofs.Common.{◌≡◌, rules, ap₂, ◌∙◌, ℤ, [], ◌∷◌, w64, to_z, of_z}
use Rattle.std.proofs.lemmas.List.Edits.{sets}
use Rattle.element_fits.specs.laws.NumbersLaws.{elements-stored}
use Rattle.element_fits.proofs.numbers.put_elements.Goals as goal

pub returns : goal.returns
returns c =
    let p : to_z w64 (of_z w64 c.args.e.penumbra.tanf) ≡ c.args.e.penumbra.tanf = search rules in
    let q : to_z w64 (of_z w64 c.args.e.central.tanf) ≡ c.args.e.central.tanf = search rules in
    let t = c.put_tangents.ensures ∙ ap₂ (λ (x y : ℤ). sets c.put_quadratic-4.new.room 20 (x ∷ y ∷ [])) p q in
    elements-stored c.args.room.now c.args.e c.requires c.put_cubic.ensures c.put_cubic-2.ensures c.put_quadratic.ensures
    c.put_quadratic-2.ensures c.put_quadratic-3.ensures c.put_quadratic-4.ensures t

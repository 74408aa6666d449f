-- `network_text::eclipse_in` meets its contract: the two copies are its two parts (`eclipse-parts`).
use Rattle.std.proofs.Common.{[], ◌∷◌, pos, refl, ◌∙◌}
use Rattle.tokens.specs.laws.TextLaws.{rest-is}
use Rattle.network_text.specs.laws.EclipseLaws.{eclipse-parts}
use Rattle.network_text.proofs.eclipse_in.Goals as goal

pub returns : goal.returns
returns c =
    let front = c.copy_from_slice.ensures in
    let back = c.copy_from_slice-2.ensures.after in
    eclipse-parts c.args.n.now _ _ (pos 0 ∷ pos 0 ∷ pos 0 ∷ []) front.len refl front.after (back ∙ rest-is c.args.n.now 27)

-- A number's field is one of those marked (`told-room`).
use Rattle.std.specs.Prelude.{◌≡◌, Ok, length}
use Rattle.std.proofs.Common.{rules, sym, ◌∙◌}
use Rattle.std.proofs.Math.Path.{subst}
use Rattle.network_text.specs.declared.Said.TheVariants as Said
use Rattle.network_text.specs.laws.TypingLaws.{InRoom, told-room}
use Rattle.network_text.proofs.take.Goals as goal

pub note-noted-requires : goal.note-noted-requires
note-noted-requires c =
    let is : c.tell.result ≡ Ok (Said.Request c.in-Ok-Request.said) = search rules in
    (c.requires.1 ∙ sym c.requires.0, subst (InRoom (length c.args.marks.now)) is (told-room _ _ _ c.tell.ensures c.requires.0))

-- `request_text::instants::texts::offset_after` meets its contract: a line that names TAI-UTC is read.
use mathlib.Core.Path.{sym, ◌∙◌}
use Rattle.request_text.specs.laws.ToldLaws.{offset-given, offset-same}
use borrow.Author.Rules.{rules}
use Rattle.request_text.proofs.instants.texts.offset_after.Statement.{statement}
use Rattle.request_text.proofs.instants.texts.offset_after.Tie as tie

seconds-after-requires : tie.Need-seconds_after-seconds-requires
seconds-after-requires c κs = sym c.names_offset.ensures ∙ c.if-names_offset.true

returns : tie.Need-returns-then-names_offset
returns c =
    let a = c.args in
    c.offset_taken.ensures
    ∙ offset-given a.i _ a.old _ (sym c.names_offset.ensures ∙ c.if-names_offset.true) c.seconds_after-seconds.ensures

returns-2 : tie.Need-returns
returns-2 c = offset-same c.args.i _ _ (sym c.names_offset.ensures ∙ c.if-names_offset.false)

pub offset_after_spec : {M : Type 1} → statement M
offset_after_spec = tie.close (tie.spec (λ c κs. search rules) seconds-after-requires (λ c κs. search rules) returns returns-2)

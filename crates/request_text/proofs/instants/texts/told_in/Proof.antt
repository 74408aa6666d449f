-- `request_text::instants::texts::told_in` meets its contract: what is told of the instant and of TAI-UTC, put
-- together.
use mathlib.Core.Path.{ap₂, ◌∙◌}
use Rattle.request_text.specs.Told.{with_offset, told_in}
use borrow.Author.Rules.{rules}
use Rattle.request_text.proofs.instants.texts.told_in.Statement.{statement}
use Rattle.request_text.proofs.instants.texts.told_in.Tie as tie

returns : tie.Need-returns
unfolding told_in
returns c = c.with_offset.ensures ∙ ap₂ with_offset c.instant_in-told.ensures c.offset_in-offset.ensures

pub told_in_spec : {M : Type 1} → statement M
told_in_spec = tie.close (tie.spec (λ c κs. search rules) (λ c κs. search rules) (λ c κs. search rules) returns)

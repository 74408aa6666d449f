-- `request_text::is_named` meets its contract: the name is cut off, and the rest decides (`named-by`).
use Rattle.std.proofs.Common.{arith, ◌∙◌}
use Rattle.request_text.specs.laws.NameLaws.{ended-none, ended-some, named-other, named-ended}
use Rattle.request_text.proofs.is_named.Goals as goal

pub returns-in-Some-empty : goal.returns-in-Some-empty
returns-in-Some-empty c =
    let cut = c.in-Some-empty.ensures.cases in
    named-ended _ _ _ cut.0 cut.1 _ (ended-none c.in-Some-empty.field-0.now (omega (arith, c.in-Some-empty.len_below)))

pub returns-in-Some-len1-up : goal.returns-in-Some-len1-up
returns-in-Some-len1-up c =
    let cut = c.in-Some-len1-up.ensures.cases in
    named-ended _ _ _ cut.0 cut.1 _ (c.is_in.ensures ∙ ended-some c.in-Some-len1-up.field-0.now (omega (arith, c.in-Some-len1-up.len_at_least)))

pub returns-in-None : goal.returns-in-None
returns-in-None c = named-other _ _ c.in-None.ensures.cases

-- Decimals that are not there are 0.
use Rattle.std.proofs.Common.{◌∙◌, le-leb}
use Rattle.tokens.specs.laws.NumberLaws.{whole_short}
use Rattle.tokens.proofs.is_whole.Goals as goal

pub returns-then-decimals-places : goal.returns-then-decimals-places
returns-then-decimals-places c = le-leb _ _ c.if-decimals-places.true ∙ whole_short _ _ c.if-decimals-places.true

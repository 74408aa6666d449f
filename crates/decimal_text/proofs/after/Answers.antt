use Rattle.decimal_text.specs.Texts.{capped}
use Rattle.decimal_text.proofs.after.Goals as goal

pub returns : goal.returns
unfolding capped
returns c = c.saturating_add.ensures

-- `request_text::faults::line_of` meets its contract: the line is found by its number from 0 on (`line-at`).
use Rattle.std.proofs.Common.{refl}
use Rattle.std.proofs.lemmas.Iterator.Consumers.{nth_from_yields_List, YieldsList-from_first}
use Rattle.request_text.specs.TextLines.{lines_left}
use Rattle.request_text.specs.laws.WordLaws.{line-at}
use Rattle.request_text.proofs.faults.line_of.Goals as goal

pub returns : goal.returns
returns c =
    rw c.unwrap_or.ensures
    (line-at c.args.text.now c.args.line c.saturating_sub.result c.nth.result _ refl c.saturating_sub.ensures
    (nth_from_yields_List c.nth.result c.nth.new.self c.saturating_sub.result c.nth.ensures.ran (YieldsList-from_first (λ x. x.now) lines_left _ c.of.ensures)))

-- `request_text::lines::of` meets its contract: no line is read yet.
use Rattle.std.proofs.Common.{refl}
use Rattle.request_text.specs.TextLines.{lines_left}
use Rattle.request_text.proofs.lines.of.Goals as goal

pub returns : goal.returns
unfolding lines_left
returns c = refl

-- A store past the end changes nothing.
use Rattle.std.proofs.Common.{◌∙◌, sym}
use Rattle.std.proofs.Math.Seq.{set_out}
use Rattle.decimal_text.specs.Texts.{capped}
use Rattle.decimal_text.proofs.put_byte.Goals as goal
use Rattle.decimal_text.proofs.put_byte.Goals.{then-at-out, else-at-out}

pub returns : goal.returns
unfolding capped
returns c =
    elim c.if-at-out.branch [
      | then-at-out w ↦ record { place = c.saturating_add.ensures; room = w.out-is }
      | else-at-out w ↦
          record {
            place = c.saturating_add.ensures;
            room = w.out-is ∙ sym (set_out c.args.out.now c.args.at c.args.x w.if-at-out.false);
          }
    ]

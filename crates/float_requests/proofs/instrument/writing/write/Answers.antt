-- `float_requests::instrument::writing::write` meets its contract: the answer first, and the doubles only where they
-- are made.
use Rattle.std.proofs.Common.{sym, ◌∙◌, length}
use Rattle.float_requests.specs.laws.WritingLaws.{made_good, after-made}
use Rattle.float_requests.proofs.instrument.writing.write.Goals as goal

pub fill-requires : goal.fill-requires
fill-requires c =
    let g = made_good c.args.units.now (length c.args.room.now) (sym c.judged.ensures ∙ c.in_ok-judged.was) in
    (g.in-ranges, g.enough)

pub returns-clause-room : goal.returns-clause-room
returns-clause-room c = (after-made c.args.units.now c.args.room.now _ (sym c.judged.ensures ∙ c.in_ok-judged.was) c.fill.ensures).0

pub returns-clause-back : goal.returns-clause-back
returns-clause-back c = (after-made c.args.units.now c.args.room.now _ (sym c.judged.ensures ∙ c.in_ok-judged.was) c.fill.ensures).1

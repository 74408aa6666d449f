-- `network::put_written` meets its contract: the answer and no message, or a message and no answer.
use Rattle.std.proofs.Common.{sym, ap, subst, ◌∙◌, List, ℤ, pos, replicate}
use Rattle.clock_network.specs.declared.stations.Held.{Held}
use Rattle.clock_network.specs.Nodes.{Holds}
use Rattle.clock_network.specs.laws.HeldLaws.{held-holds}
use Rattle.decimal_text.specs.laws.RowLaws.{put_as}
use Rattle.program_io.specs.Inputs.{zeros}
use Rattle.network.specs.Printed.{answer_text}
use Rattle.network.specs.laws.PrintedLaws.{long-output, long-error, refused-streams, given-streams, to-error, to-output}
use Rattle.network.proofs.put_written.Goals as goal

pub returns-then-text-gt65536-clause-text : goal.returns-then-text-gt65536-clause-text
returns-then-text-gt65536-clause-text c =
    put_as _ _ _ _ _ _ (to-error _ _ (long-output _ c.if-text-gt65536.true) (long-error _ c.if-text-gt65536.true)).0 c.put_text-long.ensures

pub returns-then-text-gt65536-clause-sent : goal.returns-then-text-gt65536-clause-sent
returns-then-text-gt65536-clause-sent c = (to-error _ _ (long-output _ c.if-text-gt65536.true) (long-error _ c.if-text-gt65536.true)).1

abbrev old : List ℤ
old = replicate 25 (pos 0)

pub returns-in-Ok-clause-text : goal.returns-in-Ok-clause-text
returns-in-Ok-clause-text c =
    let g = given-streams c.args.text.now c.if-text-gt65536.false old (sym c.in-Ok.is ∙ c.network-reading.ensures.answer_value.0) in
    let held = subst (λ (h : Held). Holds h g.list) (sym (c.network-reading.ensures.answer_value.1 ∙ g.stations)) (held-holds g.list) in
    let printed = ap (λ ns. answer_text (zeros 901) (zeros 64) ns g.list) c.network-reading.ensures.out_after ∙ g.printed in
    put_as _ _ _ _ _ _ (to-output _ _ printed g.silent).0 (c.put_answer-printed.ensures g.list held)

pub returns-in-Ok-clause-sent : goal.returns-in-Ok-clause-sent
returns-in-Ok-clause-sent c =
    let g = given-streams c.args.text.now c.if-text-gt65536.false old (sym c.in-Ok.is ∙ c.network-reading.ensures.answer_value.0) in
    let printed = ap (λ ns. answer_text (zeros 901) (zeros 64) ns g.list) c.network-reading.ensures.out_after ∙ g.printed in
    (to-output _ _ printed g.silent).1

pub returns-in-Err-clause-text : goal.returns-in-Err-clause-text
returns-in-Err-clause-text c =
    let s = refused-streams _ c.if-text-gt65536.false _ _ (sym c.in-Err.is ∙ c.network-reading.ensures.answer_value.0) in
    put_as _ _ _ _ _ _ (to-error _ _ s.0 s.1).0 c.put_fault-told.ensures

pub returns-in-Err-clause-sent : goal.returns-in-Err-clause-sent
returns-in-Err-clause-sent c =
    let s = refused-streams _ c.if-text-gt65536.false _ _ (sym c.in-Err.is ∙ c.network-reading.ensures.answer_value.0) in
    (to-error _ _ s.0 s.1).1

-- `network::put_answer` meets its contract: the library's answer in words. What is asked of `put_named` follows from
-- the answer to some list that is held.
use Rattle.std.proofs.Common.{arith, ◌≤◌, refl, sym, subst, ◌∙◌}
use Rattle.sine_table.specs.Table.{Sines}
use Rattle.clock_network.specs.laws.HeldLaws.{some-list, listed}
use Rattle.decimal_text.specs.laws.RowLaws.{put_as}
use Rattle.program_io.specs.Inputs.{zeros}
use Rattle.network.specs.laws.PrintedLaws.{named-sines, named-as, named-within, refused_text}
use Rattle.network.proofs.put_answer.Goals as goal

pub put_named-requires : goal.put_named-requires
put_named-requires c =
    let h = c.args.h in
    let some = some-list h c.requires in
    let answer = c.network-answer.ensures some.0 some.1 in
    let named = sym answer.answer ∙ c.in-Ok.is in
    let few : h.count ≤ 64 = omega (arith, some.1.count, (named-within (zeros 901) (zeros 64) _ _ _ named _ some.0 refl refl).0) in (
      subst Sines (sym answer.room) (named-sines (zeros 901) (zeros 64) _ _ _ named),
      few,
      c.requires,
      (named-within (zeros 901) (zeros 64) _ _ _ named _ _ c.eclipse_from-e.ensures (listed h some.0 some.1 few)).1,
      c.network-answer.auto.steps,
    )

pub returns-in-Ok : goal.returns-in-Ok
returns-in-Ok c l k =
    let h = c.args.h in
    let answer = c.network-answer.ensures l k in
    let named = sym answer.answer ∙ c.in-Ok.is in
    let few : h.count ≤ 64 = omega (arith, k.count, (named-within (zeros 901) (zeros 64) _ _ _ named _ l refl refl).0) in
    put_as _ _ _ _ _ _
    (named-as (zeros 901) (zeros 64) _ l _ named _ _ _ c.eclipse_from-e.ensures (listed h l k few) answer.told)
    c.put_named.ensures

pub returns-in-Err : goal.returns-in-Err
returns-in-Err c l k =
    put_as _ _ _ _ _ _ (refused_text (zeros 901) (zeros 64) _ l _ (sym (c.network-answer.ensures l k).answer ∙ c.in-Err.is)) c.put_refused.ensures

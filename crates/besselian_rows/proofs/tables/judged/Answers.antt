-- `besselian_rows::tables::judged` meets its contract, case by case.
use Rattle.std.proofs.Common.{◌≡◌, sym, rules, arith, ℕ, Err, Ok}
use Rattle.std.proofs.lemmas.Grind.{common_steps}
use Rattle.sheet_types.specs.Refusals.{refusal}
use Rattle.besselian_rows.specs.Tables.{answer_to, first_refused}
use Rattle.besselian_rows.proofs.laws.TablesLaws.{answer-shape, answer-mapped, answer-room, answer-made}
use Rattle.besselian_rows.proofs.tables.judged.Goals as goal

pub returns-then-rows-ne42 : goal.returns-then-rows-ne42
returns-then-rows-ne42 c = sym (answer-shape c.args.rows.now c.args.room c.if-rows-ne42.true)

pub returns-in_err-map_err : goal.returns-in_err-map_err
returns-in_err-map_err c =
    let n = c.args.rows.now in
    let m : (i : ℕ) → first_refused n 0 7 ≡ Err i → c.map_err.result ≡ Err (refusal 11 i) = λ i. grind (arith, common_steps) in
    let w : first_refused n 0 7 ≡ Ok tt → c.map_err.result ≡ Ok tt = grind (arith, common_steps) in
    let r : Err c.in_err-map_err.field-0.0 ≡ answer_to n c.args.room = sym (answer-mapped n _ c.if-rows-ne42.false _ _ m w c.in_err-map_err.was) in
    search (rules, r)

pub returns-then-room-lt56 : goal.returns-then-room-lt56
returns-then-room-lt56 c =
    let q : first_refused c.args.rows.now 0 7 ≡ Ok tt = grind (arith, common_steps) in
    sym (answer-room c.args.rows.now c.args.room c.if-rows-ne42.false q c.if-room-lt56.true)

pub returns : goal.returns
returns c =
    let q : first_refused c.args.rows.now 0 7 ≡ Ok tt = grind (arith, common_steps) in
    sym (answer-made c.args.rows.now c.args.room c.if-rows-ne42.false q c.if-room-lt56.false)

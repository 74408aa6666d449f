-- `besselian_rows::tables::first_refused` meets its contract: each turn looks at one more row.
use Rattle.std.proofs.Common.{arith, ◌≡◌, List, ℕ, ◌+◌, ◌-◌, ◌≤◌, suc, ℤ, ap, sym, ◌∙◌, add-one}
use Rattle.besselian_rows.specs.Exact.{accepted}
use Rattle.besselian_rows.specs.Tables.{first_refused}
use Rattle.besselian_rows.proofs.laws.TablesLaws.{refused-here, passed_here, none_left}
use Rattle.besselian_rows.proofs.tables.first_refused.Goals as goal

-- one more row is left than after it
left : (n : List ℤ) (i : ℕ) → i + 1 ≤ 7 → first_refused n i (7 - i) ≡ first_refused n i (suc (7 - (i + 1)))
left n i h = ap (first_refused n i) (omega arith)

pub returns-then-not-accepted : goal.returns-then-not-accepted
returns-then-not-accepted c =
    let n = c.args.rows.now in
    let i = c.loop-i.i in
    let e = ap accepted (sym c.row_at.ensures) ∙ sym c.accepted.ensures ∙ c.if-not-accepted.true in
    sym (c.loop-i.invariant ∙ left n i (omega arith) ∙ refused-here n i (7 - (i + 1)) e)

pub loop-i-preserved : goal.loop-i-preserved
loop-i-preserved c =
    let n = c.args.rows.now in
    let i = c.loop-i.i in
    let e = ap accepted (sym c.row_at.ensures) ∙ sym c.accepted.ensures ∙ c.if-not-accepted.false in
    c.loop-i.invariant ∙ left n i (omega arith) ∙ passed_here n i (7 - (i + 1)) e
    ∙ ap (λ (j : ℕ). first_refused n j (7 - (i + 1))) (sym (add-one i))

pub returns : goal.returns
returns c =
    let n = c.args.rows.now in
    let e : 7 - c.loop-i.i ≡ 0 = omega arith in
    sym (c.loop-i.invariant ∙ ap (first_refused n c.loop-i.i) e ∙ none_left n c.loop-i.i)

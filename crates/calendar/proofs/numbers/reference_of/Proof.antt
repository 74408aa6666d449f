-- `calendar::numbers::reference_of` meets its contract, test by test.
use mathlib.Core.Path.{sym, ◌∙◌}
use Rattle.calendar.specs.laws.NumberLaws.{no-instant, no-scale, no-day, no-year, no-time, no-offset, an-instant}
use borrow.Author.Rules.{rules}
use Rattle.calendar.proofs.numbers.reference_of.Statement.{statement}
use Rattle.calendar.proofs.numbers.reference_of.Tie as tie

returns : tie.Need-returns-then-scale-eq0
returns c = no-instant _ _ _ _ _ _ c.if-scale-eq0.true

returns-2 : tie.Need-returns-then-scale-gt2
returns-2 c = no-scale _ _ _ _ _ _ c.if-scale-eq0.false c.if-scale-gt2.true

returns-3 : tie.Need-returns-then-not-is_day
returns-3 c =
    let s = c.before.before in
    no-day _ _ _ _ _ _ s.if-scale-eq0.false s.if-scale-gt2.false (sym c.is_day.ensures ∙ c.if-not-is_day.true)

returns-4 : tie.Need-returns-then-year-gt9999
returns-4 c =
    let d = c.before in
    let s = d.before.before in
    no-year _ _ _ _ _ _ s.if-scale-eq0.false s.if-scale-gt2.false (sym d.is_day.ensures ∙ d.if-not-is_day.false) c.if-year-gt9999.true

returns-5 : tie.Need-returns-then-hundredths-gt8639999
returns-5 c =
    let d = c.before.before in
    let s = d.before.before in
    no-time _ _ _ _ _ _ s.if-scale-eq0.false s.if-scale-gt2.false (sym d.is_day.ensures ∙ d.if-not-is_day.false) c.if-year-gt9999.false c.if-hundredths-gt8639999.true

returns-6 : tie.Need-returns-then-not-is_offset
returns-6 c =
    let t = c.before.before in
    let d = t.before.before in
    let s = d.before.before in
    no-offset _ _ _ _ _ _ s.if-scale-eq0.false s.if-scale-gt2.false (sym d.is_day.ensures ∙ d.if-not-is_day.false) t.if-year-gt9999.false t.if-hundredths-gt8639999.false
    (sym c.is_offset.ensures ∙ c.if-not-is_offset.true)

returns-7 : tie.Need-returns
returns-7 c =
    let o = c.before in
    let t = o.before.before in
    let d = t.before.before in
    let s = d.before.before in
    an-instant _ _ _ _ _ _ s.if-scale-eq0.false s.if-scale-gt2.false (sym d.is_day.ensures ∙ d.if-not-is_day.false) t.if-year-gt9999.false t.if-hundredths-gt8639999.false
    (sym o.is_offset.ensures ∙ o.if-not-is_offset.false) _ c.scale_of-scale.ensures

pub reference_of_spec : {M : Type 1} → statement M
reference_of_spec =
    tie.close
    (tie.spec returns returns-2 (λ c κs. search rules) returns-3 returns-4 returns-5 (λ c κs. search rules)
    returns-6 (λ c κs. search rules) returns-7)

-- `request_text::instants::texts::instant_in` meets its contract: each turn adds what one more line tells (`over-line`).
use Rattle.std.proofs.Common.{ℕ, ◌+◌, refl, ap, sym, ◌∙◌, inl, arith, rules, Result, Option}
use Rattle.request_text.specs.declared.instants.Wrong.{Wrong}
use Rattle.calendar.specs.declared.Instant.{Instant}
use Rattle.request_text.specs.Told.{told_after}
use Rattle.request_text.specs.laws.TextLineLaws.{few-lines}
use Rattle.request_text.specs.laws.ToldLaws.{over-line, over-end}
use Rattle.request_text.proofs.instants.texts.instant_in.Goals as goal

pub loop-i-init : goal.loop-i-init
loop-i-init c =
    rw (c.into_iter-i-iterator.ensures.into_iter_gives, c.enumerate-i-items.ensures.source, c.enumerate-i-items.ensures.count, c.of.ensures)
    ((tt, tt, inl (omega (arith, few-lines c.args.text.now))), tt, refl)

pub loop-i-preserved : goal.loop-i-preserved
loop-i-preserved c =
    let s = c.in-Some.ensures.steps in
    let n = rw s.1 at c.told_after-told.ensures in (
      search rules,
      search rules,
      c.loop-i.invariant.2 ∙ over-line (Result (Option Instant) (ℕ × Wrong)) told_after c.in-Some.line.now _ _ _ _ _ _ s.0 (ap (λ (k : ℕ). k + 1) s.2) n,
    )

pub returns : goal.returns
returns c = sym (c.loop-i.invariant.2 ∙ over-end (Result (Option Instant) (ℕ × Wrong)) told_after _ _ _ c.in-None.ensures.steps.0.0)

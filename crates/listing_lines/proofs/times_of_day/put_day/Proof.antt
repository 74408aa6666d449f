-- `listing_lines::times_of_day::put_day` meets its contract: each way out is the day by the tests that led there.
use mathlib.Core.Path.{◌≡◌, ap}
use native.Mathlib.Omega.{arith}
use mir.Syntax.{w64}
use mir.Val.{to_z, of_z}
use mir.ValLaws.{to_z-of_z}
use Rattle.rounding.specs.laws.Order.{lt_z_true, lt_z_false}
use Rattle.decimal_text.specs.laws.RowLaws.{put_as}
use Rattle.listing_lines.specs.Times.{day_text}
use Rattle.listing_lines.specs.laws.TimeLaws.{day-before, day-after, same-day}
use borrow.Author.Rules.{rules}
use Rattle.listing_lines.proofs.times_of_day.put_day.Statement.{statement}
use Rattle.listing_lines.proofs.times_of_day.put_day.Tie as tie

read : (c : tie.Start) → to_z w64 (of_z w64 c.args.day) ≡ c.args.day
read c = to_z-of_z w64 c.args.day c.ranges.day

returns : tie.Need-returns-then-day-lt0
returns c =
    put_as _ _ _ _ _ _ (ap day_text (read c.before.before.before.before.before.before))
    (day-before _ _ _ (lt_z_true _ _ c.if-day-lt0.true) _ _ c.put_days.ensures)

returns-2 : tie.Need-returns-then-day-gt0
returns-2 c =
    put_as _ _ _ _ _ _ (ap day_text (read c.before.before.before.before.before.before.before.before.before.before.before))
    (day-after _ _ _ (lt_z_true _ _ c.if-day-gt0.true) _ _ _ _ (omega arith) c.put_byte-next.ensures c.put_days-then-day-gt0.ensures)

returns-3 : tie.Need-returns
returns-3 c =
    put_as _ _ _ _ _ _ (ap day_text (read c.before.before.before))
    (same-day _ _ _ (lt_z_false _ _ c.if-day-lt0.false) (lt_z_false _ _ c.if-day-gt0.false) (omega arith))

pub put_day_spec : {M : Type 1} → statement M
put_day_spec =
    tie.close
    (tie.spec (λ c κs. search rules) (λ c. search rules) returns (λ c κs. search rules) (λ c κs. search rules)
    (λ c. search rules) returns-2 returns-3)

-- `listing_lines::times_of_day::put_days` meets its contract: the number, then its letter.
use native.Mathlib.Omega.{arith}
use Rattle.decimal_text.specs.Decimals.{signed}
use Rattle.decimal_text.specs.Texts.{letters}
use Rattle.decimal_text.specs.laws.RowLaws.{put_as, joined}
use mathlib.Core.List.{◌++◌}
use mathlib.Core.Path.{◌≡◌, ap}
use mir.Syntax.{w64}
use mir.Val.{to_z, of_z}
use mir.ValLaws.{to_z-of_z}
use borrow.Author.Rules.{rules}
use Rattle.listing_lines.proofs.times_of_day.put_days.Statement.{statement}
use Rattle.listing_lines.proofs.times_of_day.put_days.Tie as tie

read : (c : tie.Start) → to_z w64 (of_z w64 c.args.day) ≡ c.args.day
read c = to_z-of_z w64 c.args.day c.ranges.day

returns : tie.Need-returns
returns c =
    put_as _ _ _ _ _ _ (ap (λ z. signed z ++ letters "d") (read c.before.before.before.before.before.before.before.before.before))
    (joined (omega arith) c.put_signed-end.ensures c.put_byte.ensures)

pub put_days_spec : {M : Type 1} → statement M
put_days_spec = tie.close (tie.spec (λ c κs. search rules) (λ c κs. search rules) (λ c. search rules) returns)

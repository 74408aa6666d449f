-- `listing_lines::clock::put_timed` meets its contract: the text, then what follows it.
use mathlib.Core.Path.{◌≡◌, ap, ◌∙◌}
use mathlib.Core.List.{◌++◌}
use native.Mathlib.Omega.{arith}
use mir.Syntax.{w64}
use mir.Val.{to_z, of_z}
use mir.ValLaws.{to_z-of_z}
use Rattle.rounding.specs.laws.Code.{read_result}
use Rattle.decimal_text.specs.laws.RowLaws.{put_as, joined}
use Rattle.listing_lines.specs.Lines.{text_of}
use Rattle.listing_lines.specs.Clock.{known, behind}
use borrow.Author.Rules.{rules}
use Rattle.listing_lines.proofs.clock.put_timed.Statement.{statement}
use Rattle.listing_lines.proofs.clock.put_timed.Tie as tie

read : (c : tie.Start) → to_z w64 (of_z w64 c.args.deltat) ≡ c.args.deltat
read c = to_z-of_z w64 c.args.deltat c.ranges.deltat

returns : tie.Need-returns
returns c =
    let k = c.before.before.before.before.before.before.before.before in
    let a = k.args in
    put_as _ _ _ _ _ _
    (ap (λ d. text_of a.entry ++ behind a.i d a.entry)
    (read_result k.known-d.result k.known-d.type_inv ∙ k.known-d.ensures.value ∙ ap known (read k.before.before)))
    (joined (omega arith) c.put_entry_text-text.ensures c.put_behind.ensures)

pub put_timed_spec : {M : Type 1} → statement M
put_timed_spec =
    tie.close (tie.spec (λ c κs. search rules) (λ c κs. search rules) (λ c κs. search rules) (λ c. search rules) returns)

-- `listing_lines::clock::put_second` meets its contract: a blank, then the time of the thousandths and what is added.
use mathlib.Core.Path.{◌≡◌, ap, ◌∙◌}
use mathlib.Core.List.{[], ◌∷◌, ◌++◌}
use native.Mathlib.Omega.{arith}
use lib.IntN.{pos, ◌+ℤ◌}
use mir.Syntax.{w64}
use mir.Val.{to_z, of_z}
use mir.ValLaws.{to_z-of_z}
use Rattle.rounding.specs.Near.{floor_z}
use Rattle.rounding.specs.laws.Code.{Code, arg, add, Within, whole, ends, ◌▹◌, fits, runs, within}
use Rattle.sheet_format.specs.StoredSeconds.{second_of}
use Rattle.decimal_text.specs.Texts.{letters}
use Rattle.decimal_text.specs.laws.RowLaws.{put_as, joined}
use Rattle.listing_lines.specs.Times.{time_text}
use Rattle.listing_lines.specs.Clock.{time_in}
use borrow.Author.Rules.{rules}
use Rattle.listing_lines.proofs.clock.put_second.Statement.{statement}
use Rattle.listing_lines.proofs.clock.put_second.Tie as tie

read : (c : tie.Start) → to_z w64 (of_z w64 c.args.deltat) ≡ c.args.deltat
read c = to_z-of_z w64 c.args.deltat c.ranges.deltat

bounds : (t : tie.After-time_in-n) → Within (whole t.time_in-n.result ∷ whole t.args.more ∷ []) (4295064826174 ∷ 99 ∷ [])
bounds t = t.time_in-n.ensures.size ▹ t.requires.1 ▹ ends

abbrev both : Code
both = add (arg 0) (arg 1)

add-put-time : tie.Need-overflow_add-n
add-put-time c = fits (bounds c.before.before.before.before.before) both tt

put-time-requires : tie.Need-put_time-requires
put-time-requires c κs = within (bounds c.before.before.before.before.before) both 8600000000000 tt

returns : tie.Need-returns
returns c =
    let t = c.before.before.before.before.before.before.before.before in
    let a = t.args in
    put_as _ _ _ _ _ _
    (ap (λ z. letters " " ++ time_text (floor_z z (pos 100)))
    (runs (bounds t) both tt ∙ ap (λ n. n +ℤ a.more) (t.time_in-n.ensures.value ∙ ap (λ d. time_in a.shown a.i d (second_of a.stored)) (read t.before.before))))
    (joined (omega arith) c.put_byte-blank.ensures c.put_time.ensures)

pub put_second_spec : {M : Type 1} → statement M
put_second_spec =
    tie.close
    (tie.spec (λ c κs. search rules) (λ c κs. search rules) add-put-time put-time-requires (λ c. search rules)
    returns)

-- `year_file::mending::mend` meets its contract: measured in empty buffers, and put where both buffers hold it.
use Prim.Native.Nat.{◌<◌}
use mathlib.Core.Path.{refl}
use native.Mathlib.Omega.{arith}
use lib.ListN.{length}
use Rattle.year_file.specs.Walk.{kept, notes}
use Rattle.year_file.proofs.laws.AnswerLaws.{kept-long, notes-long, sheets-short, dropped-short, both_hold, put_whole}
use borrow.Author.Rules.{rules}
use Rattle.year_file.proofs.mending.mend.Statement.{statement}
use Rattle.year_file.proofs.mending.mend.Tie as tie

-- the input's length is one of 64 bits
fits : (c : tie.After-walk-need) → length c.args.file.now < 18446744073709551616
fits c = omega arith

returns : tie.Need-returns-then-sheets-kept
returns c =
    let w = c.before.before.before in
    let a = w.args in
    (sheets-short a.file.now (fits w) _ _ _ _ _ _ w.walk-need.ensures.0 w.walk-need.ensures.1 _ _ c.if-sheets-kept.true, (refl, refl))

returns-2 : tie.Need-returns-then-dropped-noted
returns-2 c =
    let w = c.before.before.before.before in
    let a = w.args in
    (dropped-short a.file.now (fits w) _ _ _ _ _ _ w.walk-need.ensures.0 w.walk-need.ensures.1 _ _ c.if-sheets-kept.false c.if-dropped-noted.true, (refl, refl))

returns-3 : tie.Need-returns
returns-3 c =
    let done = c.before.before.before.before in
    let t = done.before.before.before in
    let w = t.before.before.before.before in
    let a = w.args in
    let file = a.file.now in
    let k = kept-long file (fits w) _ _ _ _ _ _ w.walk-need.ensures.0 w.walk-need.ensures.1 in
    let m = notes-long file (fits w) _ _ _ _ _ _ w.walk-need.ensures.0 w.walk-need.ensures.1 in (
      both_hold file (fits w) _ _ _ _ _ _ w.walk-need.ensures.0 w.walk-need.ensures.1 _ _ t.if-sheets-kept.false t.if-dropped-noted.false,
      (
        put_whole a.sheets.now (kept file) _ _ (omega (arith, t.if-sheets-kept.false)) done.walk.ensures.0,
        put_whole a.dropped.now (notes file) _ _ (omega (arith, t.if-dropped-noted.false)) done.walk.ensures.1,
      ),
    )

pub mend_spec : {M : Type 1} → statement M
mend_spec =
    tie.close
    (tie.spec (λ c. search rules) (λ c. search rules) (λ c κs. search rules) returns returns-2
    (λ c κs. search rules) (λ c. search rules) (λ c. search rules) returns-3)

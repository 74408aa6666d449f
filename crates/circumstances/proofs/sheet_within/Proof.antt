-- `circumstances::sheet_within` meets its contract: the place is the station's, the array holds the states of the
-- window's seconds, and `sheet_from` does the rest.
use mathlib.Core.Path.{sym, ap, ◌∙◌}
use lib.Seq.{length-take-le}
use Prim.Native.Nat.{ℕ, ◌≤◌}
use native.Mathlib.Omega.{arith}
use borrow.Author.Rules.{rules}
use lib.ListN.{length, replicate, length-replicate}
use Rattle.requests.specs.declared.Occultation.{Occultation}
use Rattle.requests.specs.Windows.{second_count}
use Rattle.requests.specs.WindowLaws.{seconds-few}
use Rattle.requests.specs.RequestLaws.{InLimits}
use Rattle.circumstances.specs.laws.Claims.{buffer-length}
use Rattle.circumstances.proofs.sheet_within.Statement.{statement}
use Rattle.circumstances.proofs.sheet_within.Tie as tie

-- an array of 21,601 bytes can hold every window
room : (o : Occultation) → InLimits o → second_count o.window ≤ length (replicate {A = ℕ} 21601 0)
room o i = omega (arith, seconds-few o.window i.window, length-replicate {A = ℕ} 21601 0)

fill-requires : tie.Need-fill-known-requires
fill-requires c κs =
    let b = c.before.before.before.before.before in
    (b.requires.0, b.requires.1, c.geocentric-place.ensures, room b.args.o b.requires.1)

slice-aggregate-sheet-from : tie.Need-slice_bounds-sheet_from-end
slice-aggregate-sheet-from c =
    let f = c.before.before in
    sym (length-take-le f.fill-known.result.count f.fill-known.new.runs f.fill-known.ensures.0.count)

sheet-from-requires : tie.Need-sheet_from-requires
sheet-from-requires c κs =
    let f = c.before.before.before in
    let g = f.before.before in
    let b = g.before.before.before.before in (
      (b.requires.0, b.requires.1, g.geocentric-place.ensures, f.fill-known.ensures.0.closest),
      f.fill-known.ensures.0.states,
    )

same_length : tie.Need-shape_of-buf
same_length c =
    let b = c.before.before.before.before.before.before.before.before.before.before.before.before in
    ap length c.sheet_from.ensures.1 ∙ buffer-length b.args.o b.args.buf.now

returns : tie.Need-returns
returns c = (c.sheet_from.ensures.0, c.sheet_from.ensures.1)

pub sheet_within_spec : {M : Type 1} → statement M
sheet_within_spec =
    tie.close
    (tie.spec (λ c κs. search rules) (λ c. search rules) fill-requires
    (λ c. c.fill-known.ensures.0.count) slice-aggregate-sheet-from sheet-from-requires same_length
    returns)

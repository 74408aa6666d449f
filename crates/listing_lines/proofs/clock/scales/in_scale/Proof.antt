-- `listing_lines::clock::scales::in_scale` meets its contract: each way out is the table's place for the two scales.
use mathlib.Core.List.{List, [], ◌∷◌}
use mathlib.Core.Bool.{◌&&◌}
use lib.Dec.{T, leb}
use lib.IntN.{pos}
use Rattle.rounding.specs.Value.{Value}
use Rattle.rounding.specs.laws.Code.{Code, arg, lit, add, sub, mul, run, ok, size, Slot, Within, whole, value, ends, ◌▹◌, fits, runs, within}
use borrow.Author.Rules.{rules}
use Rattle.listing_lines.proofs.clock.scales.in_scale.Statement.{statement}
use Rattle.listing_lines.proofs.clock.scales.in_scale.Tie as tie

abbrev given : tie.Start → List Slot
given s = whole s.args.n ∷ whole s.args.deltat ∷ whole s.args.offset ∷ []

bounds : (s : tie.Start) → Within (given s) (4295064494990 ∷ 20000 ∷ 99 ∷ [])
bounds s = s.requires.2 ▹ s.requires.0 ▹ s.requires.1 ▹ ends

abbrev ten : Code
ten = mul (lit (pos 10)) (arg 1)

abbrev less : Code
less = sub (arg 0) ten

abbrev more : Code
more = add (arg 0) ten

abbrev seconds : Code
seconds = mul (lit (pos 1000)) (arg 2)

-- less 32.184 s, then less the seconds of TAI less UTC
abbrev atomic : Code → Code
atomic e = sub e (lit (pos 32184))

abbrev utc : Code → Code
utc e = sub (atomic e) seconds

in_table : (s : tie.Start) (e : Code) → T (ok (4295064494990 ∷ 20000 ∷ 99 ∷ []) e && leb (size (4295064494990 ∷ 20000 ∷ 99 ∷ []) e) 4295064826174)
    → T (ok (4295064494990 ∷ 20000 ∷ 99 ∷ []) e) → Value (value (given s) e) 4295064826174 (run (given s) e)
in_table s e t u = record { value = runs (bounds s) e u; size = within (bounds s) e 4295064826174 t }

returns : tie.Need-returns-in-ET
returns c = rw (c.in-Ephemeris.is, c.in-ET.is) (in_table c.before.before (arg 0) tt tt)

returns-2 : tie.Need-returns-in-UT
returns-2 c = rw (c.in-Ephemeris.is, c.in-UT.is) (in_table c.before.before less tt tt)

returns-3 : tie.Need-returns-in-UTC
returns-3 c = rw (c.in-Ephemeris.is, c.in-UTC.is) (in_table c.before.before (utc (arg 0)) tt tt)

returns-4 : tie.Need-returns-in-ET-shown
returns-4 c = rw (c.in-Universal.is, c.in-ET-shown.is) (in_table c.before.before more tt tt)

returns-5 : tie.Need-returns-in-UT-shown
returns-5 c = rw (c.in-Universal.is, c.in-UT-shown.is) (in_table c.before.before (arg 0) tt tt)

returns-6 : tie.Need-returns-in-UTC-shown
returns-6 c = rw (c.in-Universal.is, c.in-UTC-shown.is) (in_table c.before.before (utc more) tt tt)

pub in_scale_spec : {M : Type 1} → statement M
in_scale_spec =
    tie.close
    (tie.spec (λ c. search rules) (λ c. search rules) (λ c. search rules)
    (λ c. fits (bounds c.before.before) ten tt)
    (λ c. fits (bounds c.before.before) less tt) (λ c. search rules)
    (λ c. fits (bounds c.before.before) (atomic (arg 0)) tt)
    (λ c. fits (bounds c.before.before) seconds tt)
    (λ c. fits (bounds c.before.before) (utc (arg 0)) tt) (λ c. search rules)
    (λ c. search rules) (λ c. fits (bounds c.before.before) ten tt)
    (λ c. fits (bounds c.before.before) more tt) (λ c. search rules) (λ c. search rules)
    (λ c. fits (bounds c.before.before) ten tt)
    (λ c. fits (bounds c.before.before) more tt)
    (λ c. fits (bounds c.before.before) (atomic more) tt)
    (λ c. fits (bounds c.before.before) seconds tt)
    (λ c. fits (bounds c.before.before) (utc more) tt) returns returns-2 returns-3
    returns-4 returns-5 returns-6)

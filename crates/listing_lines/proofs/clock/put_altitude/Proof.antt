-- `listing_lines::clock::put_altitude` meets its contract: each arm has the text of its altitude.
use native.Mathlib.Omega.{arith}
use Rattle.decimal_text.specs.laws.RowLaws.{joined}
use Rattle.listing_lines.specs.laws.ClockLaws.{altitude-none, altitude-up, altitude-down}
use borrow.Author.Rules.{rules}
use Rattle.listing_lines.proofs.clock.put_altitude.Statement.{statement}
use Rattle.listing_lines.proofs.clock.put_altitude.Tie as tie

returns : tie.Need-returns-in-Nothing
returns c = altitude-none _ _ _ c.in-Nothing.is (omega arith)

returns-2 : tie.Need-returns-in-Above
returns-2 c =
    let t = c.before.before.before.before.before.before in
    altitude-up _ _ _ _ t.in-Above.is _ _ (joined (omega arith) t.put_text-next.ensures c.put_tenths.ensures)

returns-3 : tie.Need-returns-in-Below
returns-3 c =
    let t = c.before.before.before.before.before.before.before in
    let n = t.before.before.before.before in
    altitude-down _ _ _ _ n.in-Below.is _ _
    (joined (omega arith) (joined (omega arith) n.put_text-next-in-Below.ensures t.put_tenths-end.ensures) c.put_text.ensures)

pub put_altitude_spec : {M : Type 1} → statement M
put_altitude_spec =
    tie.close
    (tie.spec (λ c. search rules) (λ c. search rules) (λ c κs. search rules) (λ c κs. search rules) (λ c. search rules) (λ c κs. search rules) (λ c κs. search rules) (λ c κs. search rules) returns (λ c. search rules) returns-2 (λ c. search rules) returns-3)

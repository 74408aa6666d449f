-- `listing_lines::lines::put_phase` meets its contract: each arm names the phase that it is.
use borrow.Author.Rules.{rules}
use Rattle.listing_lines.proofs.lines.put_phase.Statement.{statement}
use Rattle.listing_lines.proofs.lines.put_phase.Tie as tie

returns : tie.Need-returns-in-Penumbra
returns c = rw c.in-Penumbra.is c.put_text.ensures

returns-2 : tie.Need-returns-in-Central
returns-2 c = rw c.in-Central.is c.put_text-in-Central.ensures

returns-3 : tie.Need-returns-in-Star
returns-3 c = rw c.in-Star.is c.put_text-in-Star.ensures

pub put_phase_spec : {M : Type 1} → statement M
put_phase_spec =
    tie.close
    (tie.spec (λ c. search rules) (λ c κs. search rules) (λ c. search rules) (λ c κs. search rules) (λ c. search rules) (λ c κs. search rules) (λ c. search rules) returns (λ c. search rules) returns-2 (λ c. search rules) returns-3)

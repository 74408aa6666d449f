-- `request_text::beside::names_clock` meets its contract: the same two tests.
use borrow.Author.Rules.{rules}
use Rattle.request_text.proofs.beside.names_clock.Statement.{statement}
use Rattle.request_text.proofs.beside.names_clock.Tie as tie

returns : tie.Need-returns
returns c = rw (c.names_offset.ensures, c.names_instant-instant.ensures)

pub names_clock_spec : {M : Type 1} → statement M
names_clock_spec = tie.close (tie.spec (λ c κs. search rules) (λ c κs. search rules) returns)

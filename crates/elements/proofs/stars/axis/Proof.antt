-- `elements::stars::axis` meets its contract: all is copied, and the declination read back from its bits.
use borrow.Author.Rules.{rules}
use Rattle.rounding.specs.laws.Code.{read_result}
use Rattle.elements.proofs.stars.axis.Statement.{statement}
use Rattle.elements.proofs.stars.axis.Tie as tie

returns : tie.Need-returns
returns c =
    let s = c.args.s in
    rw (c.constant-d.ensures, read_result s.d c.struct_told-1.given.1.1.0.1)

pub axis_spec : {M : Type 1} → statement M
axis_spec = tie.close (tie.spec (λ c κs. search rules) returns)

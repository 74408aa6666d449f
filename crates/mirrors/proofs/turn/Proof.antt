-- `mirrors::turn` meets its contract: the number is read, and its opposite is put in its place.
use borrow.Author.Rules.{rules}
use lib.Dec.{lit≤}
use lib.IntN.{pos}
use lib.ListN.{get_or}
use lib.Signed.{le_z_yes}
use Rattle.mirrors.proofs.Back.{opposite_back}
use Rattle.mirrors.proofs.turn.Statement.{statement}
use Rattle.mirrors.proofs.turn.Tie as tie

returns : tie.Need-returns
returns c =
    let s = c.before.before in
    let x = c.n-1.given in
    rw (opposite_back 2147483647 (lit≤ tt) (get_or s.args.numbers.now s.args.k (pos 0)) c.opposite.result x c.opposite.ensures)

pub turn_spec : {M : Type 1} → statement M
turn_spec =
    tie.close
    (tie.spec (λ c. search rules) (λ c. search rules) (λ c κs. le_z_yes tt) (λ c. search rules)
    (λ c. search rules) returns)

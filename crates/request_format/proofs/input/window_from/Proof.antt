-- `request_format::input::window_from` meets its contract: each number is read from its place.
use Prim.Native.Nat.{◌+◌}
use lib.IntN.{pos}
use lib.ListN.{get_or}
use borrow.Author.Rules.{rules}
use Rattle.rounding.specs.laws.Code.{read_result}
use Rattle.request_format.specs.Input.{window_from}
use Rattle.request_format.proofs.input.window_from.Statement.{statement}
use Rattle.request_format.proofs.input.window_from.Tie as tie

returns : tie.Need-returns
unfolding window_from
returns c =
    let f = c.before in
    let n = f.args.n.now in
    let k = f.args.at in
    rw (read_result (get_or n k (pos 0)) f.first-1.given, read_result (get_or n (k + 1) (pos 0)) c.last-1.given)

pub window_from_spec : {M : Type 1} → statement M
window_from_spec =
    tie.close
    (tie.spec (λ c. search rules) (λ c. search rules) (λ c. search rules) (λ c. search rules)
    (λ c. search rules) returns)

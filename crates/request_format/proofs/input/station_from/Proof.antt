-- `request_format::input::station_from` meets its contract: each number is read from its place.
use Prim.Native.Nat.{◌+◌}
use lib.IntN.{pos}
use lib.ListN.{get_or}
use borrow.Author.Rules.{rules}
use Rattle.rounding.specs.laws.Code.{read_result}
use Rattle.request_format.specs.Input.{station_from}
use Rattle.request_format.proofs.input.station_from.Statement.{statement}
use Rattle.request_format.proofs.input.station_from.Tie as tie

returns : tie.Need-returns
unfolding station_from
returns c =
    let h = c.before in
    let o = h.before in
    let a = o.before in
    let u = a.before in
    let n = u.args.n.now in
    let k = u.args.at in
    rw (
      read_result (get_or n k (pos 0)) u.number-1.given,
      read_result (get_or n (k + 1) (pos 0)) a.latitude-1.given,
      read_result (get_or n (k + 2) (pos 0)) o.longitude-1.given,
      read_result (get_or n (k + 3) (pos 0)) h.height-1.given,
      read_result (get_or n (k + 4) (pos 0)) c.deltat-1.given,
    )

pub station_from_spec : {M : Type 1} → statement M
station_from_spec =
    tie.close
    (tie.spec (λ c. search rules) (λ c. search rules) (λ c. search rules) (λ c. search rules)
    (λ c. search rules) (λ c. search rules) (λ c. search rules) (λ c. search rules) (λ c. search rules)
    (λ c. search rules) (λ c. search rules) (λ c. search rules) (λ c. search rules) (λ c. search rules)
    returns)

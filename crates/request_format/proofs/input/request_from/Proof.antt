-- `request_format::input::request_from` meets its contract: each part is read from its places.
use lib.IntN.{pos}
use lib.ListN.{get_or}
use borrow.Author.Rules.{rules}
use Rattle.rounding.specs.laws.Code.{read_result}
use Rattle.request_format.specs.Input.{request_from}
use Rattle.request_format.proofs.input.request_from.Statement.{statement}
use Rattle.request_format.proofs.input.request_from.Tie as tie

returns : tie.Need-returns
unfolding request_from
returns c =
    let w = c.before in
    let s = w.before in
    let e = s.before in
    let n = e.args.n.now in
    rw (e.from_numbers-elements.ensures, s.station_from-station.ensures, w.window_from-window.ensures, read_result (get_or n 29 (pos 0)) c.guard-1.given)

pub request_from_spec : {M : Type 1} → statement M
request_from_spec =
    tie.close
    (tie.spec (λ c κs. search rules) (λ c κs. search rules) (λ c κs. search rules) (λ c. search rules)
    returns)

-- `requests::windows::window_holds` meets its contract: the three tests, on numbers read back from their bits.
use Rattle.rounding.specs.laws.Code.{read_result}
use Rattle.requests.specs.Windows.{window_holds}
use Rattle.requests.proofs.windows.window_holds.Statement.{statement}
use Rattle.requests.proofs.windows.window_holds.Tie as tie

returns : tie.Need-returns
unfolding window_holds
returns c =
    let w = c.args.w in
    let g = c.struct_told-3-1.given in
    rw (read_result w.first g.0.1, read_result w.last g.1.0.1)

pub window_holds_spec : {M : Type 1} → statement M
window_holds_spec = tie.close (tie.spec returns)

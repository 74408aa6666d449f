-- `ukhtvaresh::replies::horizon_reply` meets its contract, case by case.
use borrow.Author.Rules.{rules}
use Rattle.ukhtvaresh.proofs.replies.horizon_reply.Statement.{statement}
use Rattle.ukhtvaresh.proofs.replies.horizon_reply.Tie as tie

returns : tie.Need-returns-in-Ok
returns c = rw c.in-Ok.is

returns-2 : tie.Need-returns-in-Err
returns-2 c = rw c.in-Err.is c.refused.ensures

pub horizon_reply_spec : {M : Type 1} → statement M
horizon_reply_spec = tie.close (tie.spec (λ c. search rules) (λ c. search rules) (λ c κs. search rules) returns returns-2)

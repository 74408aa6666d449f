-- `requests::shares` meets its contract: of either body.
use mathlib.Core.Path.{sym, ap}
use borrow.Author.Rules.{rules}
use Rattle.elements.specs.declared.Body.{Body}
use Rattle.requests.specs.Shares.{sharing_of, sharing}
use Rattle.requests.proofs.shares.Statement.{statement}
use Rattle.requests.proofs.shares.Tie as tie

returns : tie.Need-returns-in-Sun
unfolding sharing
returns c = sym (ap (λ (b : Body). sharing_of b c.args.o.share) c.in-Sun.is)

returns-2 : tie.Need-returns-in-Star
unfolding sharing
returns-2 c = sym (ap (λ (b : Body). sharing_of b c.args.o.share) c.in-Star.is)

pub shares_spec : {M : Type 1} → statement M
shares_spec = tie.close (tie.spec (λ c. search rules) (λ c. search rules) returns returns-2)

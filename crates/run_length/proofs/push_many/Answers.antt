use Rattle.std.proofs.Common.{◌≡◌, ℕ, ◌+◌, ◌-◌, List, subst, arith}
use Rattle.run_length.specs.declared.Filled.{Filled}
use Rattle.run_length.specs.Runs.{Pushed}
use Rattle.run_length.specs.laws.RunsLaws.{pushed-again}
use Rattle.run_length.proofs.push_many.Goals as goal

-- m of n seconds more, after those that were pushed before
more : {old mid new : List ℕ} {f g r : Filled} {pair : ℕ} (n left m all : ℕ) → n - left + m ≡ all
    → Pushed old f pair (n - left) mid g → Pushed mid g pair m new r → Pushed old f pair all new r
more {old} {new = new} {f = f} {r = r} {pair = pair} n left m all s p q =
    subst (λ (k : ℕ). Pushed old f pair k new r) s (pushed-again (n - left) m p q)

pub loop-left-preserved : goal.loop-left-preserved
loop-left-preserved c =
    let v = c.loop-left.invariant in
    (omega arith, omega arith, more _ c.loop-left.left 3839 _ (omega arith) v.2 c.push-r.ensures)

pub returns : goal.returns
returns c =
    let v = c.loop-left.invariant in
    more _ c.loop-left.left c.loop-left.left _ (omega arith) v.2 c.push.ensures

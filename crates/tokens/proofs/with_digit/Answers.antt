use Rattle.std.proofs.Common.{◌≡◌, ℕ, ◌+◌, ◌*◌, min, ◌∙◌, ap, arith}
use Rattle.std.proofs.lemmas.Bool.Decides.{nat_tests}
use Rattle.tokens.specs.Numbers.{capped}
use Rattle.tokens.proofs.with_digit.Goals as goal

lesser : (n : ℕ) → min n 4294967296 ≡ capped n
unfolding capped
lesser n = grind (arith, nat_tests)

pub returns : goal.returns
returns c = (c.min.ensures ∙ ap (λ (d : ℕ). min (10 * c.args.n + d) 4294967296) c.digit_of.ensures ∙ lesser _, omega arith)

-- The seconds are 3,600 parts of an hour.
use Rattle.std.proofs.Common.{◌∙◌, ap, ℤ}
use Rattle.rounding.specs.laws.Code.{read_back, read-size}
use Rattle.elements.specs.Polynomial.{quadratic_by}
use Rattle.elements.specs.laws.PolynomialLaws.{quadratic-second}
use Rattle.elements.proofs.quadratic_at.Goals as goal

pub returns : goal.returns
returns c =
    let r = c.quadratic_by in
    record {
      value =
          read_back r.result r.ensures.size tt ∙ r.ensures.value
          ∙ ap (λ (z : ℤ). quadratic_by 3600 c.args.q z) (read_back c.args.t c.requires.1 tt) ∙ quadratic-second c.args.t c.args.q;
      size = read-size r.result 500000000 r.ensures.size tt;
    }

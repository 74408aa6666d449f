-- The seconds are 3,600 parts of an hour.
use Rattle.std.proofs.Common.{◌∙◌, ap, ℤ}
use Rattle.rounding.specs.laws.Code.{read_back, read-size}
use Rattle.elements.specs.Polynomial.{cubic_by}
use Rattle.elements.specs.laws.PolynomialLaws.{cubic-second}
use Rattle.elements.proofs.cubic_at.Goals as goal

pub returns : goal.returns
returns c =
    let r = c.cubic_by in
    record {
      value =
          read_back r.result r.ensures.size tt ∙ r.ensures.value
          ∙ ap (λ (z : ℤ). cubic_by 3600 c.args.c z) (read_back c.args.t c.requires.1 tt) ∙ cubic-second c.args.t c.args.c;
      size = read-size r.result 501170000 r.ensures.size tt;
    }

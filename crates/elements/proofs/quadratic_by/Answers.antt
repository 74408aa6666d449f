-- The value is two steps.
use Rattle.std.proofs.Common.{◌≡◌, ap, ◌∙◌, ◌≤◌, ◌*◌, ◌+◌, ℤ, nat_abs, arith, to_z, of_z, w64}
use Rattle.rounding.specs.laws.Code.{read_back}
use Rattle.rounding.specs.Value.{Value}
use Rattle.elements.specs.Polynomial.{stepBy, quadratic_by}
use Rattle.elements.proofs.quadratic_by.Given.{Over}
use Rattle.elements.proofs.quadratic_by.Goals as goal

module _ (g : Over) (c : goal.After-step g) where
  t-back : to_z w64 (of_z w64 c.args.t) ≡ c.args.t
  t-back = read_back c.args.t {m = 1080000} (omega (arith, c.requires.1, c.requires.3)) tt

  first : let q = c.args.q in Value (stepBy g.row.N c.args.t q.c2 q.c1) (3 * nat_abs q.c2 + nat_abs q.c1) c.step-a.result
  first = let p = c.requires.2 in rw (t-back, read_back c.args.q.c2 p.c2 tt, read_back c.args.q.c1 p.c1 tt) at c.step-a.ensures

  first-size : nat_abs c.step-a.result ≤ 20030000
  first-size = omega (arith, first.size, c.requires.2.c1, c.requires.2.c2)

  second : let q = c.args.q in Value (stepBy g.row.N c.args.t c.step-a.result q.c0) (3 * nat_abs c.step-a.result + nat_abs q.c0) c.step.result
  second = rw (t-back, read_back c.step-a.result first-size tt, read_back c.args.q.c0 c.requires.2.c0 tt) at c.step.ensures

  second-size : nat_abs c.step.result ≤ 500000000
  second-size = omega (arith, second.size, first-size, c.requires.2.c0)

pub returns : goal.returns
unfolding quadratic_by
returns g c =
    let b = read_back c.step.result (second-size g c) tt in
    record {
      value = b ∙ (second g c).value ∙ ap (λ (z : ℤ). stepBy g.row.N c.args.t z c.args.q.c0) (first g c).value;
      size = omega (arith, ap nat_abs b, second-size g c);
    }

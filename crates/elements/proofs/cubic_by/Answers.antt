-- The value is three steps.
use Rattle.std.proofs.Common.{◌≡◌, ap, ◌∙◌, ◌≤◌, ◌*◌, ◌+◌, ℤ, nat_abs, arith, to_z, of_z, w64}
use Rattle.rounding.specs.laws.Code.{read_back}
use Rattle.rounding.specs.Value.{Value}
use Rattle.elements.specs.Polynomial.{stepBy, cubic_by}
use Rattle.elements.proofs.cubic_by.Given.{Over}
use Rattle.elements.proofs.cubic_by.Goals as goal

module _ (g : Over) (c : goal.After-step g) where
  t-back : to_z w64 (of_z w64 c.args.t) ≡ c.args.t
  t-back = read_back c.args.t {m = 1080000} (omega (arith, c.requires.1, c.requires.3)) tt

  first : let f = c.args.c in Value (stepBy g.row.N c.args.t f.c3 f.c2) (3 * nat_abs f.c3 + nat_abs f.c2) c.step-a.result
  first = let p = c.requires.2 in rw (t-back, read_back c.args.c.c3 p.c3 tt, read_back c.args.c.c2 p.c2 tt) at c.step-a.ensures

  first-size : nat_abs c.step-a.result ≤ 130000
  first-size = omega (arith, first.size, c.requires.2.c2, c.requires.2.c3)

  second : let f = c.args.c in Value (stepBy g.row.N c.args.t c.step-a.result f.c1) (3 * nat_abs c.step-a.result + nat_abs f.c1) c.step-b.result
  second = rw (t-back, read_back c.step-a.result first-size tt, read_back c.args.c.c1 c.requires.2.c1 tt) at c.step-b.ensures

  second-size : nat_abs c.step-b.result ≤ 100390000
  second-size = omega (arith, second.size, first-size, c.requires.2.c1)

  third : let f = c.args.c in Value (stepBy g.row.N c.args.t c.step-b.result f.c0) (3 * nat_abs c.step-b.result + nat_abs f.c0) c.step.result
  third = rw (t-back, read_back c.step-b.result second-size tt, read_back c.args.c.c0 c.requires.2.c0 tt) at c.step.ensures

  third-size : nat_abs c.step.result ≤ 501170000
  third-size = omega (arith, third.size, second-size, c.requires.2.c0)

pub returns : goal.returns
unfolding cubic_by
returns g c =
    let a = c.args in
    let b = read_back c.step.result (third-size g c) tt in
    record {
      value =
          b ∙ (third g c).value
          ∙ ap (λ (z : ℤ). stepBy g.row.N a.t z a.c.c0) ((second g c).value ∙ ap (λ (z : ℤ). stepBy g.row.N a.t z a.c.c1) (first g c).value);
      size = omega (arith, ap nat_abs b, third-size g c);
    }

-- `near` gives near, and a step is at most three times p and a.
use Rattle.std.proofs.Common.{◌≡◌, ap, ap₂, ◌∙◌, to_z, of_z, w64, ◌≤◌, ℤ, pos, nat_abs, ◌+ℤ◌, ◌*ℤ◌, arith, le_refl}
use mathlib.Core.List.{[], ◌∷◌}
use Rattle.rounding.specs.Near.{near}
use Rattle.rounding.specs.laws.Code.{Code, arg, add, mul, Within, whole, ends, ◌▹◌, fits, runs, read_back}
use Rattle.elements.specs.Polynomial.{stepBy}
use Rattle.elements.specs.laws.PartSizes.{part-size, step-size}
use Rattle.elements.proofs.step.Given.{Over}
use Rattle.elements.proofs.step.Goals as goal

abbrev product : Code
product = mul (arg 0) (arg 1)

abbrev sum : Code
sum = add (arg 0) (arg 1)

module _ (g : Over) (c : goal.After-near g) where
  bounds : Within (whole c.args.p ∷ whole c.args.t ∷ []) (200000000 ∷ 1080000 ∷ [])
  bounds = c.requires.2 ▹ (omega (arith, c.requires.1, c.requires.4)) ▹ ends

  -- what `near` gave
  given : c.near.result ≡ near (c.args.p *ℤ c.args.t) (pos g.row.N)
  given =
      c.near.ensures
      ∙ ap₂ near (runs bounds product tt) (ap (λ (z : ℤ). to_z w64 (of_z w64 z)) c.from.ensures ∙ read_back (pos g.row.N) c.requires.1 tt)

  after : Within (whole c.near.result ∷ whole c.args.a ∷ []) (600000000 ∷ 400000000 ∷ [])
  after =
      let h : nat_abs c.near.result ≤ 600000000 = omega
      (arith, ap nat_abs given, part-size g.row.N c.requires.0 c.args.t c.args.p 200000000 c.requires.4 c.requires.2) in
      h ▹ c.requires.3 ▹ ends

pub overflow_add-result : goal.overflow_add-result
overflow_add-result g c = fits (after g c) sum tt

pub returns : goal.returns
unfolding stepBy
returns g c =
    let a = c.args in
    let e : to_z w64 (of_z w64 (to_z w64 (of_z w64 c.near.result) +ℤ to_z w64 (of_z w64 a.a))) ≡ near (a.p *ℤ a.t) (pos g.row.N) +ℤ a.a =
    runs (after g c) sum tt ∙ ap (λ (z : ℤ). z +ℤ a.a) (given g c) in
    record {
      value = e;
      size = omega (
        arith,
        ap nat_abs e,
        step-size g.row.N c.requires.0 a.t a.p a.a (nat_abs a.p) (nat_abs a.a) c.requires.4 (le_refl (nat_abs a.p)) (le_refl (nat_abs a.a)),
      );
    }

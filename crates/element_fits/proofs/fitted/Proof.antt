-- `element_fits::fitted` meets its contract: the polynomial of each column.
use mathlib.Core.Path.{sym, ap₂, subst, ◌∙◌}
use lib.Dec.{lit≤}
use Rattle.rounding.specs.laws.Code.{read_back, read-size}
use Rattle.elements.specs.Sizes.{QuadraticSizes}
use Rattle.element_fits.specs.Sizes.{wider, quadratic-sizes}
use Rattle.element_fits.specs.FromTables.{hour_angle, fitted}
use Rattle.element_fits.proofs.fitted.Statement.{statement}
use Rattle.element_fits.proofs.fitted.Tie as tie

hour-angle-requires : tie.Need-hour_angle-mu-requires
hour-angle-requires c κs =
    let s = c.before.before.before.before.before.before in (
      subst (QuadraticSizes 900_000_000 180_000_000 180_000_000) (sym c.quadratic-q.ensures) (quadratic-sizes s.args.c.mu s.requires.0.mu),
      read-size s.args.middle 765_000_000 s.requires.1 tt,
    )

returns : tie.Need-returns
unfolding fitted
returns c =
    let e6 = c.before in
    let e5 = e6.before in
    let e4 = e5.before in
    let e3 = e4.before in
    let e2 = e3.before in
    let e1 = e2.before in
    let s = e1.before in
    let mu = c.hour_angle-mu.ensures ∙ ap₂ hour_angle e6.quadratic-q.ensures (read_back s.args.middle s.requires.1 tt) in
    rw (
      e1.cubic-x.ensures,
      e2.cubic-y.ensures,
      e3.quadratic-d.ensures,
      e4.quadratic-l1.ensures,
      e5.quadratic-l2.ensures,
      mu,
      read_back s.args.tanf1 s.requires.2 tt,
      read_back s.args.tanf2 s.requires.3 tt,
    )

pub fitted_spec : {M : Type 1} → statement M
fitted_spec =
    tie.close
    (tie.spec (λ c κs. c.requires.0.x) (λ c κs. c.requires.0.y) (λ c κs. c.requires.0.d)
    (λ c κs. c.requires.0.l1) (λ c κs. c.requires.0.l2)
    (λ c κs. wider c.requires.0.mu (lit≤ tt)) hour-angle-requires
    returns)

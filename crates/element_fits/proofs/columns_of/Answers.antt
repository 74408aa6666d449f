-- `element_fits::columns_of` meets its contract: each closure takes its value from each of the seven hours.
use Rattle.std.proofs.Common.{rules, ap₂, sym, subst, ◌∙◌, ℤ}
use Rattle.rounding.specs.laws.Code.{read_back, read-size}
use Rattle.element_fits.specs.declared.least_squares.Hourly.{Hourly}
use Rattle.element_fits.specs.declared.Hour.{Hour}
use Rattle.element_fits.specs.Sizes.{HourlySizes}
use Rattle.element_fits.specs.FromTables.{hour_angles, columnsOf}
use Rattle.element_fits.specs.laws.Each.{each_is}
use Rattle.element_fits.specs.laws.Laws.{each_sizes}
use Rattle.element_fits.proofs.columns_of.Goals as goal

pub hour_angles-mu-requires : goal.hour_angles-mu-requires
hour_angles-mu-requires c =
    let e = each_is (λ (k : Hour). k.ascension) c.args.h c.each-ascensions.result (search rules) in (
      c.requires.1,
      subst (HourlySizes 360_000_000) (sym e) (each_sizes (λ (k : Hour). k.ascension) c.args.h (λ k z. z.ascension) c.requires.0),
      read-size c.args.middle 765_000_000 c.requires.2 tt,
    )

pub returns : goal.returns
unfolding columnsOf
returns c =
    let h = c.args.h in
    let a = each_is (λ (k : Hour). k.ascension) h c.each-ascensions.result (search rules) in
    let mu = c.hour_angles-mu.ensures
    ∙ ap₂ (λ (a : Hourly) (m : ℤ). hour_angles c.args.g a m) a (read_back c.args.middle c.requires.2 tt) in
    rw (
      each_is (λ (k : Hour). k.x) h c.each-x.result (search rules),
      each_is (λ (k : Hour). k.y) h c.each-y.result (search rules),
      each_is (λ (k : Hour). k.d) h c.each-d.result (search rules),
      each_is (λ (k : Hour). k.l1) h c.each-l1.result (search rules),
      each_is (λ (k : Hour). k.l2) h c.each-l2.result (search rules),
      mu,
    )

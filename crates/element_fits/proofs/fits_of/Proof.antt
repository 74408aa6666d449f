-- `element_fits::fits_of` meets its contract: the fits, judged.
use mathlib.Core.Path.{sym, ap, subst, ◌∙◌}
use borrow.Author.Rules.{rules}
use Rattle.element_fits.specs.declared.Fitting.{Fitting}
use Rattle.element_fits.specs.Answers.{judged}
use Rattle.element_fits.specs.laws.Sizes.{ColumnsSizes}
use Rattle.element_fits.specs.laws.Laws.{fitting_sizes}
use Rattle.element_fits.proofs.fits_of.Statement.{statement}
use Rattle.element_fits.proofs.fits_of.Tie as tie

judged-requires : tie.Need-judged-requires
judged-requires c κs =
    let s = c.before.before in
    subst (λ (f : Fitting). ColumnsSizes f.columns) (sym c.fitting_of-f.ensures) (fitting_sizes s.args.k s.requires.3 s.args.t s.requires.1 s.args.g)

returns : tie.Need-returns
returns c = c.judged.ensures ∙ ap (λ (f : Fitting). judged f c.args.tolerance) c.fitting_of-f.ensures

pub fits_of_spec : {M : Type 1} → statement M
fits_of_spec = tie.close (tie.spec (λ c κs. search rules) judged-requires returns)

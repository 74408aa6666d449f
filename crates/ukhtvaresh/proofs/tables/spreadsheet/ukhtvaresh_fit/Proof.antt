-- `ukhtvaresh::tables::spreadsheet::ukhtvaresh_fit` meets its contract: the answer of the crate below, as numbers.
use mathlib.Core.Path.{ap, ◌∙◌}
use borrow.Author.Rules.{rules}
use mir.Syntax.{w64}
use mir.ValLaws.{to_z-of_z}
use Rattle.fits.specs.Fits.{fit_of}
use Rattle.ukhtvaresh.specs.declared.replies.Reply.{Reply}
use Rattle.ukhtvaresh.specs.Fits.{fit_reply}
use Rattle.ukhtvaresh.proofs.tables.spreadsheet.ukhtvaresh_fit.Statement.{statement}
use Rattle.ukhtvaresh.proofs.tables.spreadsheet.ukhtvaresh_fit.Tie as tie

returns : tie.Need-returns
returns c =
    let start = c.before.before in
    let a = start.args in
    let given = c.fit-answer.ensures ∙ ap (fit_of a.coefficients.now a.tabulated.now) (to_z-of_z w64 a.tolerance start.ranges.tolerance) in
    let e = c.fit_reply-reply.ensures ∙ ap fit_reply given in
    (ap (λ (x : Reply). x.number) e, ap (λ (x : Reply). x.value) e)

pub ukhtvaresh_fit_spec : {M : Type 1} → statement M
ukhtvaresh_fit_spec = tie.close (tie.spec (λ c κs. search rules) (λ c κs. search rules) returns)

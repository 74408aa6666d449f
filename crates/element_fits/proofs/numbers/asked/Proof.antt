-- `element_fits::numbers::asked` meets its contract: what the numbers hold, fitted and judged.
use mathlib.Core.Path.{◌≡◌, sym, ap, subst, ◌∙◌}
use Prim.Native.Nat.{ℕ}
use borrow.Author.Rules.{rules}
use lib.IntN.{nat_abs}
use Rattle.rounding.specs.laws.Code.{read_back, read-size}
use Rattle.besselian_rows.specs.declared.besselian.Radii.{Radii}
use Rattle.besselian_rows.specs.Exact.{RadiiInRange}
use Rattle.element_fits.specs.declared.least_squares.Hourly.{Hourly}
use Rattle.element_fits.specs.Sizes.{HourlySizes}
use Rattle.element_fits.specs.declared.Rows.{Rows}
use Rattle.element_fits.specs.FromTables.{fitting_of}
use Rattle.element_fits.specs.Answers.{judged}
use Rattle.element_fits.specs.Numbers.{fits_asked}
use Rattle.element_fits.specs.laws.Sizes.{AllAccepted}
use Rattle.element_fits.proofs.numbers.asked.Statement.{statement}
use Rattle.element_fits.proofs.numbers.asked.Tie as tie

natural-requires : tie.Need-natural-limit-requires
natural-requires c κs = let s = c.before.before.before.before in read-size s.args.tolerance 9223372036854775807 s.requires.1.small tt

fits-of-requires : tie.Need-fits_of-requires
fits-of-requires c κs =
    let s = c.before.before.before.before.before in
    let t = s.requires.1 in (
      s.requires.0,
      subst AllAccepted (sym c.rows_at-t.ensures) t.accepted,
      subst (HourlySizes 360_000_000) (sym c.hourly_at-g.ensures) t.angles,
      subst RadiiInRange (sym c.radii_at-k.ensures) t.ranged,
    )

together : {t u : Rows} {g h : Hourly} {k l : Radii} {m n : ℕ} → t ≡ u → g ≡ h → k ≡ l → m ≡ n → judged (fitting_of k t g) m ≡ judged (fitting_of l u h) n
together e f i j = rw (e, f, i, j)

returns : tie.Need-returns
unfolding fits_asked
returns c =
    let s = c.before.before.before.before.before.before in
    c.fits_of.ensures
    ∙ together c.rows_at-t.ensures c.hourly_at-g.ensures c.radii_at-k.ensures
    (c.natural-limit.ensures ∙ ap nat_abs (read_back s.args.tolerance s.requires.1.small tt))

pub asked_spec : {M : Type 1} → statement M
asked_spec =
    tie.close
    (tie.spec (λ c κs. search rules) (λ c κs. search rules) (λ c κs. search rules) natural-requires
    fits-of-requires returns)

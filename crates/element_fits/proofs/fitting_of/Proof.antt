-- `element_fits::fitting_of` meets its contract: what the rows give, as columns, and their polynomials.
use mathlib.Core.Path.{◌≡◌, sym, ap, subst, ◌∙◌}
use borrow.Author.Rules.{rules}
use lib.IntN.{ℤ}
use mir.Syntax.{w64}
use mir.Val.{to_z, of_z}
use Rattle.rounding.specs.laws.Code.{read_back, read-size}
use Rattle.besselian_rows.specs.declared.besselian.Besselian.{Besselian}
use Rattle.besselian_rows.specs.declared.besselian.Radii.{Radii}
use Rattle.besselian_rows.specs.Rounded.{elements_of}
use Rattle.besselian_rows.specs.AcceptedLaws.{Accepted, accepted-is}
use Rattle.besselian_rows.specs.laws.ReadLaws.{back, back_size}
use Rattle.elements.specs.declared.Elements.{Elements}
use Rattle.element_fits.specs.declared.least_squares.Hourly.{Hourly}
use Rattle.element_fits.specs.declared.Rows.{Rows}
use Rattle.element_fits.specs.declared.Hours.{Hours}
use Rattle.element_fits.specs.declared.Columns.{Columns}
use Rattle.element_fits.specs.declared.Fitting.{Fitting}
use Rattle.element_fits.specs.FromTables.{hours_of, middleOf, columnsOf, fitted, fitting_of}
use Rattle.element_fits.specs.laws.Sizes.{HoursSizes, ColumnsSizes}
use Rattle.element_fits.specs.laws.Laws.{hours_sizes, columns_sizes, tanf1_size, tanf2_size}
use Rattle.element_fits.proofs.fitting_of.Statement.{statement}
use Rattle.element_fits.proofs.fitting_of.Tie as tie

-- ---- what the rows give
module _ (c : tie.After-hours_of-h) where
  abbrev start : tie.Start
  start = c.before.before

  sizes : HoursSizes c.hours_of-h.result
  sizes = subst HoursSizes (sym c.hours_of-h.ensures) (hours_sizes start.args.k start.requires.3 start.args.t start.requires.1)

columns-of-requires : tie.Need-columns_of-columns-requires
columns-of-requires c κs =
    (sizes c.before, (start c.before).requires.2, read-size c.middle_of-middle.result 765_000_000 c.middle_of-middle.ensures.size tt)

elements-of-requires : tie.Need-elements_of-b-requires
elements-of-requires c κs = let s = start c.before.before.before in (s.requires.1.r3, s.requires.3)

-- ---- the columns, and the tangents of the middle row
module _ (c : tie.After-columns_of-columns) where
  abbrev hours : tie.After-hours_of-h
  hours = c.before.before

  middle-is : to_z w64 (of_z w64 c.middle_of-middle.result) ≡ middleOf c.hours_of-h.result (start hours).args.g
  middle-is = read_back c.middle_of-middle.result c.middle_of-middle.ensures.size tt ∙ c.middle_of-middle.ensures.value

  columns-are : c.columns_of-columns.result ≡ columnsOf hours.hours_of-h.result (start hours).args.g (middleOf hours.hours_of-h.result (start hours).args.g)
  columns-are = c.columns_of-columns.ensures ∙ ap (columnsOf hours.hours_of-h.result (start hours).args.g) middle-is

module _ (c : tie.After-elements_of-b) where
  abbrev begun : tie.Start
  begun = start (hours c.before.before)

  abbrev made : c.elements_of-b.result ≡ elements_of begun.args.k begun.args.t.r3
  made = c.elements_of-b.ensures.0

  row : Accepted begun.args.t.r3
  row = accepted-is begun.args.t.r3 begun.requires.1.r3

fitted-requires : tie.Need-fitted-made-requires
fitted-requires c κs =
    let m = c.before.before in
    let b = begun m in
    let h = hours m.before.before in (
      subst ColumnsSizes (sym (columns-are m.before.before)) (columns_sizes _ _ _ (sizes h)),
      read-size m.middle_of-middle.result 765_000_000 m.middle_of-middle.ensures.size tt,
      back_size 600_000 (ap (λ (b : Besselian). b.tanf1) (made m)) (tanf1_size b.args.k b.requires.3 b.args.t.r3 (row m)) tt,
      back_size 600_000 (ap (λ (b : Besselian). b.tanf2) (made m)) (tanf2_size b.args.k b.requires.3 b.args.t.r3 (row m)) tt,
    )

-- put together, over variables
together : (k : Radii) (t : Rows) (g : Hourly) {h : Hours} {c : Columns} {e : Elements} {m : ℤ} {a b : ℤ} → h ≡ hours_of k t
    → c ≡ columnsOf h g (middleOf h g) → m ≡ middleOf h g → a ≡ (elements_of k t.r3).tanf1 → b ≡ (elements_of k t.r3).tanf2
    → e ≡ fitted c m a b → ◌≡◌ {A = Fitting} (record { columns = c; elements = e }) (fitting_of k t g)
unfolding fitting_of
together k t g eh ec em ea eb ee = rw (ee, ec, em, ea, eb, eh)

returns : tie.Need-returns
returns c =
    let m = c.before.before.before in
    let s = begun m in
    let k = s.args.k in
    let t = s.args.t in
    together k t s.args.g (hours m.before.before).hours_of-h.ensures (columns-are m.before.before) (middle-is m.before.before)
    (back (ap (λ (b : Besselian). b.tanf1) (made m)) (tanf1_size k s.requires.3 t.r3 (row m)) tt)
    (back (ap (λ (b : Besselian). b.tanf2) (made m)) (tanf2_size k s.requires.3 t.r3 (row m)) tt) c.fitted-made.ensures

pub fitting_of_spec : {M : Type 1} → statement M
fitting_of_spec =
    tie.close (tie.spec (λ c κs. search rules) (λ c κs. (sizes c, (start c).requires.2)) columns-of-requires elements-of-requires fitted-requires returns)

-- `element_fits::hour_of` meets its contract.
use mathlib.Core.Path.{ap, ◌∙◌}
use Rattle.besselian_rows.specs.declared.besselian.Besselian.{Besselian}
use Rattle.besselian_rows.specs.Rounded.{elements_of}
use Rattle.besselian_rows.specs.AcceptedLaws.{accepted-is}
use Rattle.besselian_rows.specs.laws.ReadLaws.{back, back_size}
use Rattle.element_fits.specs.Angles.{arcsine}
use Rattle.element_fits.specs.laws.ArcsineLaws.{arcsine-size}
use Rattle.element_fits.specs.FromTables.{hour_of}
use Rattle.element_fits.specs.laws.Laws.{ascension-size, hour_sizes, sine-size}
use Rattle.element_fits.proofs.hour_of.Statement.{statement}
use Rattle.element_fits.proofs.hour_of.Tie as tie

arcsine-requires : tie.Need-arcsine-d-requires
arcsine-requires c κs =
    let b = c.elements_of-b.ensures.0 in
    let s = c.before.before.before.before.before.before.before in
    (s.requires.0, back_size 100_000_000 (ap (λ (b : Besselian). b.sind) b) (sine-size s.args.k s.args.p (accepted-is s.args.p s.requires.1)) tt)

ascension-requires : tie.Need-ascension-ascension-requires
ascension-requires c κs =
    let s = c.before.before.before.before.before.before.before.before in
    (s.requires.0, accepted-is s.args.p s.requires.1)

returns : tie.Need-returns
unfolding hour_of
returns c =
    let s = c.before.before.before.before.before.before.before.before.before in
    let p = s.args.p in
    let h = accepted-is p s.requires.1 in
    let z = hour_sizes s.args.k s.requires.2 p h in
    let b = c.elements_of-b.ensures.0 in
    let sind = back (ap (λ (b : Besselian). b.sind) b) (sine-size s.args.k p h) tt in
    rw (
      back (ap (λ (b : Besselian). b.x) b) z.x tt,
      back (ap (λ (b : Besselian). b.y) b) z.y tt,
      back (ap (λ (b : Besselian). b.l1) b) z.l1 tt,
      back (ap (λ (b : Besselian). b.l2) b) z.l2 tt,
      back (c.arcsine-d.ensures.value ∙ ap arcsine sind) (arcsine-size (elements_of s.args.k p).sind) tt,
      back c.ascension-ascension.ensures.value (ascension-size p) tt,
    )

pub hour_of_spec : {M : Type 1} → statement M
hour_of_spec = tie.close (tie.spec (λ c κs. (c.requires.1, c.requires.2)) arcsine-requires ascension-requires returns)

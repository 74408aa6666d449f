-- `element_fits::hours_of` meets its contract: seven calls.
use Rattle.element_fits.specs.FromTables.{hours_of}
use Rattle.element_fits.proofs.hours_of.Statement.{statement}
use Rattle.element_fits.proofs.hours_of.Tie as tie

returns : tie.Need-returns
unfolding hours_of
returns c =
    rw (
      c.hour_of-h0.ensures,
      c.hour_of-h1.ensures,
      c.hour_of-h2.ensures,
      c.hour_of-h3.ensures,
      c.hour_of-h4.ensures,
      c.hour_of-h5.ensures,
      c.hour_of-h6.ensures,
    )

pub hours_of_spec : {M : Type 1} → statement M
hours_of_spec =
    tie.close
    (tie.spec (λ c κs. let s = c.before in (s.requires.0, s.requires.1.r0, s.requires.2))
    (λ c κs. let s = c.before.before in (s.requires.0, s.requires.1.r1, s.requires.2))
    (λ c κs. let s = c.before.before.before in (s.requires.0, s.requires.1.r2, s.requires.2))
    (λ c κs. let s = c.before.before.before.before in (s.requires.0, s.requires.1.r3, s.requires.2))
    (λ c κs. let s = c.before.before.before.before.before in (s.requires.0, s.requires.1.r4, s.requires.2))
    (λ c κs. let s = c.before.before.before.before.before.before in (s.requires.0, s.requires.1.r5, s.requires.2))
    (λ c κs. let s = c.before.before.before.before.before.before.before in (s.requires.0, s.requires.1.r6, s.requires.2))
    returns)

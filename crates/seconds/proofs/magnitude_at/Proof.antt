-- `seconds::magnitude_at` meets its contract: it is the magnitude of the shadow there, under the request's guard.
use mathlib.Core.Path.{sym, subst, ap, ◌∙◌}
use borrow.Author.Rules.{rules}
use Rattle.rounding.specs.laws.Code.{read_back, read-size}
use Rattle.elements.specs.declared.Body.{Body}
use Rattle.elements.specs.StarLaws.{BodySizes}
use Rattle.station.specs.Place.{place_of}
use Rattle.station.specs.Sizes.{PlaceSizes}
use Rattle.seconds.specs.Seconds.{magnitude_of, magnitude_at}
use Rattle.seconds.proofs.laws.SecondLaws.{placed, guard-read}
use Rattle.seconds.proofs.magnitude_at.Statement.{statement}
use Rattle.seconds.proofs.magnitude_at.Tie as tie

magnitude-at-requires : tie.Need-magnitude_at-requires
magnitude-at-requires c κs =
    let b = c.before.before.before in
    let o = b.args.o in (
      b.requires.0,
      subst BodySizes c.in-Sun.is b.requires.1.body,
      subst PlaceSizes (sym b.requires.2) (placed o b.requires.1),
      read-size b.args.t 10800 b.requires.3 tt,
      (guard-read o b.requires.1).1,
    )

returns : tie.Need-returns-in-Sun
unfolding magnitude_at
returns c =
    let b = c.before.before.before.before in
    let o = b.args.o in
    let given = rw ((guard-read o b.requires.1).0, b.requires.2, read_back b.args.t b.requires.3 tt) at c.magnitude_at.ensures in
    given ∙ sym (ap (λ (x : Body). magnitude_of o.guard x (place_of o.station) b.args.t) c.in-Sun.is)

returns-2 : tie.Need-returns-in-Star
unfolding magnitude_at
returns-2 c =
    let b = c.before.before.before in
    let o = b.args.o in
    sym (ap (λ (x : Body). magnitude_of o.guard x (place_of o.station) b.args.t) c.in-Star.is)

pub magnitude_at_spec : {M : Type 1} → statement M
magnitude_at_spec = tie.close (tie.spec (λ c. search rules) magnitude-at-requires (λ c. search rules) returns returns-2)

-- `seconds::second_within` meets its contract: the place is the station's, and the second there is the whole second,
-- of either body.
use mathlib.Core.Path.{◌≡◌, sym, subst}
use borrow.Author.Rules.{rules}
use lib.IntN.{ℤ}
use Rattle.rounding.specs.laws.Code.{read_back, read-size}
use Rattle.elements.specs.declared.Elements.{Elements}
use Rattle.elements.specs.declared.Star.{Star}
use Rattle.elements.specs.declared.Body.{Body}
use Rattle.elements.specs.declared.Body.TheVariants as B
use Rattle.elements.specs.StarLaws.{BodySizes}
use Rattle.station.specs.Place.{place_of}
use Rattle.station.specs.Sizes.{PlaceSizes}
use Rattle.shadow.specs.declared.Second.{Second}
use Rattle.shadow.specs.Second.{IsSecond}
use Rattle.requests.specs.declared.Occultation.{Occultation}
use Rattle.seconds.specs.Seconds.{state_at, direction_at, magnitude_at}
use Rattle.seconds.specs.OneSecond.{IsStarSecond, whole_second}
use Rattle.seconds.proofs.laws.SecondLaws.{placed, guard-read}
use Rattle.seconds.proofs.second_within.Statement.{statement}
use Rattle.seconds.proofs.second_within.Tie as tie

-- ---- what the code gives is that record
abbrev of : Occultation → Body → Occultation
of o b = record { body = b; station = o.station; window = o.window; guard = o.guard; share = o.share }

-- a second, field by field
abbrev spelled : Second → Second
spelled x =
    record {
      shadow = record { u = x.shadow.u; v = x.shadow.v; l1 = x.shadow.l1; l2 = x.shadow.l2; m = x.shadow.m };
      penumbra = x.penumbra;
      central = x.central;
      magnitude = x.magnitude;
      direction = x.direction;
    }

module _ (o : Occultation) (τ : ℤ) (x : Second) where
  eclipse-whole : (e : Elements) → o.body ≡ B.Sun e → IsSecond o.guard e (place_of o.station) τ x → x ≡ whole_second o τ
  unfolding state_at direction_at magnitude_at
  eclipse-whole e is i = subst (λ (b : Body). x ≡ whole_second (of o b) τ) (sym is) by
    where
      by : spelled x ≡ whole_second (of o (B.Sun e)) τ
      by = rw (i.shadow.u, i.shadow.v, i.shadow.l1, i.shadow.l2, i.shadow.m, i.penumbra, i.central, i.magnitude, i.direction)

  star-whole : (s : Star) → o.body ≡ B.Star s → IsStarSecond o.guard s (place_of o.station) τ x → x ≡ whole_second o τ
  unfolding state_at direction_at magnitude_at
  star-whole s is i = subst (λ (b : Body). x ≡ whole_second (of o b) τ) (sym is) by
    where
      by : spelled x ≡ whole_second (of o (B.Star s)) τ
      by = rw (i.u, i.v, i.l1, i.l2, i.m, i.penumbra, i.central, i.magnitude, i.direction)

second-at-requires : tie.Need-second_at-requires
second-at-requires c κs =
    let b = c.before.before.before.before.before in
    let o = b.args.o in (
      b.requires.0,
      subst BodySizes c.in-Sun.is b.requires.1.body,
      subst PlaceSizes (sym c.geocentric-place.ensures) (placed o b.requires.1),
      read-size b.args.t 10800 b.requires.2 tt,
      (guard-read o b.requires.1).1,
    )

star-second-requires : tie.Need-star_second-requires
star-second-requires c κs =
    let b = c.before.before.before.before.before in
    let o = b.args.o in (
      b.requires.0,
      subst BodySizes c.in-Star.is b.requires.1.body,
      subst PlaceSizes (sym c.geocentric-place.ensures) (placed o b.requires.1),
      read-size b.args.t 10800 b.requires.2 tt,
      (guard-read o b.requires.1).1,
    )

returns : tie.Need-returns-in-Sun
returns c =
    let b = c.before.before.before.before.before.before in
    let o = b.args.o in
    eclipse-whole o b.args.t c.second_at.result _ c.in-Sun.is
    (rw ((guard-read o b.requires.1).0, read_back b.args.t b.requires.2 tt, c.geocentric-place.ensures) at c.second_at.ensures)

returns-2 : tie.Need-returns-in-Star
returns-2 c =
    let b = c.before.before.before.before.before.before in
    let o = b.args.o in
    star-whole o b.args.t c.star_second.result _ c.in-Star.is
    (rw ((guard-read o b.requires.1).0, read_back b.args.t b.requires.2 tt, c.geocentric-place.ensures) at c.star_second.ensures)

pub second_within_spec : {M : Type 1} → statement M
second_within_spec =
    tie.close
    (tie.spec (λ c κs. search rules) (λ c. search rules) second-at-requires (λ c. search rules)
    star-second-requires returns returns-2)

-- `local_circumstances::entries::share_at` meets its contract: of either body.
use mathlib.Core.Path.{sym, subst, ap, ◌∙◌}
use borrow.Author.Rules.{rules}
use Rattle.rounding.specs.laws.Code.{read_back, read-size}
use Rattle.elements.specs.declared.Body.{Body}
use Rattle.elements.specs.StarLaws.{BodySizes}
use Rattle.station.specs.Sizes.{PlaceSizes}
use Rattle.seconds.proofs.laws.SecondLaws.{placed}
use Rattle.local_circumstances.specs.Course.{share_of}
use Rattle.local_circumstances.proofs.entries.share_at.Statement.{statement}
use Rattle.local_circumstances.proofs.entries.share_at.Tie as tie

share-at-requires : tie.Need-share_at-requires
share-at-requires c κs =
    let b = c.before.before in (
      b.requires.0,
      subst BodySizes c.in-Sun.is b.requires.1.body,
      subst PlaceSizes (sym b.requires.2) (placed b.args.o b.requires.1),
      read-size b.args.t 10800 b.requires.3 tt,
    )

returns : tie.Need-returns-in-Sun
returns c =
    let b = c.before.before.before in
    let given = rw (read_back b.args.t b.requires.3 tt) at c.share_at.ensures in
    given ∙ sym (ap (λ (x : Body). share_of x b.args.place b.args.t) c.in-Sun.is)

returns-2 : tie.Need-returns-in-Star
returns-2 c = search rules

pub share_at_spec : {M : Type 1} → statement M
share_at_spec = tie.close (tie.spec (λ c. search rules) share-at-requires (λ c. search rules) returns returns-2)

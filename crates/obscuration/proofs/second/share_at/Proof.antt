-- `obscuration::second::share_at` meets its contract: the share of the shadow there, whose L1, L2 and M are within
-- their sizes.
use mathlib.Core.Path.{sym, ◌∙◌}
use Rattle.rounding.specs.laws.Code.{read_back, read-size}
use Rattle.shadow.specs.Shadow.{IsShadow}
use Rattle.obscuration.proofs.laws.CoveredLaws.{share-at, sizes-at}
use Rattle.obscuration.proofs.second.share_at.Statement.{statement}
use Rattle.obscuration.proofs.second.share_at.Tie as tie

shadow-at-requires : tie.Need-shadow_at-s-requires
shadow-at-requires c κs =
    let b = c.before in
    (b.requires.0, b.requires.1, b.requires.2, read-size b.args.t 10800 b.requires.3 tt)

seen : (c : tie.After-shadow_at-s) → let a = c.args in IsShadow a.e a.place a.t c.shadow_at-s.result
seen c =
    let b = c.before.before in
    rw (read_back b.args.t b.requires.3 tt) at c.shadow_at-s.ensures

share-of-requires : tie.Need-share_of-requires
share-of-requires c κs =
    let b = c.before.before in
    let j = seen c in
    rw (j.l1, j.l2, j.m) (sizes-at b.args.e b.requires.1 b.args.place b.requires.2 b.args.t b.requires.3)

returns : tie.Need-returns
returns c =
    let a = c.args in
    let j = seen c.before in
    c.share_of.ensures ∙ rw (j.l1, j.l2, j.m) (sym (share-at a.e a.place a.t))

pub share_at_spec : {M : Type 1} → statement M
share_at_spec = tie.close (tie.spec shadow-at-requires share-of-requires returns)

-- `obscuration::second::share_of` meets its contract: L1, L2 and M are read back from their bits.
use mathlib.Core.Path.{◌≡◌, ◌∙◌}
use lib.IntN.{ℤ}
use mir.Syntax.{w64}
use mir.Val.{to_z, of_z}
use Rattle.rounding.specs.laws.Order.{nat_abs_between}
use Rattle.rounding.specs.laws.Code.{read_back}
use Rattle.obscuration.specs.Share.{share, Sizes}
use Rattle.obscuration.proofs.second.share_of.Statement.{statement}
use Rattle.obscuration.proofs.second.share_of.Tie as tie

-- a number as a call takes it
abbrev read : ℤ → ℤ
read z = to_z w64 (of_z w64 z)

module _ (L1 L2 M : ℤ) (s : Sizes L1 L2 M) where
  l1-back : read L1 ≡ L1
  l1-back = read_back L1 (nat_abs_between L1 48860000 s.low s.high) tt

  sizes-back : Sizes (read L1) (read L2) (read M)
  sizes-back = rw (l1-back, read_back L2 s.central tt, read_back M s.far tt) s

  share_back : share (read L1) (read L2) (read M) ≡ share L1 L2 M
  share_back = rw (l1-back, read_back L2 s.central tt, read_back M s.far tt)

share-requires : tie.Need-share-requires
share-requires c κs = let b = c.before.before.before in sizes-back _ _ _ b.requires

returns : tie.Need-returns
returns c = let b = c.before.before.before.before in c.share.ensures ∙ share_back _ _ _ b.requires

pub share_of_spec : {M : Type 1} → statement M
share_of_spec = tie.close (tie.spec share-requires returns)

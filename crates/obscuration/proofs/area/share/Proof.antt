-- `obscuration::area::share` meets its contract: L1+L2 and L1-L2 are above 0, so the machine rounds their halves down.
use mathlib.Core.Path.{◌≡◌, ap, ◌∙◌}
use mathlib.Core.List.{[], ◌∷◌}
use Prim.Native.Nat.{◌≤◌}
use native.Mathlib.Omega.{arith}
use lib.Dec.{lit<}
use lib.IntN.{ℤ, pos, neg_ℤ, nat_abs, ◌+ℤ◌, ◌-ℤ◌}
use Rattle.rounding.specs.Parts.{sum, opposite}
use Rattle.rounding.specs.laws.Order.{zs, nat_abs_parts, nat_abs_between}
use Rattle.rounding.specs.laws.Code.{Code, arg, lit, add, sub, quo, Within, whole, ends, ◌▹◌, fits, run, runs, unsigned, read_back, read-size}
use Rattle.rounding.specs.Root.{root}
use Rattle.obscuration.specs.Share.{half, share}
use Rattle.obscuration.specs.laws.StripLaws.{half_pos}
use Rattle.obscuration.specs.laws.ShareLaws.{r-low, r-size, n-size, m-size}
use Rattle.obscuration.proofs.area.share.Statement.{statement}
use Rattle.obscuration.proofs.area.share.Tie as tie

abbrev both : Code
both = add (arg 0) (arg 1)

abbrev less : Code
less = sub (arg 0) (arg 1)

abbrev two : Code
two = lit (pos 2)

module _ (c : tie.Start) where
  abbrev l1 : ℤ
  l1 = c.args.l1

  abbrev l2 : ℤ
  l2 = c.args.l2

  abbrev m : ℤ
  m = c.args.m

  bounds : Within (whole l1 ∷ whole l2 ∷ whole m ∷ []) (61140000 ∷ 6140000 ∷ 1000000000000000000 ∷ [])
  bounds = nat_abs_between l1 48860000 c.requires.low c.requires.high ▹ c.requires.central ▹ c.requires.far ▹ ends

  r-is : run (whole l1 ∷ whole l2 ∷ whole m ∷ []) (quo both two) ≡ half (l1 +ℤ l2)
  r-is =
      runs bounds (quo both two) tt
      ∙ half_pos (l1 +ℤ l2) (omega (arith, zs, c.requires.low, c.requires.central, nat_abs_parts l2, (sum l1 l2).is))

  n-is : run (whole l1 ∷ whole l2 ∷ whole m ∷ []) (quo less two) ≡ half (l1 -ℤ l2)
  n-is =
      runs bounds (quo less two) tt
      ∙ half_pos (l1 -ℤ l2) (omega (arith, zs, c.requires.low, c.requires.central, nat_abs_parts l2, (sum l1 (neg_ℤ l2)).is, (opposite l2).is))

cast-root : tie.Need-overflow_cast-m
cast-root c = unsigned (bounds c) (arg 2) tt c.requires.square

module _ (c : tie.After-root-distance) where
  abbrev s : tie.Start
  s = c.before

  distance : c.root-distance.result ≡ root (nat_abs (m s))
  distance = c.root-distance.ensures ∙ ap (λ (z : ℤ). root (nat_abs z)) (read_back (m s) s.requires.far tt)

  small : nat_abs (pos c.root-distance.result) ≤ 1000000000
  small = omega (arith, distance, m-size (l1 s) (l2 s) (m s) s.requires)

cast-share-of : tie.Need-overflow_cast-distance
cast-share-of c = fits {env = whole (pos c.root-distance.result) ∷ []} {bs = 1000000000 ∷ []} (small c ▹ ends) (arg 0) tt

share-of-requires : tie.Need-share_of-requires
share-of-requires c κs =
    let b = c.before in
    let p = b.requires in (
      rw (r-is b) (r-size (l1 b) (l2 b) (m b) p),
      rw (n-is b) (n-size (l1 b) (l2 b) (m b) p),
      read-size (pos c.root-distance.result) 1000000000 (small c) tt,
      rw (r-is b) (r-low (l1 b) (l2 b) (m b) p),
    )

returns : tie.Need-returns
unfolding share
returns c =
    let d = c.before in
    let b = d.before in
    rw (r-is b, n-is b, read_back (pos d.root-distance.result) (small d) tt, distance d) at c.share_of.ensures

pub share_spec : {M : Type 1} → statement M
share_spec =
    tie.close
    (tie.spec (λ c. fits (bounds c) both tt) (λ c. (lit< tt, fits (bounds c) (quo both two) tt))
    (λ c. fits (bounds c) less tt) (λ c. (lit< tt, fits (bounds c) (quo less two) tt)) cast-root (λ c κs. tt)
    cast-share-of share-of-requires returns)

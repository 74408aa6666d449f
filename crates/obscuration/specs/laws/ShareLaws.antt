-- The theorems on the covered share.
--   share-limit    at most 1,000,000, of any numbers
--   share_holds    all that Holds says
--   r-low, r-size, n-size, m-size   for the code: the sizes of r, n and m
use Rattle.std.specs.Prelude.{◌≡◌, [], ◌∷◌, ℤ, pos, negsuc, neg_ℤ, ◌+ℤ◌, ◌*ℤ◌, ◌≤ℤ◌, ◌<ℤ◌}
use Prim.Native.Nat.{ℕ, ◌≤◌}
use Rattle.std.proofs.Common.{arith}
use Rattle.std.proofs.Math.IntN.{nat_abs}
use Rattle.rounding.specs.Parts.{sum, product}
use Rattle.rounding.specs.laws.Order.{zs, nonneg, nat_abs_parts, nat_abs_between, nat_abs_opposite}
use Rattle.rounding.specs.laws.Ring.{num, ◌⊕◌, ◌⊖◌, ◌⊗◌, v0, v1, v2}
use Rattle.rounding.specs.laws.Cert.{leq, less, lit, ◌⊞◌, ◌⊠◌, certify, certify-<}
use Rattle.rounding.specs.Root.{root}
use Rattle.rounding.specs.laws.RootLaws.{root_below, root-least}
use Rattle.obscuration.specs.Share.{half, rOf, n_of, share, Sizes}
use Rattle.obscuration.specs.Holds.{TotalSure, AllHold}
use Rattle.obscuration.specs.laws.StripLaws.{half-low, half_high, halves-sum, halves-apart}
use Rattle.obscuration.specs.laws.DiscLaws.{discs_limit, discs_whole, discs_apart}

pub share-limit : (L1 L2 M : ℤ) → share L1 L2 M ≤ 1000000
unfolding share
share-limit L1 L2 M = discs_limit (rOf L1 L2) (n_of L1 L2) (pos (root (nat_abs M)))

-- half of L1 and a number of at most 6,140,000 in size
module _ (L1 z : ℤ) (low : pos 48860000 ≤ℤ L1) (high : L1 ≤ℤ pos 61140000) (small : nat_abs z ≤ 6140000) where
  abbrev h : ℤ
  h = half (L1 +ℤ z)

  half-least : pos 1000 ≤ℤ h
  half-least =
      omega (arith, zs, nat_abs_parts z, half_high (L1 +ℤ z), (product (pos 2) h).is, (sum (pos 2 *ℤ h) (pos 2)).is, (sum L1 z).is)

  half-size : nat_abs h ≤ 40000000
  half-size =
      nat_abs_between h 1000 half-least (omega (arith, zs, nat_abs_parts z, half-low (L1 +ℤ z), (product (pos 2) h).is, (sum L1 z).is))

module _ (L1 L2 M : ℤ) (s : Sizes L1 L2 M) where
  abbrev r : ℤ
  r = rOf L1 L2

  abbrev n : ℤ
  n = n_of L1 L2

  abbrev m : ℕ
  m = root (nat_abs M)

  opposite-small : nat_abs (neg_ℤ L2) ≤ 6140000
  opposite-small = omega (arith, nat_abs_opposite L2, s.central)

  pub r-low : pos 1000 ≤ℤ r
  r-low = half-least L1 _ s.low s.high s.central

  n-low : pos 1000 ≤ℤ n
  n-low = half-least L1 _ s.low s.high opposite-small

  pub r-size : nat_abs r ≤ 40000000
  r-size = half-size L1 _ s.low s.high s.central

  pub n-size : nat_abs n ≤ 40000000
  n-size = half-size L1 _ s.low s.high opposite-small

  pub m-size : m ≤ 1000000000
  m-size = root_below (nat_abs M) 1000000000 (omega (arith, s.far)) (omega (arith, s.far))

  -- the root of a number below (|L2| - g)² is at most |L2|, by which n is more than r
  share-total : (g : ℤ) → pos 0 ≤ℤ g → TotalSure g L2 M → share L1 L2 M ≡ 1000000
  unfolding share
  share-total g guard sure = discs_whole r n (pos m) r-size n-size r-low (omega (arith, zs)) holds
    where
      D : ℕ
      D = nat_abs L2

      square : M <ℤ (pos D *ℤ pos D)
      square =
          let l = less v2 v1 sure.over ⊞ lit 1 in
          let z = leq (num 0) v2 guard in
          certify-< 0 (M ∷ pos D ∷ g ∷ []) v0 (v1 ⊗ v1) (less v0 ((v1 ⊖ v2) ⊗ (v1 ⊖ v2)) sure.inside ⊞ z ⊠ l ⊞ z ⊠ (l ⊞ z)) tt

      close : m ≤ D
      close = root_below (nat_abs M) D (omega (arith, s.far)) (omega (arith, zs, square, nat_abs_parts M, nonneg s.square))

      holds : (r +ℤ pos m) ≤ℤ n
      holds = omega (arith, zs, close, halves-apart L1 L2 sure.total, (sum r (pos D)).is, (sum r (pos m)).is)

  share-apart : (r +ℤ n) ≤ℤ pos m → share L1 L2 M ≡ 0
  unfolding share
  share-apart h = discs_apart r n (pos m) (omega (arith, zs, r-low)) (omega (arith, zs, n-low)) h

  -- r + n is at most L1
  share-beyond : (L1 *ℤ L1) ≤ℤ M → share L1 L2 M ≡ 0
  share-beyond h = share-apart far
    where
      side : (l : ℤ) → pos 0 ≤ℤ l → (l *ℤ l) ≤ℤ M → l ≤ℤ pos m
      side (pos l) p k = omega (arith, zs, root-least (nat_abs M) l (omega (arith, s.far)) (omega (arith, zs, nat_abs_parts M)))
      side (negsuc l) p k = absurd p.le

      far : (r +ℤ n) ≤ℤ pos m
      far = omega (arith, zs, side L1 (omega (arith, zs, s.low)) h, halves-sum L1 L2)

  share-outside : (g : ℤ) → pos 0 ≤ℤ g → ((L1 +ℤ g) *ℤ (L1 +ℤ g)) <ℤ M → share L1 L2 M ≡ 0
  share-outside g guard out =
      let l = leq (num 0) v0 above in
      let z = leq (num 0) v1 guard in
      share-beyond
      (certify 0 (L1 ∷ g ∷ M ∷ []) (v0 ⊗ v0) v2 (less ((v0 ⊕ v1) ⊗ (v0 ⊕ v1)) v2 out ⊞ lit 1 ⊞ z ⊠ (lit 2 ⊠ l ⊞ z)) tt)
    where
      above : pos 0 ≤ℤ L1
      above = omega (arith, zs, s.low)

pub share_holds : AllHold
share_holds L1 L2 M s =
    record {
      limit = share-limit L1 L2 M;
      total = share-total L1 L2 M s;
      apart = share-apart L1 L2 M s;
      beyond = share-beyond L1 L2 M s;
      outside = share-outside L1 L2 M s;
    }

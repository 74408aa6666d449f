-- Laws of strips, half-chords and sums, for any disc.
--   half_pos, half-low, half_high        half of z; where z is not negative, as the machine divides
--   halves-sum, halves-apart             of a + b and a - b: together at most a; where b is below 0, apart by the size of b
--   offset-low, offset-high, offset-in   a strip lies from -r to r, and between them where r is at least 1000
--   offset-size, offset-by               so its size; as the code computes it
--   chord-size, chord_mono, chord_above  the half-chord: at most the radius, its order, above 0 on the disc
--   chord-none, chord-off                0 off the disc
--   gap_small, chord_on                  as the code takes it
--   lesser-first, lesser-second, lesser-same, lesser_other   the lesser of two
--   sum-none, sum_next, sum-≤, sum_same, sum-least, sum-most sums
use Rattle.std.specs.Prelude.{◌≡◌, refl, Bool, true, false, cond, [], ◌∷◌, ℕ, zero, suc, ◌+◌, ◌*◌, ◌/◌, ◌≤◌, ◌<◌, leb, ℤ, pos, negsuc, neg_ℤ, nat_abs, ◌+ℤ◌, ◌-ℤ◌, ◌*ℤ◌, ◌≤ℤ◌, ◌<ℤ◌}
use Rattle.std.proofs.Common.{sym, ap, arith, mul-le-mul, add-one, leb-true, leb-false}
use Rattle.std.specs.Int.Signed.{quot_z}
use Rattle.rounding.specs.Parts.{pos_p, sum, opposite, product}
use Rattle.rounding.specs.laws.Order.{zs, ≤-parts, nonneg, nat_abs_parts, nat_abs_le, pos-part, square_nat_abs}
use Rattle.rounding.specs.laws.Ring.{num, ◌⊖◌, ◌⊗◌, opp, ring, v0, v1}
use Rattle.rounding.specs.laws.Cert.{leq, less, lit, sq, ◌⊞◌, ◌⊠◌, certify}
use Rattle.rounding.specs.Near.{floor_z}
use Rattle.rounding.specs.laws.Floor.{floor-is}
use Rattle.rounding.specs.Root.{root}
use Rattle.rounding.specs.laws.RootLaws.{root_below, root_mono, root_above}
use Rattle.obscuration.specs.Share.{half, offset, chord, lesser_of, sum_of}

no_pos_p : {z : ℤ} → z <ℤ pos 0 → pos_p z ≡ 0
no_pos_p {z = pos a} h = absurd (omega (arith, zs))
no_pos_p {z = negsuc a} h = refl

-- ---- halves
pub quot_floor : (a : ℤ) (b : ℕ) → pos 0 ≤ℤ a → quot_z a (pos b) ≡ floor_z a (pos b)
quot_floor (pos a) b h = refl
quot_floor (negsuc a) b h = absurd h.le

pub half_pos : (z : ℤ) → pos 0 ≤ℤ z → quot_z z (pos 2) ≡ half z
unfolding half
half_pos z h = quot_floor z 2 h

pub half-low : (z : ℤ) → (pos 2 *ℤ half z) ≤ℤ z
unfolding half
half-low z = (floor-is z (pos 2) (omega (arith, zs))).low

pub half_high : (z : ℤ) → z <ℤ (pos 2 *ℤ half z +ℤ pos 2)
unfolding half
half_high z = (floor-is z (pos 2) (omega (arith, zs))).high

module _ (a b : ℤ) where
  pub halves-sum : (half (a +ℤ b) +ℤ half (a -ℤ b)) ≤ℤ a
  halves-sum =
      omega (
        arith,
        zs,
        half-low (a +ℤ b),
        half-low (a -ℤ b),
        (product (pos 2) (half (a +ℤ b))).is,
        (product (pos 2) (half (a -ℤ b))).is,
        (sum a b).is,
        (sum a (neg_ℤ b)).is,
        (opposite b).is,
        (sum (half (a +ℤ b)) (half (a -ℤ b))).is,
      )

  -- a + b and a - b are both even or both odd
  pub halves-apart : b <ℤ pos 0 → (half (a +ℤ b) +ℤ pos (nat_abs b)) ≤ℤ half (a -ℤ b)
  halves-apart h =
      omega (
        arith,
        zs,
        nat_abs_parts b,
        no_pos_p h,
        half-low (a +ℤ b),
        half_high (a -ℤ b),
        (product (pos 2) (half (a +ℤ b))).is,
        (product (pos 2) (half (a -ℤ b))).is,
        (sum (pos 2 *ℤ half (a -ℤ b)) (pos 2)).is,
        (sum a b).is,
        (sum a (neg_ℤ b)).is,
        (opposite b).is,
        (sum (half (a +ℤ b)) (pos (nat_abs b))).is,
      )

-- ---- offsets: (2i+1)·x is at most 1999·x
pub offset-low : (r : ℤ) (i : ℕ) → pos 0 ≤ℤ r → neg_ℤ r ≤ℤ offset r i
unfolding offset
offset-low (pos x) i h = let q = (2 * i + 1) * x / 1000 in omega (arith, zs, (sum (neg_ℤ (pos x)) (pos q)).is)
offset-low (negsuc x) i h = absurd h.le

pub offset-high : (r : ℤ) (i : ℕ) → pos 0 ≤ℤ r → i ≤ 999 → offset r i ≤ℤ r
unfolding offset
offset-high (pos x) i h k =
    let q = (2 * i + 1) * x / 1000 in
    let p : (2 * i + 1) * x ≤ 1999 * x = mul-le-mul {n₁ = 2 * i + 1} {m₁ = x} {n₂ = 1999} {m₂ = x} (omega arith) (omega arith) in
    omega (arith, zs, (sum (neg_ℤ (pos x)) (pos q)).is, (opposite (pos x)).is)
offset-high (negsuc x) i h k = absurd h.le

pub offset-in : (r : ℤ) (i : ℕ) → pos 1000 ≤ℤ r → i ≤ 999 → (neg_ℤ r <ℤ offset r i) × (offset r i <ℤ r)
unfolding offset
offset-in (pos x) i h k =
    let q = (2 * i + 1) * x / 1000 in
    let l : 1000 ≤ x = omega (arith, ≤-parts h) in
    let p : (2 * i + 1) * x ≤ 1999 * x = mul-le-mul {n₁ = 2 * i + 1} {m₁ = x} {n₂ = 1999} {m₂ = x} (omega arith) (omega arith) in
    let s : 1 * x ≤ (2 * i + 1) * x = mul-le-mul {n₁ = 1} {m₁ = x} {n₂ = 2 * i + 1} {m₂ = x} (omega arith) (omega arith) in (
      omega (arith, zs, (sum (neg_ℤ (pos x)) (pos q)).is, (opposite (pos x)).is),
      omega (arith, zs, (sum (neg_ℤ (pos x)) (pos q)).is, (opposite (pos x)).is),
    )
offset-in (negsuc x) i h k = absurd h.le

pub offset-size : (r : ℤ) (i : ℕ) → pos 0 ≤ℤ r → i ≤ 999 → nat_abs (offset r i) ≤ nat_abs r
offset-size (pos x) i h k = nat_abs_le (offset (pos x) i) (offset-low (pos x) i h) (offset-high (pos x) i h k)
offset-size (negsuc x) i h k = absurd h.le

-- as the code computes it
pub offset-by : (r : ℤ) (i : ℕ) → pos 0 ≤ℤ r → (pos 0 -ℤ r) +ℤ quot_z (pos (2 * i + 1) *ℤ r) (pos 1000) ≡ offset r i
unfolding offset
offset-by (pos x) i h = ap (λ (z : ℤ). z +ℤ pos ((2 * i + 1) * x / 1000)) (ring (pos x ∷ []) (num 0 ⊖ v0) (opp v0) tt)
offset-by (negsuc x) i h = absurd h.le

-- ---- half-chords
abbrev gap : (r x : ℤ) → ℤ
gap r x = r *ℤ r -ℤ x *ℤ x

pos_mono : (y z : ℤ) → y ≤ℤ z → pos_p y ≤ pos_p z
pos_mono (pos a) (pos b) h = omega (arith, zs)
pos_mono (pos a) (negsuc b) h = absurd h.le
pos_mono (negsuc a) z h = omega arith

pos_above : (z : ℤ) → pos 1 ≤ℤ z → 1 ≤ pos_p z
pos_above (pos a) h = omega (arith, zs)
pos_above (negsuc a) h = absurd h.le

gap-size : (r x : ℤ) → pos_p (gap r x) ≤ nat_abs r * nat_abs r
gap-size r x =
    pos-part (gap r x) (nat_abs r * nat_abs r)
    (rw (sym (square_nat_abs r)) (certify 0 (r ∷ x ∷ []) (v0 ⊗ v0 ⊖ v1 ⊗ v1) (v0 ⊗ v0) (sq v1) tt))

gap-fits : (r x : ℤ) → nat_abs r ≤ 40000000 → pos_p (gap r x) < 18446744073709551616
gap-fits r x h = omega (arith, gap-size r x, mul-le-mul h h)

pub chord-size : (r x : ℤ) → nat_abs r ≤ 40000000 → chord r x ≤ nat_abs r
unfolding chord
chord-size r x h = root_below (pos_p (gap r x)) (nat_abs r) (gap-fits r x h) (omega (arith, gap-size r x))

pub chord_mono : (r x n y : ℤ) → nat_abs n ≤ 40000000 → (r *ℤ r -ℤ x *ℤ x) ≤ℤ (n *ℤ n -ℤ y *ℤ y) → chord r x ≤ chord n y
unfolding chord
chord_mono r x n y h l = root_mono (pos_p (gap r x)) (pos_p (gap n y)) (pos_mono (gap r x) (gap n y) l) (gap-fits n y h)

-- (r - x - 1)(r + x - 1) + (r - x - 1) + (r + x - 1) is r² - x² - 1
pub chord_above : (r x : ℤ) → nat_abs r ≤ 40000000 → neg_ℤ r <ℤ x → x <ℤ r → 1 ≤ chord r x
unfolding chord
chord_above r x h a b =
    let p = less (opp v0) v1 a in
    let q = less v1 v0 b in
    root_above (pos_p (gap r x))
    (pos_above (gap r x) (certify 0 (r ∷ x ∷ []) (num 1) (v0 ⊗ v0 ⊖ v1 ⊗ v1) (p ⊠ q ⊞ p ⊞ q) tt)) (gap-fits r x h)

pub chord-none : (r x : ℤ) → (r *ℤ r -ℤ x *ℤ x) ≤ℤ pos 0 → chord r x ≡ 0
unfolding chord
chord-none r x h =
    let none : pos_p (gap r x) ≤ 0 = pos-part (gap r x) 0 h in
    omega (arith, root_below (pos_p (gap r x)) 0 (omega arith) (omega arith))

-- x² - r² = (-r - x)((-r - x) + 2r), at least 0 where x is at most -r
pub chord-off : (r x : ℤ) → pos 0 ≤ℤ r → x ≤ℤ neg_ℤ r → chord r x ≡ 0
chord-off r x p l =
    let z = leq v1 (opp v0) l in
    chord-none r x (certify 0 (r ∷ x ∷ []) (v0 ⊗ v0 ⊖ v1 ⊗ v1) (num 0) (z ⊠ (z ⊞ lit 2 ⊠ leq (num 0) v0 p)) tt)

-- as the code takes it
pub gap_small : (r x : ℤ) → nat_abs r ≤ 40000000 → pos 0 ≤ℤ (r *ℤ r -ℤ x *ℤ x) → nat_abs (r *ℤ r -ℤ x *ℤ x) ≤ 1600000000000000
gap_small r x h k = omega (arith, nat_abs_parts (gap r x), nonneg k, gap-size r x, mul-le-mul h h)

pub chord_on : (r x : ℤ) → pos 0 ≤ℤ (r *ℤ r -ℤ x *ℤ x) → root (nat_abs (r *ℤ r -ℤ x *ℤ x)) ≡ chord r x
unfolding chord
chord_on r x h = ap root (omega (arith, nat_abs_parts (gap r x), nonneg h))

-- ---- the lesser of two
pub lesser-first : (a b : ℕ) → lesser_of a b ≤ a
lesser-first a b = go (leb a b) refl
  where
    go : (t : Bool) → leb a b ≡ t → cond t a b ≤ a
    go true e = omega arith
    go false e = omega (arith, leb-false a b e)

pub lesser-second : (a b : ℕ) → lesser_of a b ≤ b
lesser-second a b = go (leb a b) refl
  where
    go : (t : Bool) → leb a b ≡ t → cond t a b ≤ b
    go true e = leb-true a b e
    go false e = omega arith

pub lesser-same : (a b : ℕ) → a ≤ b → lesser_of a b ≡ a
lesser-same a b h = go (leb a b) refl
  where
    go : (t : Bool) → leb a b ≡ t → cond t a b ≡ a
    go true e = refl
    go false e = absurd (omega (arith, leb-false a b e))

pub lesser_other : (a b : ℕ) → b ≤ a → lesser_of a b ≡ b
lesser_other a b h = go (leb a b) refl
  where
    go : (t : Bool) → leb a b ≡ t → cond t a b ≡ b
    go true e = omega (arith, leb-true a b e)
    go false e = refl

-- ---- sums
pub sum-none : (f : ℕ → ℕ) → sum_of f 0 ≡ 0
unfolding sum_of
sum-none f = refl

pub sum_next : (f : ℕ → ℕ) (k : ℕ) → sum_of f (k + 1) ≡ sum_of f k + f k
unfolding sum_of
sum_next f k = rw add-one

pub sum-≤ : (f g : ℕ → ℕ) (k : ℕ) → ((i : ℕ) → i < k → f i ≤ g i) → sum_of f k ≤ sum_of g k
unfolding sum_of
sum-≤ f g zero h = omega arith
sum-≤ f g (suc k) h = omega (arith, sum-≤ f g k (λ i l. h i (omega arith)), h k (omega arith))

pub sum_same : (f g : ℕ → ℕ) (k : ℕ) → ((i : ℕ) → i < k → f i ≡ g i) → sum_of f k ≡ sum_of g k
unfolding sum_of
sum_same f g zero h = refl
sum_same f g (suc k) h = omega (arith, sum_same f g k (λ i l. h i (omega arith)), h k (omega arith))

-- between k times the least and k times the most of its terms
pub sum-least : (f : ℕ → ℕ) (b k : ℕ) → ((i : ℕ) → i < k → b ≤ f i) → b * k ≤ sum_of f k
unfolding sum_of
sum-least f b zero h = omega arith
sum-least f b (suc k) h = omega (arith, sum-least f b k (λ i l. h i (omega arith)), h k (omega arith))

pub sum-most : (f : ℕ → ℕ) (b k : ℕ) → ((i : ℕ) → i < k → f i ≤ b) → sum_of f k ≤ b * k
unfolding sum_of
sum-most f b zero h = omega arith
sum-most f b (suc k) h = omega (arith, sum-most f b k (λ i l. h i (omega arith)), h k (omega arith))

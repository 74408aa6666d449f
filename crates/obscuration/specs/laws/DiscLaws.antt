-- The share of two discs, of r, n and m.
--   sun_above      the Sun's sum is at least 1000, so the division is one
--   lesser-sun     the lesser half-chord is at most the Sun's
--   discs_limit    the share is at most 1,000,000
--   discs_whole    and 1,000,000 where the Moon's disc holds the Sun's
--   discs_apart    and 0 where the two touch at most
use Rattle.std.specs.Prelude.{◌≡◌, [], ◌∷◌, ℕ, ◌*◌, ◌/◌, ◌≤◌, ◌<◌, ℤ, pos, neg_ℤ, nat_abs, ◌+ℤ◌, ◌-ℤ◌, ◌≤ℤ◌}
use Rattle.std.proofs.Common.{ap, ◌∙◌, arith, mul-div_cancel}
use Rattle.std.proofs.Math.Nat.{div-le_of_le-mul, zero-div}
use Rattle.rounding.specs.Parts.{sum, opposite}
use Rattle.rounding.specs.laws.Order.{zs}
use Rattle.rounding.specs.laws.Ring.{num, ◌⊕◌, ◌⊖◌, ◌⊗◌, opp, v0, v1, v2, v3}
use Rattle.rounding.specs.laws.Cert.{leq, lit, ◌⊞◌, ◌⊠◌, certify}
use Rattle.obscuration.specs.Share.{strips, offset, sun, moon, lesser, sum_of, share_of}
use Rattle.obscuration.specs.laws.StripLaws.{offset-low, offset-high, offset-in, chord_mono, chord_above, chord-off}
use Rattle.obscuration.specs.laws.StripLaws.{lesser-first, lesser-second, lesser-same, sum-≤, sum_same, sum-least, sum-most}

pub sun_above : (r : ℤ) → nat_abs r ≤ 40000000 → pos 1000 ≤ℤ r → 1000 ≤ sum_of (sun r) strips
unfolding sun
sun_above r h l = omega (arith, sum-least (sun r) 1 strips each)
  where
    each : (i : ℕ) → i < strips → 1 ≤ sun r i
    each i k = let o = offset-in r i l (omega arith) in chord_above r (offset r i) h o.0 o.1

pub lesser-sun : (r n m : ℤ) (i : ℕ) → lesser r n m i ≤ sun r i
unfolding lesser
lesser-sun r n m i = lesser-first (sun r i) (moon r n m i)

pub discs_limit : (r n m : ℤ) → share_of r n m ≤ 1000000
unfolding share_of
discs_limit r n m =
    div-le_of_le-mul (sum_of (sun r) strips) {m = 1000000 * sum_of (lesser r n m) strips} {n = 1000000}
    (omega (arith, sum-≤ (lesser r n m) (sun r) strips (λ i h. lesser-sun r n m i)))

-- n² - (o-m)² less r² - o² is (n - r - m)(n + r + m) + 2m(o + r), so no half-chord of the Moon is less than the Sun's;
-- below, 0 is r, 1 is n, 2 is m and 3 the offset o
pub discs_whole : (r n m : ℤ) → nat_abs r ≤ 40000000 → nat_abs n ≤ 40000000 → pos 1000 ≤ℤ r → pos 0 ≤ℤ m → (r +ℤ m) ≤ℤ n
    → share_of r n m ≡ 1000000
unfolding share_of lesser sun moon
discs_whole r n m hr hn low hm h =
    ap (λ (t : ℕ). 1000000 * t / sum_of (sun r) strips) (sum_same (lesser r n m) (sun r) strips (λ i k. same i))
    ∙ mul-div_cancel 1000000 {n = sum_of (sun r) strips} (omega (arith, sun_above r hr low))
  where
    not_below : pos 0 ≤ℤ r
    not_below = omega (arith, zs)

    over : (i : ℕ) → sun r i ≤ moon r n m i
    over i =
        let o = offset r i in
        let d = leq (v0 ⊕ v2) v1 h in
        let a = leq (num 0) v0 not_below in
        let b = leq (num 0) v2 hm in
        chord_mono r o n (o -ℤ m) hn
        (certify 0 (r ∷ n ∷ m ∷ o ∷ []) (v0 ⊗ v0 ⊖ v3 ⊗ v3) (v1 ⊗ v1 ⊖ (v3 ⊖ v2) ⊗ (v3 ⊖ v2))
        (d ⊠ (d ⊞ lit 2 ⊠ a ⊞ lit 2 ⊠ b) ⊞ lit 2 ⊠ b ⊠ leq (opp v0) v3 (offset-low r i not_below)) tt)

    same : (i : ℕ) → lesser r n m i ≡ sun r i
    same i = lesser-same (sun r i) (moon r n m i) (over i)

-- no strip is beyond r, so each is at least n from the Moon's centre
pub discs_apart : (r n m : ℤ) → pos 0 ≤ℤ r → pos 0 ≤ℤ n → (r +ℤ n) ≤ℤ m → share_of r n m ≡ 0
unfolding share_of lesser moon
discs_apart r n m hr hn h =
    ap (λ (t : ℕ). 1000000 * t / sum_of (sun r) strips) nothing ∙ zero-div (sum_of (sun r) strips)
  where
    off : (i : ℕ) → i < strips → moon r n m i ≡ 0
    off i k =
        let o = offset r i in
        let l : o ≤ℤ r = offset-high r i hr (omega arith) in
        chord-off n (o -ℤ m) hn (omega (arith, zs, (sum o (neg_ℤ m)).is, (opposite m).is, (opposite n).is, (sum r n).is))

    each : (i : ℕ) → i < strips → lesser r n m i ≤ 0
    each i k = omega (arith, lesser-second (sun r i) (moon r n m i), off i k)

    nothing : sum_of (lesser r n m) strips ≡ 0
    nothing = omega (arith, sum-most (lesser r n m) 0 strips each)

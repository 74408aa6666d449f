-- The sine rule rises from 0 to 45 degrees, and by at most 3 units for a millionth of a degree.
--   sine_rises   sine a ≤ sine b for a ≤ b up to 45 degrees
--   sine-step    sine (a + 1) ≤ sine a + 3 there
--   sine_of_45   at 45 degrees it is 70,710,678
-- Within a cell: where r grows by d, w grows by d at most, and S[k] is at most S[900-k] up to 45 degrees, so what is added to S[k] does not fall.
-- From a cell to the next: the last value of a cell is at most the next entry, and at most 3 below it, by a test that is computed over the table.
use Rattle.std.specs.Prelude.{◌≡◌, refl, Bool, ℕ, suc, ◌+◌, ◌-◌, ◌*◌, ◌/◌, ◌%◌, ◌≤◌, ◌<◌, min, T, leb, pos, ◌+ℤ◌, ◌≤ℤ◌}
use Rattle.std.proofs.Common.{sym, ◌∙◌, ap, subst, ⊎_elim, arith, mul-le-mul_left, mul-le-mul_right, eq-or-lt_of_le, leb→le}
use Rattle.rounding.specs.laws.Order.{zs}
use Rattle.rounding.proofs.laws.NearLaws.{near-pos}
use Rattle.sine_table.specs.Table.{S}
use Rattle.sine_table.specs.laws.TableLaws.{nearest, S-nearest, entry-small}
use Rattle.sine_table.specs.laws.Rising.{S_rises}
use Rattle.sine_table.specs.laws.Computed.{both, both_left, both_right, up_to, at_up_to}
use Rattle.sine.specs.FirstQuadrant.{arc, sag, first_quadrant}
use Rattle.sine.specs.laws.FirstQuadrantLaws.{Parts, first-is}
use Rattle.sine.specs.Sine.{sine}
use Rattle.sine.specs.laws.SineLaws.{either, sine-first}

-- ---- the rule in natural numbers: r, w and what is added to the entry s
abbrev r-of : ℕ → ℕ
r-of b = (2 * (b * 17_453_293) + 10_000_000) / 20_000_000

abbrev w_of : ℕ → ℕ
w_of r = (2 * (r * r) + 200_000_000) / 400_000_000

abbrev added : (s c r : ℕ) → ℕ
added s c r = (2 * (c * r - s * w_of r) + 100_000_000) / 200_000_000

-- the value at b millionths over k tenths
abbrev value : (k b : ℕ) → ℕ
value k b = S k + added (S k) (S (900 - k)) (r-of b)

first_formula : (a : ℕ) → a ≤ 90_000_000 → first_quadrant a ≡ pos (min (value (a / 100_000) (a % 100_000)) 100_000_000)
unfolding arc sag
first_formula a within =
    let b = a % 100_000 in
    let r = r-of b in
    let s = S (a / 100_000) in
    let c = S (900 - a / 100_000) in
    let p : Parts a r (w_of r) s c
    = record {
      r-is = sym (near-pos (b * 17_453_293) 10_000_000);
      w-is = sym (near-pos (r * r) 200_000_000);
      s-is = refl;
      c-is = refl;
    } in
    first-is within p (sym (near-pos (c * r - s * w_of r) 100_000_000))

-- ---- within a cell
module _ (r d : ℕ) (most : r + d ≤ 174_533) where
  square : (r + d) * (r + d) ≤ r * r + 523_599 * d
  square =
      let p : r * d ≤ 174_533 * d = mul-le-mul_right d (omega arith) in
      let q : d * d ≤ 174_533 * d = mul-le-mul_right d (omega arith) in
      omega arith

  w-slow : w_of (r + d) ≤ w_of r + d
  w-slow = omega (arith, square)

  w-grows : w_of r ≤ w_of (r + d)
  w-grows = omega arith

  module _ (s c : ℕ) where
    grows : s ≤ c → added s c r ≤ added s c (r + d)
    grows h =
        let p : s * w_of (r + d) ≤ s * (w_of r + d) = mul-le-mul_left s w-slow in
        let q : s * d ≤ c * d = mul-le-mul_right d h in
        let l : c * r - s * w_of r ≤ c * (r + d) - s * w_of (r + d) = omega arith in
        omega arith

    slow : c ≤ 100_000_000 → d ≤ 2 → added s c (r + d) ≤ added s c r + 2
    slow h e =
        let p : s * w_of r ≤ s * w_of (r + d) = mul-le-mul_left s w-grows in
        let q : c * d ≤ c * 2 = mul-le-mul_left c e in
        let l : c * (r + d) - s * w_of (r + d) ≤ c * r - s * w_of r + 200_000_000 = omega arith in
        omega arith

S_rises-≤ : (j k : ℕ) → j ≤ k → k ≤ 900 → S j ≤ S k
S_rises-≤ j k h l = ⊎_elim (λ (e : j ≡ k). omega (arith, ap S e)) (λ (i : j < k). omega (arith, S_rises j k i l)) (eq-or-lt_of_le h)

module _ (k b d : ℕ) (below : b + d < 100_000) (h : k ≤ 450) where
  abbrev more : ℕ
  more = r-of (b + d) - r-of b

  more-is : r-of b + more ≡ r-of (b + d)
  more-is = omega arith

  more-most : r-of b + more ≤ 174_533
  more-most = omega arith

  cell-rises : value k b ≤ value k (b + d)
  cell-rises =
      let g = grows (r-of b) more more-most (S k) (S (900 - k)) (S_rises-≤ k (900 - k) (omega arith) (omega arith)) in
      let e : added (S k) (S (900 - k)) (r-of b) ≤ added (S k) (S (900 - k)) (r-of (b + d))
      = subst (λ (x : ℕ). added (S k) (S (900 - k)) (r-of b) ≤ added (S k) (S (900 - k)) x) more-is g in
      omega (arith, e)

  cell-step : d ≤ 1 → value k (b + d) ≤ value k b + 2
  cell-step l =
      let g = slow (r-of b) more more-most (S k) (S (900 - k)) (entry-small (900 - k) (omega arith)) (omega arith) in
      let e : added (S k) (S (900 - k)) (r-of (b + d)) ≤ added (S k) (S (900 - k)) (r-of b) + 2
      = subst (λ (x : ℕ). added (S k) (S (900 - k)) x ≤ added (S k) (S (900 - k)) (r-of b) + 2) more-is g in
      omega (arith, e)

-- ---- from a cell to the next
abbrev last : ℕ → ℕ
last k = nearest k + added (nearest k) (nearest (900 - k)) (r-of 99_999)

unfoldable test_last : ℕ → Bool
unfolding nearest
test_last k = both (leb (last k) (nearest (suc k))) (leb (nearest (suc k)) (last k + 3))

all-last : T (up_to test_last 450)
unfolding test_last
all-last = tt

module _ (k : ℕ) (h : k < 450) where
  tested : T (both (leb (last k) (nearest (suc k))) (leb (nearest (suc k)) (last k + 3)))
  unfolding test_last
  tested = at_up_to test_last 450 all-last k h

  meets : value k 99_999 ≤ S (suc k)
  meets =
      rw (S-nearest k (omega arith), S-nearest (900 - k) (omega arith), S-nearest (suc k) (omega arith))
      (leb→le (last k) (nearest (suc k)) (both_left (leb (last k) (nearest (suc k))) (leb (nearest (suc k)) (last k + 3)) tested))

  next-step : S (suc k) ≤ value k 99_999 + 3
  next-step =
      rw (S-nearest k (omega arith), S-nearest (900 - k) (omega arith), S-nearest (suc k) (omega arith))
      (leb→le (nearest (suc k)) (last k + 3) (both_right (leb (last k) (nearest (suc k))) (leb (nearest (suc k)) (last k + 3)) tested))

-- ---- all angles up to 45 degrees
abbrev at : ℕ → ℕ
at a = value (a / 100_000) (a % 100_000)

rises : (a b : ℕ) → a ≤ b → b ≤ 45_000_000 → at a ≤ at b
rises a b h l =
    ⊎_elim (λ (e : a / 100_000 ≡ b / 100_000).
    let d = b % 100_000 - a % 100_000 in
    let s : a % 100_000 + d ≡ b % 100_000 = omega arith in
    let g = cell-rises (a / 100_000) (a % 100_000) d (omega arith) (omega arith) in
    let g2 : value (a / 100_000) (a % 100_000) ≤ value (a / 100_000) (b % 100_000) = subst (λ (x : ℕ). at a ≤ value (a / 100_000) x) s g in
    subst (λ (x : ℕ). at a ≤ value x (b % 100_000)) e g2)
    (λ (m : a / 100_000 < b / 100_000).
    let d = 99_999 - a % 100_000 in
    let s : a % 100_000 + d ≡ 99_999 = omega arith in
    let g = cell-rises (a / 100_000) (a % 100_000) d (omega arith) (omega arith) in
    let g2 : at a ≤ value (a / 100_000) 99_999 = subst (λ (x : ℕ). at a ≤ value (a / 100_000) x) s g in
    omega (arith, g2, meets (a / 100_000) (omega arith), S_rises-≤ (suc (a / 100_000)) (b / 100_000) m (omega arith)))
    (eq-or-lt_of_le order)
  where
    order : a / 100_000 ≤ b / 100_000
    order = omega arith

step : (a : ℕ) → a < 45_000_000 → at (suc a) ≤ at a + 3
step a l =
    ⊎_elim (λ (m : a % 100_000 < 99_999).
    let p : suc a / 100_000 ≡ a / 100_000 = omega arith in
    let q : suc a % 100_000 ≡ a % 100_000 + 1 = omega arith in
    rw (p, q) (omega (arith, cell-step (a / 100_000) (a % 100_000) 1 (omega arith) (omega arith) (omega arith))))
    (λ (m : 99_999 ≤ a % 100_000).
    let p : suc a / 100_000 ≡ suc (a / 100_000) = omega arith in
    let q : suc a % 100_000 ≡ 0 = omega arith in
    let s : a % 100_000 ≡ 99_999 = omega arith in
    rw (p, q, s) (omega (arith, next-step (a / 100_000) (omega arith), first-nothing (suc (a / 100_000)))))
    (either 99_999 (a % 100_000))
  where
    -- nothing is added at the start of a cell
    first-nothing : (k : ℕ) → value k 0 ≡ S k
    first-nothing k = omega arith

sine-at : (a : ℕ) → a ≤ 45_000_000 → sine (pos a) ≡ pos (min (at a) 100_000_000)
sine-at a h = sine-first a (omega arith) ∙ first_formula a (omega arith)

pub sine_rises : (a b : ℕ) → a ≤ b → b ≤ 45_000_000 → sine (pos a) ≤ℤ sine (pos b)
sine_rises a b h l = rw (sine-at a (omega arith), sine-at b l) (omega (arith, zs, rises a b h l))

pub sine-step : (a : ℕ) → a < 45_000_000 → sine (pos (suc a)) ≤ℤ (sine (pos a) +ℤ pos 3)
sine-step a l = rw (sine-at a (omega arith), sine-at (suc a) (omega arith)) (omega (arith, zs, step a l))

-- the ends
entry_450 : S 450 ≡ 70_710_678
unfolding nearest
entry_450 = S-nearest 450 (omega arith)

pub sine_of_45 : sine (pos 45_000_000) ≡ pos 70_710_678
sine_of_45 = sine-at 45_000_000 (omega arith) ∙ ap pos (omega (arith, entry_450))

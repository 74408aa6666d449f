-- What callers use of a window within its range.
--   window-holds, window-sizes, in-span       what the tests say
--   last-is, seconds_some, seconds-few         the last second by its number; at least one, at most 21,601 of them
--   second-low, second-high, second-size      the k-th second lies in the window, and so within 10,800
--   next-second, not_last                     the second after the k-th
--   each-length, each_at, each-is             a number for each second
use Rattle.std.specs.Prelude.{◌≡◌, refl, true, ◌&&◌, List, ℕ, zero, suc, ◌+◌, ◌≤◌, ◌<◌, ℤ, pos, neg_ℤ, nat_abs, ◌+ℤ◌, ◌-ℤ◌, length, get_or, ◌≤ℤ◌}
use Rattle.std.proofs.Common.{sym, ◌∙◌, ext_get_or}
use Rattle.std.proofs.Math.Path.{ap}
use native.Mathlib.Omega.{arith}
use Rattle.std.specs.Int.Signed.{le_z}
use Rattle.rounding.specs.Parts.{pos_p, neg_p, sum, opposite, same}
use Rattle.rounding.specs.laws.Order.{zs, ≤-parts, le_z_true, nat_abs_by, nat_abs_parts, nonneg, minus_nonneg}
use Rattle.rounding.specs.laws.Tests.{both}
use Rattle.requests.specs.declared.windows.Window.{Window}
use Rattle.requests.specs.Windows.{window_holds, in_span, InWindow, nth_second, second_count, list_of, each_second}

pub record WindowHolds (w : Window) : Type 0 where
  pub low : neg_ℤ (pos 10800) ≤ℤ w.first
  pub ordered : w.first ≤ℤ w.last
  pub high : w.last ≤ℤ pos 10800

pub window-holds : (w : Window) → window_holds w ≡ true → WindowHolds w
unfolding window_holds
window-holds w e =
    let p = both (le_z (neg_ℤ (pos 10800)) w.first) (le_z w.first w.last && le_z w.last (pos 10800)) e in
    let q = both (le_z w.first w.last) (le_z w.last (pos 10800)) p.1 in
    record {
      low = le_z_true (neg_ℤ (pos 10800)) w.first p.0;
      ordered = le_z_true w.first w.last q.0;
      high = le_z_true w.last (pos 10800) q.1;
    }

-- between -10,800 and 10,800
span-size : (τ : ℤ) → neg_ℤ (pos 10800) ≤ℤ τ → τ ≤ℤ pos 10800 → nat_abs τ ≤ 10800
span-size τ low high = nat_abs_by τ (omega (arith, ≤-parts high)) (omega (arith, ≤-parts low, (opposite (pos 10800)).is))

pub in-span : (τ : ℤ) → in_span τ ≡ true → nat_abs τ ≤ 10800
unfolding in_span
in-span τ e =
    let p = both (le_z (neg_ℤ (pos 10800)) τ) (le_z τ (pos 10800)) e in
    span-size τ (le_z_true (neg_ℤ (pos 10800)) τ p.0) (le_z_true τ (pos 10800) p.1)

-- it has a second
pub seconds_some : (w : Window) → 0 < second_count w
unfolding second_count
seconds_some w = omega arith

module _ (w : Window) (h : WindowHolds w) where
  -- how many seconds lie between the first and the last
  abbrev between : ℕ
  between = nat_abs (w.last -ℤ w.first)

  pub last-is : w.last ≡ nth_second w between
  last-is =
      let a = w.first in
      let b = w.last in
      same b (a +ℤ pos between)
      (omega (
        arith,
        nat_abs_parts (b -ℤ a),
        (sum b (neg_ℤ a)).is,
        (opposite a).is,
        (sum a (pos between)).is,
        ≤-parts h.ordered,
        nonneg (minus_nonneg {a = a} {b = b} h.ordered),
      ))

  pub seconds-few : second_count w ≤ 21601
  unfolding second_count
  seconds-few =
      omega (
        arith,
        ≤-parts h.low,
        ≤-parts h.high,
        ap pos_p last-is,
        ap neg_p last-is,
        (sum w.first (pos between)).is,
        (opposite (pos 10800)).is,
      )

  pub in-window-size : (τ : ℤ) → InWindow w τ → nat_abs τ ≤ 10800
  in-window-size τ i = span-size τ (omega (arith, zs, i.0, h.low)) (omega (arith, zs, i.1, h.high))

  pub window-sizes : (nat_abs w.first ≤ 10800) × (nat_abs w.last ≤ 10800)
  window-sizes = (
    in-window-size w.first (omega (arith, zs), h.ordered),
    in-window-size w.last (h.ordered, omega (arith, zs)),
  )

  -- a second of the window, by its number
  module _ (k : ℕ) (l : k < second_count w) where
    pub second-low : w.first ≤ℤ nth_second w k
    second-low = omega (arith, zs, (sum w.first (pos k)).is)

    pub second-high : nth_second w k ≤ℤ w.last
    unfolding second_count
    second-high = rw last-is (omega (arith, zs, (sum w.first (pos k)).is, (sum w.first (pos between)).is))

    pub second-in : InWindow w (nth_second w k)
    second-in = (second-low, second-high)

    pub second-size : nat_abs (nth_second w k) ≤ 10800
    second-size = in-window-size (nth_second w k) second-in

  pub low_second : (k : ℕ) → neg_ℤ (pos 10800) ≤ℤ nth_second w k
  low_second k = omega (arith, zs, (sum w.first (pos k)).is, h.low)

  pub next-second : (k : ℕ) → nth_second w k +ℤ pos 1 ≡ nth_second w (k + 1)
  next-second k =
      same (nth_second w k +ℤ pos 1) (nth_second w (k + 1))
      (omega (arith, (sum (nth_second w k) (pos 1)).is, (sum w.first (pos k)).is, (sum w.first (pos (k + 1))).is))

  -- a second before the last has a next one
  pub not_last : (k : ℕ) → (nth_second w k +ℤ pos 1) ≤ℤ w.last → k + 1 < second_count w
  unfolding second_count
  not_last k b =
      omega (
        arith,
        ≤-parts b,
        (sum (nth_second w k) (pos 1)).is,
        (sum w.first (pos k)).is,
        ap pos_p last-is,
        ap neg_p last-is,
        (sum w.first (pos between)).is,
      )

-- ---- a number for each second
list_length : (f : ℕ → ℕ) (n : ℕ) → length (list_of f n) ≡ n
list_length f zero = refl
list_length f (suc n) = ap suc (list_length (λ k. f (suc k)) n)

list_at : (f : ℕ → ℕ) (n k : ℕ) → k < n → get_or (list_of f n) k 0 ≡ f k
list_at f zero k h = absurd (omega arith)
list_at f (suc n) zero h = refl
list_at f (suc n) (suc k) h = list_at (λ j. f (suc j)) n k (omega arith)

module _ (w : Window) (f : ℤ → ℕ) where
  pub each-length : length (each_second w f) ≡ second_count w
  unfolding each_second
  each-length = list_length (λ k. f (nth_second w k)) (second_count w)

  pub each_at : (k : ℕ) → k < second_count w → get_or (each_second w f) k 0 ≡ f (nth_second w k)
  unfolding each_second
  each_at k h = list_at (λ k. f (nth_second w k)) (second_count w) k h

  -- the only list that has them
  pub each-is : (l : List ℕ) → length l ≡ second_count w → ((k : ℕ) → k < second_count w → get_or l k 0 ≡ f (nth_second w k)) → l ≡ each_second w f
  each-is l e h =
      ext_get_or 0 l (each_second w f) (e ∙ sym each-length)
      (λ k b. let j : k < second_count w = omega (arith, e) in h k j ∙ sym (each_at k j))

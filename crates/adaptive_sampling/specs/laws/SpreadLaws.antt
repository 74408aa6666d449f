-- The five seconds lie in the window, one after the other; their shadows, one more at a time.
use Rattle.std.specs.Prelude.{ℕ, ◌+◌, ◌-◌, ◌*◌, ◌/◌, ◌≤◌, ◌<◌, ◌≡◌, List, ℤ, nat_abs, length, get_or, set}
use Rattle.std.proofs.Common.{sym, ap, subst, ◌∙◌, ⊎_elim, arith, add-mul, mul-le-mul_right, eq-or-lt_of_le, get_or-set_same, get_or-set_other}
use Rattle.shadow.specs.declared.Sample.{Sample}
use Rattle.requests.specs.declared.Occultation.{Occultation}
use Rattle.exclusion_test.specs.Samples.{IsAt, square_at}
use Rattle.exclusion_test.specs.laws.Gaps.{sample_sizes}
use Rattle.adaptive_sampling.specs.Reach.{Seen}
use Rattle.adaptive_sampling.specs.Spread.{stop, blank, SpreadTo, Spread, Sized}

-- ---- the first and the last second of the window, and those between
pub stop-first : (n : ℕ) → stop n 0 ≡ 0
stop-first n = none (n - 1)
  where
    none : (m : ℕ) → 0 * m / 4 ≡ 0
    none m = omega arith

pub stop-last : (n : ℕ) → stop n 4 ≡ n - 1
stop-last n = omega arith

cut : (m k : ℕ) → k ≤ 4 → k * m / 4 ≤ m
cut m k h = omega (arith, mul-le-mul_right m h)

pub stop_in : (n k : ℕ) → 1 ≤ n → k ≤ 4 → stop n k < n
stop_in n k some h = omega (arith, cut (n - 1) k h)

-- each is after the one before
further : (m k : ℕ) → 4 ≤ m → k * m / 4 < (k + 1) * m / 4
further m k h = omega (arith, add-mul k 1 m)

pub stop_rises : (n k : ℕ) → 11 < n → stop n k < stop n (k + 1)
stop_rises n k h = further (n - 1) k (omega arith)

-- ---- the shadows

-- one more
pub spread-more : (o : Occultation) (n k : ℕ) (l : List Sample) (s : Sample) → k < length l → SpreadTo o n k l → IsAt o (stop n k) s → SpreadTo o n (k + 1) (set l k s)
spread-more o n k l s h g is i b = ⊎_elim same other (eq-or-lt_of_le below)
  where
    below : i ≤ k
    below = omega arith

    same : i ≡ k → IsAt o (stop n i) (get_or (set l k s) i blank)
    same e =
        subst (λ (j : ℕ). IsAt o (stop n j) (get_or (set l k s) j blank)) (sym e)
        (subst (λ (x : Sample). IsAt o (stop n k) x) (sym (get_or-set_same l k s blank h)) is)

    other : i < k → IsAt o (stop n i) (get_or (set l k s) i blank)
    other f =
        subst (λ (x : Sample). IsAt o (stop n i) x) (sym (get_or-set_other l k i s blank (λ (e : i ≡ k). omega arith))) (g i f)

pub spread_sized : (o : Occultation) (n : ℕ) (l : List Sample) → Spread o n l → Sized l
spread_sized o n l g k h = sample_sizes o (stop n k) (g k h)

-- one of them was seen
pub stop_seen : (o : Occultation) (n k : ℕ) (l : List Sample) → 1 ≤ n → Spread o n l → k < 5 → (m : ℤ) → m ≡ (get_or l k blank).m
    → Seen o n (record { second = stop n k; m = m })
unfolding square_at
stop_seen o n k l some s h m e =
    let i = s k h in
    record { small = stop_in n k some (omega arith); is = e ∙ i.m.value; size = omega (arith, ap nat_abs e, i.m.size) }

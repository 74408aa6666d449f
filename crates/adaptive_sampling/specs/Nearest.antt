-- The closest second, from the seconds that were computed and a distance that some second reaches.
--   nearest-start, nearest-new, nearest-same   the closest so far, from second to computed second
--   nearest-closest                            at the end it is the closest of all: "the second of smallest M, the earliest of equals"
use Rattle.std.specs.Prelude.{◌≡◌, ◌⊎◌, ℕ, ◌≤◌, ◌<◌, ℤ, ◌≤ℤ◌, ◌<ℤ◌}
use Rattle.std.proofs.Common.{sym, subst, inl, inr, ⊎_elim, arith, eq-or-lt_of_le}
use Rattle.std.specs.Int.Signed.{clash_ℤ}
use Rattle.rounding.specs.laws.Order.{zs, ≤ℤ_trans, ≤ℤ-<ℤ_trans, <ℤ-≤}
use Rattle.sine.specs.laws.SineLaws.{either}
use Rattle.seconds.specs.Closest.{IsClosest, closest_to}
use Rattle.seconds.specs.laws.ClosestLaws.{closest-is, closest-one}
use Rattle.exclusion_test.specs.laws.Gaps.{Later}

-- of the seconds 0 to i: each has more than `limit`, or no less than the least, and more if it is earlier
abbrev pub Each : (ℕ → ℤ) → ℤ → ℕ → ℤ → ℕ → Type 0
Each m limit best least τ = (limit <ℤ m τ) ⊎ ((least ≤ℤ m τ) × (τ < best → least <ℤ m τ))

pub record Nearest (m : ℕ → ℤ) (limit : ℤ) (i best : ℕ) (least : ℤ) : Type 0 where
  pub is : least ≡ m best
  pub small : best ≤ i
  pub each : (τ : ℕ) → τ ≤ i → Each m limit best least τ

module _ (m : ℕ → ℤ) (limit : ℤ) where
  pub nearest-start : (least : ℤ) → least ≡ m 0 → Nearest m limit 0 0 least
  nearest-start least e =
      record { is = e; small = omega arith; each = λ τ h. inr ((let z : τ ≡ 0 = omega arith in rw (z, e) (omega (arith, zs))), λ l. absurd (omega arith)) }

  -- a second is before, between or the later one
  split : (P : ℕ → Type 0) (i j : ℕ) → ((τ : ℕ) → τ ≤ i → P τ) → ((τ : ℕ) → i < τ → τ < j → P τ) → P j → (τ : ℕ) → τ ≤ j → P τ
  split P i j old gap new τ h =
      ⊎_elim (λ (e : τ ≡ j). subst P (sym e) new) (λ (l : τ < j). ⊎_elim (λ (a : i < τ). gap τ a l) (λ (b : τ ≤ i). old τ b) (either τ i)) (eq-or-lt_of_le h)

  below : {a b d : ℤ} → a <ℤ b → b ≤ℤ d → a <ℤ d
  below h k = omega (arith, zs)

  module _ {i best : ℕ} {least : ℤ} (g : Nearest m limit i best least) (j : ℕ) (h : i < j) (later : Later m limit i j) where
    pub nearest-new : (x : ℤ) → x ≡ m j → x <ℤ least → Nearest m limit j j x
    nearest-new x e l =
        record {
          is = e;
          small = omega arith;
          each = split (Each m limit j x) i j
              (λ τ p. ⊎_elim (λ (f : limit <ℤ m τ). inl f)
              (λ (f : (least ≤ℤ m τ) × (τ < best → least <ℤ m τ)). inr (<ℤ-≤ (below l f.0), λ _. below l f.0)) (g.each τ p))
              (λ τ a b. inl (later τ a b))
              (inr (rw e (omega (arith, zs)), λ z. absurd (omega arith)));
        }

    pub nearest-same : least ≤ℤ m j → Nearest m limit j best least
    nearest-same l =
        record {
          is = g.is;
          small = omega (arith, g.small);
          each = split (Each m limit best least) i j g.each (λ τ a b. inl (later τ a b)) (inr (l, λ z. absurd (omega (arith, g.small))));
        }

  -- a lower limit
  pub nearest-lower : (lower : ℤ) → lower ≤ℤ limit → {i best : ℕ} {least : ℤ} → Nearest m limit i best least → Nearest m lower i best least
  nearest-lower lower h {i} {best} {least} g =
      record {
        is = g.is;
        small = g.small;
        each = λ τ p. ⊎_elim (λ (f : limit <ℤ m τ). inl (≤ℤ-<ℤ_trans h f)) (λ (f : (least ≤ℤ m τ) × (τ < best → least <ℤ m τ)). inr f) (g.each τ p);
      }

  -- some second has at most `limit`
  pub nearest-closest : {n best : ℕ} {least : ℤ} → Nearest m limit n best least → (k : ℕ) → k ≤ n → m k ≤ℤ limit → best ≡ closest_to m n
  nearest-closest {n} {best} {least} g k h l = closest-one m n best (closest_to m n) here (closest-is m n)
    where
      under : least ≤ℤ limit
      under = ⊎_elim (λ (f : limit <ℤ m k). absurd (clash_ℤ f l)) (λ (f : (least ≤ℤ m k) × (k < best → least <ℤ m k)). ≤ℤ_trans f.0 l) (g.each k h)

      here : IsClosest m n best
      here =
          record {
            within = g.small;
            smallest = λ τ p. subst (λ (z : ℤ). z ≤ℤ m τ) g.is
                (⊎_elim (λ (f : limit <ℤ m τ). <ℤ-≤ (≤ℤ-<ℤ_trans under f)) (λ (f : (least ≤ℤ m τ) × (τ < best → least <ℤ m τ)). f.0) (g.each τ p));
            earliest = λ τ p. subst (λ (z : ℤ). z <ℤ m τ) g.is
                (⊎_elim (λ (f : limit <ℤ m τ). ≤ℤ-<ℤ_trans under f) (λ (f : (least ≤ℤ m τ) × (τ < best → least <ℤ m τ)). f.1 p) (g.each τ (omega (arith, g.small))));
          }

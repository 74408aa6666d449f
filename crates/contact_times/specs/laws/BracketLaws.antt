-- Laws of halving: more rounds than the distance change nothing (`halved-enough`); one round (`halved-up`,
-- `halved-down`, `halved-end`); and what is found (`halved_is`).
use Rattle.std.specs.Prelude.{◌≡◌, Bool}
use Rattle.std.proofs.Math.Path.{refl, sym, ap, subst}
use Rattle.std.proofs.Common.{◌∙◌}
use Rattle.std.proofs.Math.Bool.{true, false, cond}
use Prim.Native.Nat.{ℕ, zero, suc, ◌+◌, ◌-◌, ◌/◌, ◌≤◌, ◌<◌}
use native.Mathlib.Omega.{arith}
use Rattle.std.proofs.Math.Dec.{ltb}
use borrow.Author.Tests.{ltb-true, ltb-false, lt-ltb, le-ltb}
use Rattle.sheet_types.specs.States.{State, inside, outside, unsure, code}
use Rattle.contact_times.specs.Brackets.{halved}

pub code_small : (s : State) → code s ≤ 2
code_small inside = omega arith
code_small outside = omega arith
code_small unsure = omega arith

module _ (f : ℕ → Bool) where
  pub halved-end : (n low high : ℕ) → high ≤ low + 1 → halved n f low high ≡ low
  unfolding halved
  halved-end zero low high h = refl
  halved-end (suc n) low high h = rw (le-ltb (low + 1) high h)

  -- any number of rounds from high - low on
  pub halved-enough : (n m low high : ℕ) → high ≤ low + n → high ≤ low + m → halved n f low high ≡ halved m f low high
  unfolding halved
  halved-enough zero m low high h k = sym (halved-end m low high (omega arith))
  halved-enough (suc n) zero low high h k = halved-end (suc n) low high (omega arith)
  halved-enough (suc n) (suc m) low high h k =
      go (ltb (low + 1) high) (f ((low + high) / 2)) refl
      (λ i. halved-enough n m ((low + high) / 2) high (omega (arith, i)) (omega (arith, i)))
      (λ i. halved-enough n m low ((low + high) / 2) (omega (arith, i)) (omega (arith, i)))
    where
      go : (b d : Bool) → ltb (low + 1) high ≡ b
          → (low + 1 < high → halved n f ((low + high) / 2) high ≡ halved m f ((low + high) / 2) high)
          → (low + 1 < high → halved n f low ((low + high) / 2) ≡ halved m f low ((low + high) / 2))
          → cond b (cond d (halved n f ((low + high) / 2) high) (halved n f low ((low + high) / 2))) low
          ≡ cond b (cond d (halved m f ((low + high) / 2) high) (halved m f low ((low + high) / 2))) low
      go false d e up down = refl
      go true true e up down = up (ltb-true (low + 1) high e)
      go true false e up down = down (ltb-true (low + 1) high e)

  module _ (low high : ℕ) (h : low + 1 < high) where
    abbrev middle : ℕ
    middle = (low + high) / 2

    round : halved (high - low) f low high ≡ cond (f middle) (halved (high - low - 1) f middle high) (halved (high - low - 1) f low middle)
    unfolding halved
    round =
        let e : high - low ≡ suc (high - low - 1) = omega arith in
        ap (λ (k : ℕ). halved k f low high) e ∙ rw (lt-ltb (low + 1) high h)

    pub halved-up : f middle ≡ true → halved (high - low) f low high ≡ halved (high - middle) f middle high
    halved-up e = round ∙ rw e (halved-enough (high - low - 1) (high - middle) middle high (omega arith) (omega arith))

    pub halved-down : f middle ≡ false → halved (high - low) f low high ≡ halved (middle - low) f low middle
    halved-down e = round ∙ rw e (halved-enough (high - low - 1) (middle - low) low middle (omega arith) (omega arith))

  -- f holds at what is found, and not at the next
  pub record Last (low high r : ℕ) : Type 0 where
    pub least : low ≤ r
    pub most : r < high
    pub holds : f r ≡ true
    pub next : f (r + 1) ≡ false

  pub halved_is : (n low high : ℕ) → low < high → high ≤ low + n → f low ≡ true → f high ≡ false → Last low high (halved n f low high)
  unfolding halved
  halved_is zero low high a h t e = absurd (omega arith)
  halved_is (suc n) low high a h t e =
      go (ltb (low + 1) high) (f ((low + high) / 2)) refl refl
      (λ i g. halved_is n ((low + high) / 2) high (omega (arith, i)) (omega (arith, i)) g e)
      (λ i g. halved_is n low ((low + high) / 2) (omega (arith, i)) (omega (arith, i)) t g)
    where
      go : (b d : Bool) → ltb (low + 1) high ≡ b → f ((low + high) / 2) ≡ d
          → (low + 1 < high → f ((low + high) / 2) ≡ true → Last ((low + high) / 2) high (halved n f ((low + high) / 2) high))
          → (low + 1 < high → f ((low + high) / 2) ≡ false → Last low ((low + high) / 2) (halved n f low ((low + high) / 2)))
          → Last low high (cond b (cond d (halved n f ((low + high) / 2) high) (halved n f low ((low + high) / 2))) low)
      go false d b g up down =
          let near : high ≡ low + 1 = omega (arith, ltb-false (low + 1) high b) in
          record { least = omega arith; most = a; holds = t; next = subst (λ (k : ℕ). f k ≡ false) near e }
      go true true b g up down =
          let i = ltb-true (low + 1) high b in
          let r = up i g in
          record { least = omega (arith, i, r.least); most = r.most; holds = r.holds; next = r.next }
      go true false b g up down =
          let i = ltb-true (low + 1) high b in
          let r = down i g in
          record { least = r.least; most = omega (arith, i, r.most); holds = r.holds; next = r.next }

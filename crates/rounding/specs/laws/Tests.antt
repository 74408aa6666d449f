-- Laws of tests: of whole numbers whose answer is known, and joined by "and".
use Rattle.std.specs.Prelude.{◌≡◌, refl, Bool, true, false, ◌&&◌, ℤ, ◌≤ℤ◌, ◌<ℤ◌}
use Rattle.std.proofs.Common.{ap, ap₂}
use Rattle.std.specs.Int.Signed.{lt_z, le_z, clash_ℤ}
use Rattle.rounding.specs.laws.Order.{le_z_true, le_z_false, lt_z_true, lt_z_false, both_ways}

pub distinct : true ≡ false → ⊥
distinct e = both_ways refl e

pub is_true : {b : Bool} → (b ≡ false → ⊥) → b ≡ true
is_true {b = true} h = refl
is_true {b = false} h = absurd (h refl)

pub is_false : {b : Bool} → (b ≡ true → ⊥) → b ≡ false
is_false {b = true} h = absurd (h refl)
is_false {b = false} h = refl

module _ {a b : ℤ} where
  pub yes-≤ : a ≤ℤ b → le_z a b ≡ true
  yes-≤ h = is_true (λ e. clash_ℤ (le_z_false a b e) h)

  pub no-≤ : b <ℤ a → le_z a b ≡ false
  no-≤ h = is_false (λ e. clash_ℤ h (le_z_true a b e))

  pub yes-< : a <ℤ b → lt_z a b ≡ true
  yes-< h = is_true (λ e. clash_ℤ h (lt_z_false a b e))

  pub no-< : b ≤ℤ a → lt_z a b ≡ false
  no-< h = is_false (λ e. clash_ℤ (lt_z_true a b e) h)

pub together : {a b : Bool} → a ≡ true → b ≡ true → (a && b) ≡ true
together ea eb = ap₂ ◌&&◌ ea eb

pub not_left : {a : Bool} (b : Bool) → a ≡ false → (a && b) ≡ false
not_left b e = ap (λ (t : Bool). t && b) e

pub not_right : (a : Bool) {b : Bool} → b ≡ false → (a && b) ≡ false
not_right true e = e
not_right false e = refl

pub both : (a b : Bool) → (a && b) ≡ true → (a ≡ true) × (b ≡ true)
both true b e = (refl, e)
both false b e = absurd (both_ways e refl)

-- The order of ℤ by the parts of its numbers, both ways, and what follows.
use Rattle.std.specs.Prelude.{◌≡◌, refl, Bool, true, false, not, ◌⊎◌, ℕ, zero, suc, ◌+◌, ◌*◌, ◌/◌, ◌≤◌, ◌<◌, ℤ, pos, negsuc, neg_ℤ, nat_abs, ◌+ℤ◌, ◌-ℤ◌, ◌*ℤ◌, ◌≤ℤ◌, ◌<ℤ◌, T, leb}
use Rattle.std.proofs.Common.{sym, ◌∙◌, ap, subst, inl, inr, ⊎_elim, arith, mul-le-mul, leb-true, leb-false, SFits, leb→le, le→leb, ltb→lt, lt→ltb}
use Rattle.std.specs.Int.Signed.{mag, le_z, lt_z, lt_z_no, quot_z}
use Rattle.std.specs.Int.{w64}
use Rattle.rounding.specs.Parts.{pos_p, neg_p, sum, opposite, same}

-- y ≤ z in ℤ says p + m ≤ q + n in ℕ, where y is p − n and z is q − m
down : (y z : ℤ) → T (le_z y z) → pos_p y + neg_p z ≤ pos_p z + neg_p y
down (pos a) (pos b) t = omega (arith, leb→le a b t)
down (pos a) (negsuc b) t = absurd t
down (negsuc a) (pos b) t = omega arith
down (negsuc a) (negsuc b) t = omega (arith, leb→le b a t)

up : (y z : ℤ) → pos_p y + neg_p z ≤ pos_p z + neg_p y → T (le_z y z)
up (pos a) (pos b) h = le→leb a b (omega arith)
up (pos a) (negsuc b) h = absurd (omega arith)
up (negsuc a) (pos b) h = tt
up (negsuc a) (negsuc b) h = le→leb b a (omega arith)

down< : (y z : ℤ) → T (lt_z y z) → pos_p y + neg_p z < pos_p z + neg_p y
down< (pos a) (pos b) t = omega (arith, ltb→lt a b t)
down< (pos a) (negsuc b) t = absurd t
down< (negsuc a) (pos b) t = omega arith
down< (negsuc a) (negsuc b) t = omega (arith, ltb→lt b a t)

up< : (y z : ℤ) → pos_p y + neg_p z < pos_p z + neg_p y → T (lt_z y z)
up< (pos a) (pos b) h = lt→ltb a b (omega arith)
up< (pos a) (negsuc b) h = absurd (omega arith)
up< (negsuc a) (pos b) h = tt
up< (negsuc a) (negsuc b) h = lt→ltb b a (omega arith)

pub ≤-parts : {y z : ℤ} → y ≤ℤ z → pos_p y + neg_p z ≤ pos_p z + neg_p y
≤-parts {y} {z} h = down y z h.le

pub <-parts : {y z : ℤ} → y <ℤ z → pos_p y + neg_p z < pos_p z + neg_p y
<-parts {y} {z} h = down< y z h.lt

pub ≡-parts : {y z : ℤ} → y ≡ z → pos_p y + neg_p z ≡ pos_p z + neg_p y
≡-parts {y} {z} e = omega (arith, ap pos_p e, ap neg_p e)

pub parts-≤ : {y z : ℤ} → pos_p y + neg_p z ≤ pos_p z + neg_p y → y ≤ℤ z
parts-≤ {y} {z} h = record { le = up y z h }

pub parts-< : {y z : ℤ} → pos_p y + neg_p z < pos_p z + neg_p y → y <ℤ z
parts-< {y} {z} h = record { lt = up< y z h }

-- ---- the laws
pub ≤ℤ_antisym : {a b : ℤ} → a ≤ℤ b → b ≤ℤ a → a ≡ b
≤ℤ_antisym {a} {b} h k = same a b (omega (arith, ≤-parts h, ≤-parts k))

pub ≤ℤ_trans : {a b c : ℤ} → a ≤ℤ b → b ≤ℤ c → a ≤ℤ c
≤ℤ_trans h k = parts-≤ (omega (arith, ≤-parts h, ≤-parts k))

pub <ℤ-≤ : {a b : ℤ} → a <ℤ b → a ≤ℤ b
<ℤ-≤ h = parts-≤ (omega (arith, <-parts h))

pub ≤ℤ_refl : (a : ℤ) → a ≤ℤ a
≤ℤ_refl a = parts-≤ (omega arith)

pub ≤ℤ-<ℤ_trans : {a b c : ℤ} → a ≤ℤ b → b <ℤ c → a <ℤ c
≤ℤ-<ℤ_trans h k = parts-< (omega (arith, ≤-parts h, <-parts k))

pub ≤ℤ_total : (a b : ℤ) → (a ≤ℤ b) ⊎ (b <ℤ a)
≤ℤ_total a b = go (leb (pos_p a + neg_p b) (pos_p b + neg_p a)) refl
  where
    go : (t : Bool) → leb (pos_p a + neg_p b) (pos_p b + neg_p a) ≡ t → (a ≤ℤ b) ⊎ (b <ℤ a)
    go true e = inl (parts-≤ (omega (arith, leb-true (pos_p a + neg_p b) (pos_p b + neg_p a) e)))
    go false e = inr (parts-< (omega (arith, leb-false (pos_p a + neg_p b) (pos_p b + neg_p a) e)))

-- a ≤ b where b < a is absurd
pub by_contra : (a b : ℤ) → (b <ℤ a → ⊥) → a ≤ℤ b
by_contra a b f = ⊎_elim (λ h. h) (λ (h : b <ℤ a). absurd (f h)) (≤ℤ_total a b)

-- a < b where b ≤ a is absurd
pub by_contra-< : (a b : ℤ) → (b ≤ℤ a → ⊥) → a <ℤ b
by_contra-< a b f = ⊎_elim (λ (h : b ≤ℤ a). absurd (f h)) (λ h. h) (≤ℤ_total b a)

pub negℤ_mono : {a b : ℤ} → a ≤ℤ b → neg_ℤ b ≤ℤ neg_ℤ a
negℤ_mono {a} {b} h = parts-≤ (omega (arith, ≤-parts h, (opposite a).is, (opposite b).is))

-- 0 ≤ a says that a is a natural number
pub nonneg : {a : ℤ} → pos 0 ≤ℤ a → neg_p a ≡ 0
nonneg {a = pos n} h = refl
nonneg {a = negsuc n} h = absurd h.le

pub nonneg_nat_abs : (z : ℤ) → pos 0 ≤ℤ z → z ≡ pos (nat_abs z)
nonneg_nat_abs (pos n) h = refl
nonneg_nat_abs (negsuc n) h = absurd h.le

-- z ≤ n says that z's part above 0 is at most n
pub pos-part : (z : ℤ) (n : ℕ) → z ≤ℤ pos n → pos_p z ≤ n
pos-part (pos a) n h = omega (arith, ≤-parts h)
pos-part (negsuc a) n h = omega arith

pub *ℤ_nonneg : {a b : ℤ} → pos 0 ≤ℤ a → pos 0 ≤ℤ b → pos 0 ≤ℤ (a *ℤ b)
*ℤ_nonneg {a = pos m} {b = pos n} h k = parts-≤ (omega arith)
*ℤ_nonneg {a = pos m} {b = negsuc n} h k = absurd k.le
*ℤ_nonneg {a = negsuc m} {b} h k = absurd h.le

pub +ℤ_nonneg : {a b : ℤ} → pos 0 ≤ℤ a → pos 0 ≤ℤ b → pos 0 ≤ℤ (a +ℤ b)
+ℤ_nonneg {a} {b} h k = parts-≤ (omega (arith, ≤-parts h, ≤-parts k, (sum a b).is))

pub square_nonneg : (a : ℤ) → pos 0 ≤ℤ (a *ℤ a)
square_nonneg (pos n) = parts-≤ (omega arith)
square_nonneg (negsuc n) = parts-≤ (omega arith)

-- a ≤ b and 0 ≤ b − a
pub minus_nonneg : {a b : ℤ} → a ≤ℤ b → pos 0 ≤ℤ (b -ℤ a)
minus_nonneg {a} {b} h = parts-≤ (omega (arith, ≤-parts h, (sum b (neg_ℤ a)).is, (opposite a).is))

pub nonneg_minus : {a b : ℤ} → pos 0 ≤ℤ (b -ℤ a) → a ≤ℤ b
nonneg_minus {a} {b} h = parts-≤ (omega (arith, ≤-parts h, (sum b (neg_ℤ a)).is, (opposite a).is))

-- ---- nat_abs
pub nat_abs_parts : (z : ℤ) → nat_abs z ≡ pos_p z + neg_p z
nat_abs_parts (pos n) = omega arith
nat_abs_parts (negsuc n) = omega arith

pub nat_abs_by : (z : ℤ) {m : ℕ} → pos_p z ≤ m + neg_p z → neg_p z ≤ m + pos_p z → nat_abs z ≤ m
nat_abs_by (pos n) h k = omega arith
nat_abs_by (negsuc n) h k = omega arith

-- |z| ≤ m says −m ≤ z ≤ m
pub nat_abs_le : (z : ℤ) {m : ℕ} → neg_ℤ (pos m) ≤ℤ z → z ≤ℤ pos m → nat_abs z ≤ m
nat_abs_le z {m} h k = nat_abs_by z (omega (arith, ≤-parts k)) (omega (arith, ≤-parts h, (opposite (pos m)).is))

-- between two numbers that are not negative
pub nat_abs_between : (z : ℤ) (low : ℕ) {high : ℕ} → pos low ≤ℤ z → z ≤ℤ pos high → nat_abs z ≤ high
nat_abs_between (pos n) low h k = omega (arith, ≤-parts k)
nat_abs_between (negsuc n) low h k = absurd h.le

pub le_nat_abs : (z : ℤ) {m : ℕ} → nat_abs z ≤ m → z ≤ℤ pos m
le_nat_abs z {m} h = parts-≤ (omega (arith, nat_abs_parts z))

pub neg_nat_abs : (z : ℤ) {m : ℕ} → nat_abs z ≤ m → neg_ℤ (pos m) ≤ℤ z
neg_nat_abs z {m} h = parts-≤ (omega (arith, nat_abs_parts z, (opposite (pos m)).is))

pub nat_abs_sum : (y z : ℤ) → nat_abs (y +ℤ z) ≤ nat_abs y + nat_abs z
nat_abs_sum y z =
    nat_abs_by (y +ℤ z) (omega (arith, (sum y z).is, nat_abs_parts y, nat_abs_parts z)) (omega (arith, (sum y z).is, nat_abs_parts y, nat_abs_parts z))

pub nat_abs_opposite : (z : ℤ) → nat_abs (neg_ℤ z) ≡ nat_abs z
nat_abs_opposite (pos zero) = refl
nat_abs_opposite (pos (suc n)) = refl
nat_abs_opposite (negsuc n) = refl

pub nat_abs_minus : (y z : ℤ) → nat_abs (y -ℤ z) ≤ nat_abs y + nat_abs z
nat_abs_minus y z = omega (arith, nat_abs_sum y (neg_ℤ z), nat_abs_opposite z)

pub nat_abs_product : (y z : ℤ) → nat_abs (y *ℤ z) ≡ nat_abs y * nat_abs z
nat_abs_product (pos a) (pos b) = refl
nat_abs_product (pos a) (negsuc b) = nat_abs_opposite (pos (a * suc b))
nat_abs_product (negsuc a) (pos b) = nat_abs_opposite (pos (suc a * b))
nat_abs_product (negsuc a) (negsuc b) = refl

pub square_nat_abs : (z : ℤ) → z *ℤ z ≡ pos (nat_abs z * nat_abs z)
square_nat_abs (pos n) = refl
square_nat_abs (negsuc n) = refl

pub nat_abs_quot : (y z : ℤ) → nat_abs (quot_z y z) ≡ nat_abs y / nat_abs z
nat_abs_quot (pos a) (pos b) = refl
nat_abs_quot (pos a) (negsuc b) = nat_abs_opposite (pos (a / suc b))
nat_abs_quot (negsuc a) (pos b) = nat_abs_opposite (pos (suc a / b))
nat_abs_quot (negsuc a) (negsuc b) = refl

-- ---- what an i64 holds
pub mag_nat_abs : (z : ℤ) → mag z ≤ nat_abs z
mag_nat_abs (pos n) = omega arith
mag_nat_abs (negsuc n) = omega arith

pub fits64 : (z : ℤ) → nat_abs z ≤ 9223372036854775807 → SFits w64 z
fits64 z h = record { sfits = omega (arith, mag_nat_abs z) }

pub fits64_nat_abs : {z : ℤ} → SFits w64 z → nat_abs z ≤ 9223372036854775808
fits64_nat_abs {z = pos n} h = omega (arith, h.sfits)
fits64_nat_abs {z = negsuc n} h = omega (arith, h.sfits)

pub nat_abs_product_le : (y z : ℤ) (A B : ℕ) → nat_abs y ≤ A → nat_abs z ≤ B → nat_abs (y *ℤ z) ≤ A * B
nat_abs_product_le y z A B h k = omega (arith, nat_abs_product y z, mul-le-mul h k)

-- for omega's list: orders and equations of ℤ in reach are read, and a goal that is one is turned
pub ruleset zs = (≤-parts, <-parts, ≡-parts, parts-≤, parts-<)

-- ---- an i64's division and tests
pub lt_z_true : (a b : ℤ) → lt_z a b ≡ true → a <ℤ b
lt_z_true a b e = record { lt = subst (λ (t : Bool). T t) (sym e) tt }

pub lt_z_false : (a b : ℤ) → lt_z a b ≡ false → b ≤ℤ a
lt_z_false a b e = lt_z_no (subst (λ (t : Bool). T (not t)) (sym e) tt)

pub le_z_true : (a b : ℤ) → le_z a b ≡ true → a ≤ℤ b
le_z_true a b e = record { le = subst (λ (t : Bool). T t) (sym e) tt }

pub le_z_false : (a b : ℤ) → le_z a b ≡ false → b <ℤ a
le_z_false a b e = ⊎_elim (λ (h : a ≤ℤ b). absurd (subst (λ (t : Bool). T t) e h.le)) (λ h. h) (≤ℤ_total a b)

pub both_ways : {b : Bool} → b ≡ true → b ≡ false → ⊥
both_ways p q = subst (λ (t : Bool). T t) (sym p ∙ q) tt

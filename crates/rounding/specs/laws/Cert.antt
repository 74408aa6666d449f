-- Orders of ℤ. Two ways to show a ≤ b of two expressions:
--   `certify`: a multiple of b − a is a sum of products of facts that are at least 0, which `ring`'s computation checks;
--   `prove-≤`: both sides written out in naturals, for omega to find the proof.
use Rattle.std.specs.Prelude.{◌≡◌, List, ℕ, suc, ◌+◌, ◌*◌, ◌≤◌, ℤ, pos, negsuc, ◌-ℤ◌, ◌*ℤ◌, ◌≤ℤ◌, ◌<ℤ◌}
use Rattle.std.proofs.Common.{sym, subst, arith}
use Rattle.rounding.specs.Parts.{pos_p, neg_p, Is, is_self, is_sum, is_minus, is-opposite, is-product}
use Rattle.rounding.specs.laws.Order.{≤-parts, <-parts, ≡-parts, parts-≤, parts-<, *ℤ_nonneg, +ℤ_nonneg, square_nonneg, minus_nonneg, nonneg_minus}
use Rattle.rounding.specs.laws.Ring.{Expr, var, con, num, ◌⊕◌, ◌⊖◌, ◌⊗◌, opp, at, eval, Vanishes, ring}

-- ---- certificates
infixl 60 ◌⊞◌
infixl 70 ◌⊠◌
-- why an expression is at least 0
pub data Nonneg (env : List ℤ) : Expr → Type 0 where
  fact : (a : Expr) → pos 0 ≤ℤ eval env a → Nonneg env a
  leq : (a b : Expr) → eval env a ≤ℤ eval env b → Nonneg env (b ⊖ a)
  less : (a b : Expr) → eval env a <ℤ eval env b → Nonneg env (b ⊖ a ⊖ con (pos 1))
  equ : (a b : Expr) → eval env a ≡ eval env b → Nonneg env (b ⊖ a)
  lit : (n : ℕ) → Nonneg env (con (pos n))
  sq : (a : Expr) → Nonneg env (a ⊗ a)
  ◌⊞◌ : {a b : Expr} → Nonneg env a → Nonneg env b → Nonneg env (a ⊕ b)
  ◌⊠◌ : {a b : Expr} → Nonneg env a → Nonneg env b → Nonneg env (a ⊗ b)

equal-≤ : {y z : ℤ} → y ≡ z → y ≤ℤ z
equal-≤ h = parts-≤ (omega (arith, ≡-parts h))

less_nonneg : {y z : ℤ} → y <ℤ z → pos 0 ≤ℤ (z -ℤ y -ℤ pos 1)
less_nonneg {y} {z} h = parts-≤ (omega (arith, <-parts h, (is_minus (is_minus (is_self z) (is_self y)) (is_self (pos 1))).is))

nonneg_less : {y z : ℤ} → pos 0 ≤ℤ (z -ℤ y -ℤ pos 1) → y <ℤ z
nonneg_less {y} {z} h = parts-< (omega (arith, ≤-parts h, (is_minus (is_minus (is_self z) (is_self y)) (is_self (pos 1))).is))

pub holds : {env : List ℤ} {e : Expr} → Nonneg env e → pos 0 ≤ℤ eval env e
holds (fact a h) = h
holds (leq a b h) = minus_nonneg h
holds (less a b h) = less_nonneg h
holds (equ a b h) = minus_nonneg (equal-≤ h)
holds (lit n) = parts-≤ (omega arith)
holds {env} (sq a) = square_nonneg (eval env a)
holds (p ⊞ q) = +ℤ_nonneg (holds p) (holds q)
holds (p ⊠ q) = *ℤ_nonneg (holds p) (holds q)

unscale : (k : ℕ) (z : ℤ) → pos 0 ≤ℤ (pos (suc k) *ℤ z) → pos 0 ≤ℤ z
unscale k (pos n) h = parts-≤ (omega arith)
unscale k (negsuc n) h = absurd (omega (arith, ≤-parts h, (is-product (is_self (pos (suc k))) (is_self (negsuc n))).is))

-- (k + 1)·(b − a) is the sum p
pub certify : (k : ℕ) (env : List ℤ) (a b : Expr) {e : Expr} → Nonneg env e → Vanishes env (num (suc k) ⊗ (b ⊖ a) ⊖ e) → eval env a ≤ℤ eval env b
certify k env a b {e} p t =
    nonneg_minus (unscale k (eval env (b ⊖ a)) (subst (λ (z : ℤ). pos 0 ≤ℤ z) (sym (ring env (num (suc k) ⊗ (b ⊖ a)) e t)) (holds p)))

-- (k + 1)·(b − a − 1) is the sum p
pub certify-< : (k : ℕ) (env : List ℤ) (a b : Expr) {e : Expr} → Nonneg env e → Vanishes env (num (suc k) ⊗ (b ⊖ a ⊖ num 1) ⊖ e) → eval env a <ℤ eval env b
certify-< k env a b {e} p t =
    nonneg_less (unscale k (eval env (b ⊖ a ⊖ num 1)) (subst (λ (z : ℤ). pos 0 ≤ℤ z) (sym (ring env (num (suc k) ⊗ (b ⊖ a ⊖ num 1)) e t)) (holds p)))

-- ---- in naturals
abbrev mutual
  pub P : List ℤ → Expr → ℕ
  P env (var i) = pos_p (at env i)
  P env (con c) = pos_p c
  P env (a ⊕ b) = P env a + P env b
  P env (a ⊖ b) = P env a + N env b
  P env (a ⊗ b) = P env a * P env b + N env a * N env b
  P env (opp a) = N env a

  pub N : List ℤ → Expr → ℕ
  N env (var i) = neg_p (at env i)
  N env (con c) = neg_p c
  N env (a ⊕ b) = N env a + N env b
  N env (a ⊖ b) = N env a + P env b
  N env (a ⊗ b) = P env a * N env b + N env a * P env b
  N env (opp a) = P env a

pub is-eval : (env : List ℤ) (e : Expr) → Is (eval env e) (P env e) (N env e)
is-eval env (var i) = is_self (at env i)
is-eval env (con c) = is_self c
is-eval env (a ⊕ b) = is_sum (is-eval env a) (is-eval env b)
is-eval env (a ⊖ b) = is_minus (is-eval env a) (is-eval env b)
is-eval env (a ⊗ b) = is-product (is-eval env a) (is-eval env b)
is-eval env (opp a) = is-opposite (is-eval env a)

module _ (env : List ℤ) (a b : Expr) where
  pub prove-≤ : P env a + N env b ≤ P env b + N env a → eval env a ≤ℤ eval env b
  prove-≤ h = parts-≤ (omega (arith, (is-eval env a).is, (is-eval env b).is))

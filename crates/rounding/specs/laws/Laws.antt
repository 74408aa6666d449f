-- The laws of + and * on ℤ that lib.IntN lacks, each by its parts: a product of sums of naturals is omega's.
use Rattle.std.specs.Prelude.{◌≡◌, ℤ, pos, neg_ℤ, ◌+ℤ◌, ◌*ℤ◌}
use Rattle.std.proofs.Common.{arith}
use Rattle.rounding.specs.Parts.{is_self, is_same, is_sum, is-opposite, is-product}

pub *ℤ_assoc : (a b c : ℤ) → (a *ℤ b) *ℤ c ≡ a *ℤ (b *ℤ c)
*ℤ_assoc a b c =
    is_same (is-product (is-product (is_self a) (is_self b)) (is_self c)) (is-product (is_self a) (is-product (is_self b) (is_self c))) (omega arith)

pub *ℤ-+ℤ : (a b c : ℤ) → a *ℤ (b +ℤ c) ≡ a *ℤ b +ℤ a *ℤ c
*ℤ-+ℤ a b c =
    is_same (is-product (is_self a) (is_sum (is_self b) (is_self c)))
    (is_sum (is-product (is_self a) (is_self b)) (is-product (is_self a) (is_self c))) (omega arith)

pub +ℤ-*ℤ : (a b c : ℤ) → (a +ℤ b) *ℤ c ≡ a *ℤ c +ℤ b *ℤ c
+ℤ-*ℤ a b c =
    is_same (is-product (is_sum (is_self a) (is_self b)) (is_self c))
    (is_sum (is-product (is_self a) (is_self c)) (is-product (is_self b) (is_self c))) (omega arith)

pub *ℤ_negℤ : (a b : ℤ) → a *ℤ neg_ℤ b ≡ neg_ℤ (a *ℤ b)
*ℤ_negℤ a b = is_same (is-product (is_self a) (is-opposite (is_self b))) (is-opposite (is-product (is_self a) (is_self b))) (omega arith)

pub +ℤ_swap : (a b c d : ℤ) → (a +ℤ b) +ℤ (c +ℤ d) ≡ (a +ℤ c) +ℤ (b +ℤ d)
+ℤ_swap a b c d =
    is_same (is_sum (is_sum (is_self a) (is_self b)) (is_sum (is_self c) (is_self d)))
    (is_sum (is_sum (is_self a) (is_self c)) (is_sum (is_self b) (is_self d))) (omega arith)

pub *ℤ_left : (a b c : ℤ) → a *ℤ (b *ℤ c) ≡ b *ℤ (a *ℤ c)
*ℤ_left a b c =
    is_same (is-product (is_self a) (is-product (is_self b) (is_self c))) (is-product (is_self b) (is-product (is_self a) (is_self c))) (omega arith)

pub one-*ℤ : (a : ℤ) → pos 1 *ℤ a ≡ a
one-*ℤ a = is_same (is-product (is_self (pos 1)) (is_self a)) (is_self a) (omega arith)

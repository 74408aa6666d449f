-- A rule at each number below a limit, proved by one test that is computed.
use Rattle.std.proofs.Common.{sym, subst, ⊎_elim, le_of_suc-le-suc, not-suc-le-zero, eq-or-lt_of_le}
use Rattle.std.specs.Prelude.{Bool, true, false, ℕ, zero, suc, ◌<◌, T}

abbrev pub both : Bool → Bool → Bool
both true b = b
both false b = false

pub both_left : (a b : Bool) → T (both a b) → T a
both_left true b t = tt
both_left false b t = t

pub both_right : (a b : Bool) → T (both a b) → T b
both_right true b t = t
both_right false b t = absurd t

-- the test f passes at each number below n
abbrev pub up_to : (ℕ → Bool) → ℕ → Bool
up_to f zero = true
up_to f (suc n) = both (f n) (up_to f n)

pub at_up_to : (f : ℕ → Bool) (n : ℕ) → T (up_to f n) → (k : ℕ) → k < n → T (f k)
at_up_to f zero t k h = absurd (not-suc-le-zero h)
at_up_to f (suc n) t k h =
    ⊎_elim (λ e. subst (λ (m : ℕ). T (f m)) (sym e) (both_left (f n) (up_to f n) t))
    (λ (l : k < n). at_up_to f n (both_right (f n) (up_to f n) t) k l) (eq-or-lt_of_le (le_of_suc-le-suc h))

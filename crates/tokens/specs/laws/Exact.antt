-- A value is exact: its units, and its digits as one number, are the same value.
use Rattle.std.specs.Prelude.{◌≡◌, refl, Bool, true, false, List, [], ◌∷◌, ℕ, zero, suc, ◌*◌, ◌^◌, length, drop}
use Rattle.std.proofs.Common.{sym, ap, ◌∙◌, mul_assoc, mul_comm, mul-one, pow-suc, arith, eq-eqb, eqb-true}
use Rattle.std.proofs.Math.Nat.{pow-zero}
use Rattle.std.proofs.Math.Seq.{drop-nil}
use Rattle.tokens.specs.declared.Class.TheVariants as C
use Rattle.tokens.specs.Text.{is_in, run_of, all_of}
use Rattle.tokens.specs.laws.TextLaws.{run_in, run_out}
use Rattle.tokens.specs.Numbers.{digit_after, appended, unsigned, wholes, decimals, is_whole, amount}
use Rattle.tokens.specs.laws.NumberLaws.{appended-step, appended-none}

-- a text of zeros begins with one, and zeros follow
record Zeros (x : ℕ) (s : List ℕ) : Type 0 where
  first : x ≡ 48
  rest : all_of C.Zero s ≡ true

zeros : (x : ℕ) (s : List ℕ) → all_of C.Zero (x ∷ s) ≡ true → Zeros x s
zeros x s e = by (is_in C.Zero x) refl
  where
    run : run_of C.Zero (x ∷ s) ≡ length (x ∷ s)
    run = eqb-true (run_of C.Zero (x ∷ s)) (length (x ∷ s)) e

    by : (b : Bool) → is_in C.Zero x ≡ b → Zeros x s
    by true q = let r = run_in C.Zero x s q in record { first = eqb-true x 48 q; rest = eq-eqb (run_of C.Zero s) (length s) (omega (arith, run)) }
    by false q = let r = run_out C.Zero x s q in absurd (omega (arith, run))

-- zeros written after a number
zeros_after : (s : List ℕ) (n : ℕ) → all_of C.Zero s ≡ true → appended n (length s) s ≡ n * 10 ^ length s
zeros_after [] n e = appended-none n [] ∙ sym (ap (λ (k : ℕ). n * k) (pow-zero 10) ∙ mul-one n)
zeros_after (x ∷ s) n e =
    let z = zeros x s e in
    appended-step (length s) n (x ∷ s)
    ∙ zeros_after s (digit_after n x) z.rest
    ∙ ap (λ (k : ℕ). k * 10 ^ length s) (digit z.first)
    ∙ mul_assoc n 10 (10 ^ length s)
    ∙ ap (λ (k : ℕ). n * k) (mul_comm 10 (10 ^ length s) ∙ sym (pow-suc 10 (length s)))
  where
    digit : x ≡ 48 → digit_after n x ≡ n * 10
    digit h = omega arith

-- the first digits of a text, where those after them are 0, are the whole text with the point moved
moved : (places n : ℕ) (s : List ℕ) → all_of C.Zero (drop places s) ≡ true → appended n places s * 10 ^ length s ≡ appended n (length s) s * 10 ^ places
moved zero n s e =
    ap (λ (k : ℕ). k * 10 ^ length s) (appended-none n s) ∙ sym (zeros_after s n e)
    ∙ sym (ap (λ (k : ℕ). appended n (length s) s * k) (pow-zero 10) ∙ mul-one (appended n (length s) s))
moved (suc p) n [] e =
    ap (λ (k : ℕ). k * 10 ^ 0) (appended-step p n []) ∙ moved p (digit_after n 48) [] (rw (drop-nil p) e)
    ∙ ap (λ (k : ℕ). k * 10 ^ p) (appended-none (digit_after n 48) [] ∙ ten)
    ∙ mul_assoc n 10 (10 ^ p)
    ∙ ap (λ (k : ℕ). n * k) (mul_comm 10 (10 ^ p) ∙ sym (pow-suc 10 p))
    ∙ ap (λ (k : ℕ). k * 10 ^ suc p) (sym (appended-none n []))
  where
    ten : digit_after n 48 ≡ n * 10
    ten = omega arith
moved (suc p) n (x ∷ s) e =
    let m = digit_after n x in
    ap (λ (k : ℕ). k * 10 ^ suc (length s)) (appended-step p n (x ∷ s))
    ∙ ap (λ (k : ℕ). appended m p s * k) (pow-suc 10 (length s))
    ∙ sym (mul_assoc (appended m p s) (10 ^ length s) 10)
    ∙ ap (λ (k : ℕ). k * 10) (moved p m s e)
    ∙ mul_assoc (appended m (length s) s) (10 ^ p) 10
    ∙ ap (λ (k : ℕ). appended m (length s) s * k) (sym (pow-suc 10 p))
    ∙ ap (λ (k : ℕ). k * 10 ^ suc p) (sym (appended-step (length s) n (x ∷ s)))

-- all digits of a word as one number, as if it had no point
abbrev pub digits_of : List ℕ → ℕ
digits_of w = appended (appended 0 (wholes w) (unsigned w)) (length (decimals w)) (decimals w)

-- "exact in whole units": the units over 10^places are the digits over 10^decimals
pub amount-exact : (places : ℕ) (w : List ℕ) → is_whole places w ≡ true → amount places w * 10 ^ length (decimals w) ≡ digits_of w * 10 ^ places
unfolding amount is_whole
amount-exact places w e = moved places (appended 0 (wholes w) (unsigned w)) (decimals w) e

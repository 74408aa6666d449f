-- `request_text::with_sign` meets its contract: a number of 32 bits fits 64 with its sign.
use mathlib.Core.Path.{◌≡◌, refl, sym, ap, ◌∙◌}
use mathlib.Core.List.{[], ◌∷◌}
use Prim.Native.Nat.{ℕ, zero, suc, ◌≤◌}
use native.Mathlib.Omega.{arith}
use borrow.Author.Rules.{rules}
use borrow.Author.Tests.{le-leb}
use lib.IntN.{ℤ, pos, negsuc, neg_ℤ, ◌-ℤ◌}
use Rattle.rounding.specs.laws.Code.{Code, arg, lit, sub, Within, raw, ends, ◌▹◌, fits, runs, count-is, count-size}
use Rattle.request_text.specs.laws.LineLaws.{sign_minus, sign_none}
use Rattle.request_text.proofs.with_sign.Statement.{statement}
use Rattle.request_text.proofs.with_sign.Tie as tie

-- the number, as it stands in 64 bits
bounds : (n : ℕ) → n ≤ 4294967296 → Within (raw n ∷ []) (4294967296 ∷ [])
bounds n h = count-size n h tt ▹ ends

minus_is : (k : ℕ) → pos 0 -ℤ pos k ≡ neg_ℤ (pos k)
minus_is zero = refl
minus_is (suc k) = rw (le-leb 1 (suc k) (omega arith)) (ap negsuc (omega arith))

abbrev minus : Code
minus = sub (lit (pos 0)) (arg 0)

returns : tie.Need-returns-then-minus-eq1
returns c =
    let n = c.args.n in
    runs (bounds n c.requires) minus tt ∙ ap (λ (z : ℤ). pos 0 -ℤ z) (count-is n c.requires tt) ∙ minus_is n ∙ sym (sign_minus _ n c.if-minus-eq1.true)

returns-2 : tie.Need-returns
returns-2 c = let n = c.args.n in count-is n c.requires tt ∙ sym (sign_none _ n c.if-minus-eq1.false)

pub with_sign_spec : {M : Type 1} → statement M
with_sign_spec = tie.close (tie.spec (λ c. search rules) (λ c. fits (bounds _ c.requires) minus tt) returns returns-2)

-- `sheet_codec::decoder::put_numbers` meets its contract. Five stores are `sets` of the five numbers.
use lib.ListN.{length-set}
use Prim.Native.Nat.{ℕ, suc, ◌+◌}
use mathlib.Core.Path.{◌≡◌}
use native.Mathlib.Numerals.{add-one, add-two, add-three}
use native.Mathlib.Omega.{arith}
use borrow.Author.Rules.{rules}
use Rattle.sheet_codec.proofs.decoder.put_numbers.Statement.{statement}
use Rattle.sheet_codec.proofs.decoder.put_numbers.Tie as tie

add-four : (n : ℕ) → n + 4 ≡ suc (suc (suc (suc n)))
add-four n = omega arith

returns : tie.Need-returns
returns c = simp (add-one, add-two, add-three, add-four)

pub put_numbers_spec : {M : Type 1} → statement M
put_numbers_spec =
    tie.close
    (tie.spec (λ c. search rules) (λ c. search rules) (λ c. search rules) (λ c. search rules)
    (λ c. simp length-set (omega arith)) (λ c. search rules) (λ c. search rules)
    (λ c. simp length-set (omega arith)) (λ c. search rules) (λ c. search rules)
    (λ c. simp length-set (omega arith)) (λ c. search rules) (λ c. search rules)
    (λ c. simp length-set (omega arith)) (λ c. search rules) returns)

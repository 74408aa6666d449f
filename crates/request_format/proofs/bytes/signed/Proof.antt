-- `request_format::bytes::signed` meets its contract: below half the number is itself; from half on the difference is
-- taken, and both numbers have at most 32 bits.
use mathlib.Core.Path.{sym, ap₂, ◌∙◌}
use mathlib.Core.List.{[], ◌∷◌}
use Prim.Native.Nat.{◌≤◌}
use native.Mathlib.Omega.{arith}
use borrow.Author.Rules.{rules}
use lib.IntN.{ℤ, pos, ◌-ℤ◌, ◌*ℤ◌}
use Rattle.rounding.specs.laws.Code.{Code, arg, lit, sub, mul, Within, raw, ends, ◌▹◌, fits, runs, count-is, count-size}
use Rattle.request_format.specs.laws.NumberLaws.{signed_below, signed_above}
use Rattle.request_format.proofs.bytes.signed.Statement.{statement}
use Rattle.request_format.proofs.bytes.signed.Tie as tie

module _ (c : tie.Else-n-half) where
  n-size : c.args.n ≤ 4294967295
  n-size = omega arith

  half-size : c.args.half ≤ 4294967295
  half-size = omega arith

  bounds : Within (raw c.args.n ∷ raw c.args.half ∷ []) (4294967295 ∷ 4294967295 ∷ [])
  bounds = count-size c.args.n n-size tt ▹ count-size c.args.half half-size tt ▹ ends

abbrev twice : Code
twice = mul (lit (pos 2)) (arg 1)

returns : tie.Need-returns-then-n-half
returns c =
    let n = c.args.n in
    let h : n ≤ 4294967295 = omega arith in
    count-is n h tt ∙ sym (signed_below c.args.half n c.if-n-half.true)

returns-2 : tie.Need-returns
returns-2 c =
    let n = c.args.n in
    let half = c.args.half in
    runs (bounds c) (sub (arg 0) twice) tt
    ∙ ap₂ (λ (x y : ℤ). x -ℤ (pos 2 *ℤ y)) (count-is n (n-size c) tt) (count-is half (half-size c) tt)
    ∙ sym (signed_above half n c.if-n-half.false)

pub signed_spec : {M : Type 1} → statement M
signed_spec = tie.close (tie.spec (λ c. search rules) returns (λ c. search rules) (λ c. fits (bounds c) twice tt) (λ c. fits (bounds c) (sub (arg 0) twice) tt) returns-2)

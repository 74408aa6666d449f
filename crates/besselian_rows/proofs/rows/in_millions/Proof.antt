-- `besselian_rows::rows::in_millions` meets its contract: (10^5 h + l)² is 10^10 h² + 2·10^5 h l + l², and whole millions
-- stay apart from the rounding.
use mathlib.Core.Path.{◌≡◌}
use Prim.Native.Nat.{ℕ, ◌+◌, ◌*◌, ◌/◌, ◌%◌, ◌≤◌}
use native.Mathlib.Omega.{arith}
use native.Mathlib.Nat.{mul-le-mul}
use Rattle.besselian_rows.specs.Rounded.{millions}
use Rattle.besselian_rows.proofs.rows.in_millions.Statement.{statement}
use Rattle.besselian_rows.proofs.rows.in_millions.Tie as tie

squared : (S h l : ℕ) → S ≡ 100000 * h + l → S * S ≡ 10000000000 * (h * h) + (200000 * (h * l) + l * l)
squared S h l e = rw e (omega arith)

module _ (S : ℕ) (h : S ≤ 10957300000) where
  abbrev high : ℕ
  high = S / 100000

  abbrev low : ℕ
  low = S % 100000

  whole_small : high * high ≤ 12006242329
  whole_small = omega (arith, mul-le-mul {n₁ = high} {m₁ = high} {n₂ = 109573} {m₂ = 109573} (omega arith) (omega arith))

  cross-small : high * low ≤ 10957190427
  cross-small = omega (arith, mul-le-mul {n₁ = high} {m₁ = low} {n₂ = 109573} {m₂ = 99999} (omega arith) (omega arith))

  rest-small : low * low ≤ 9999800001
  rest-small = omega (arith, mul-le-mul {n₁ = low} {m₁ = low} {n₂ = 99999} {m₂ = 99999} (omega arith) (omega arith))

  square : S * S ≡ 10000000000 * (high * high) + (200000 * (high * low) + low * low)
  square = squared S high low (omega arith)

  is-millions : 10000 * (high * high) + (200000 * (high * low) + low * low + 500000) / 1000000 ≡ millions S
  unfolding millions
  is-millions = omega (arith, square)

pub in_millions_spec : {M : Type 1} → statement M
in_millions_spec =
    tie.close
    (tie.spec (λ c. record { fits = omega (arith, whole_small c.args.radii c.requires) })
    (λ c. record { fits = omega (arith, cross-small c.args.radii c.requires) })
    (λ c. record { fits = omega (arith, rest-small c.args.radii c.requires) })
    (λ c. record { fits = omega (arith, whole_small c.args.radii c.requires) })
    (λ c. record { fits = omega (arith, cross-small c.args.radii c.requires) })
    (λ c. record { fits = omega (arith, cross-small c.args.radii c.requires, rest-small c.args.radii c.requires) })
    (λ c. record { fits = omega (arith, cross-small c.args.radii c.requires, rest-small c.args.radii c.requires) })
    (λ c. record { fits = omega (arith, whole_small c.args.radii c.requires, cross-small c.args.radii c.requires, rest-small c.args.radii c.requires) })
    (λ c. is-millions c.args.radii c.requires))

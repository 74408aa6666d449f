-- "reading it back gives the same unit": a whole unit as a double, by one rounded division, is read back as the same
-- unit, for every scale up to 2^53 and every unit below 2^51 in size. Why: QuotientLaws.
use Rattle.std.specs.Prelude.{◌≡◌, Bool, true, false, ℕ, suc, ◌^◌, ◌≤◌, ◌<◌, T, ℤ, pos, negsuc, nat_abs, Float}
use Rattle.std.proofs.Common.{sym, subst, arith, le→leb, lt→ltb}
use Rattle.std.specs.Float.{binary64}
use Rattle.std.specs.Float.Ieee.{round, div, of_int, in_float}
use Rattle.std.specs.Float.Ieee.Back.{round_whole}
use Rattle.binary64.specs.Doubles.{double_of, ReadsBack}
use Rattle.binary64.proofs.laws.QuotientLaws.{div_value, round-back}

-- a quotient of whole numbers as doubles
divided : (s : Bool) (n S : ℕ) → 0 < S → S ≤ 2 ^ 53 → n < 2 ^ 51 → div binary64 (round binary64 s n 1) (round binary64 false S 1) ≡ round binary64 s n S
divided s n S S0 S1 h =
    div_value (round binary64 s n 1) (round binary64 false S 1) s n S S0 (round_whole binary64 s n (omega arith)) (round_whole binary64 false S S1)

pub reads_back : (scale : ℕ) (u : ℤ) → 0 < scale → scale ≤ 2 ^ 53 → nat_abs u < 2 ^ 51 → ReadsBack scale u (double_of scale u)
unfolding of_int
reads_back S (pos n) S0 S1 h =
    subst (λ (x : Float). ReadsBack S (pos n) x) (sym (divided false n S S0 S1 h)) (round-back false n S S0 S1 h)
reads_back S (negsuc n) S0 S1 h =
    subst (λ (x : Float). ReadsBack S (negsuc n) x) (sym (divided true (suc n) S S0 S1 h)) (round-back true (suc n) S S0 S1 h)

-- what the casts ask: up to 2^53 every whole number is a double
pub in-float : (z : ℤ) → nat_abs z ≤ 2 ^ 53 → T (in_float binary64 z)
unfolding in_float
in-float (pos n) h = le→leb n (2 ^ 53) (omega arith)
in-float (negsuc n) h = lt→ltb n (2 ^ 53) (omega arith)

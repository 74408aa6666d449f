-- `horizon::altitudes::altitude` meets its contract: where a is below 0, -1 - a is counted instead, whose largest is
-- one less than the smallest that is meant.
use mathlib.Core.Path.{◌≡◌, sym, ap, ◌∙◌}
use mathlib.Core.List.{[], ◌∷◌}
use Prim.Native.Nat.{ℕ, suc, ◌≤◌}
use native.Mathlib.Omega.{arith}
use lib.IntN.{ℤ, pos, negsuc, neg_ℤ, nat_abs, ◌-ℤ◌}
use lib.Signed.{◌≤ℤ◌, ◌<ℤ◌}
use Rattle.rounding.specs.Parts.{sum, opposite}
use Rattle.rounding.specs.laws.Order.{zs, ≤ℤ_antisym, fits64}
use Rattle.rounding.specs.laws.Code.{Code, arg, lit, sub, Within, whole, raw, ends, ◌▹◌, fits, runs, unsigned, taken-<, left-<, count-is, count-size, read_back}
use Rattle.sine_table.specs.Table.{S}
use Rattle.horizon.specs.Altitude.{largest_under, altitude}
use Rattle.horizon.specs.laws.AltitudeLaws.{largest-le, smallest_next}
use Rattle.horizon.proofs.altitudes.altitude.Statement.{statement}
use Rattle.horizon.proofs.altitudes.altitude.Tie as tie

bounds : (c : tie.Start) → Within (whole c.args.a ∷ []) (100000000 ∷ [])
bounds c = c.requires.1 ▹ ends

-- -1 - a
abbrev mirrored : Code
mirrored = sub (lit (negsuc 0)) (arg 0)

mirrored-above : (a : ℤ) → a <ℤ pos 0 → pos 0 ≤ℤ (negsuc 0 -ℤ a)
mirrored-above a h = omega (arith, zs, (sum (negsuc 0) (neg_ℤ a)).is, (opposite a).is)

under-zero : (c : tie.Then-a-lt0) → c.args.a <ℤ pos 0
under-zero c = taken-< (bounds c.before.before) (arg 0) (lit (pos 0)) tt c.if-a-lt0.true

over_zero : (c : tie.Else-a-lt0) → pos 0 ≤ℤ c.args.a
over_zero c = left-< (bounds c.before.before) (arg 0) (lit (pos 0)) tt c.if-a-lt0.false

-- ---- the two cases of the rule
next : (k : ℕ) → negsuc 0 -ℤ pos k ≡ neg_ℤ (pos (suc k))
next k =
    let s = (sum (negsuc 0) (neg_ℤ (pos k))).is in
    let o = (opposite (pos k)).is in
    ≤ℤ_antisym (omega (arith, zs, s, o)) (omega (arith, zs, s, o))

counted : (a : ℕ) → negsuc 0 -ℤ negsuc a ≡ pos a
counted a =
    let s = (sum (negsuc 0) (neg_ℤ (negsuc a))).is in
    ≤ℤ_antisym (omega (arith, zs, s)) (omega (arith, zs, s))

below : (a : ℤ) (n k : ℕ) → a <ℤ pos 0 → nat_abs a ≤ 100000000 → n ≡ nat_abs (negsuc 0 -ℤ a) → k ≡ largest_under S n 900 → negsuc 0 -ℤ pos k ≡ altitude S a
unfolding altitude
below (pos a) n k h s e f = absurd (omega (arith, zs))
below (negsuc a) n k h s e f =
    let m : n ≡ a = e ∙ ap nat_abs (counted a) in
    next k ∙ sym (ap (λ (j : ℕ). neg_ℤ (pos j)) (smallest_next a (omega arith) ∙ ap suc (sym (f ∙ ap (λ (j : ℕ). largest_under S j 900) m))))

above : (a : ℤ) (k : ℕ) → pos 0 ≤ℤ a → k ≡ largest_under S (nat_abs a) 900 → pos k ≡ altitude S a
unfolding altitude
above (pos a) k h e = ap pos e
above (negsuc a) k h e = absurd (omega (arith, zs))

few : (n : ℕ) {k : ℕ} → k ≡ largest_under S n 900 → k ≤ 900
few n e = omega (arith, e, largest-le S n 900)

-- ---- below 0
sub-largest-under : tie.Need-overflow_sub-a
sub-largest-under c = fits (bounds c.before.before) mirrored tt

cast-largest-under : tie.Need-overflow_cast-a
cast-largest-under c = unsigned (bounds c.before.before) mirrored tt (mirrored-above c.args.a (under-zero c))

cast-result : tie.Need-overflow_cast-result
cast-result c = fits64 (pos c.largest_under-under.result) (omega (arith, few _ c.largest_under-under.ensures))

found : (c : tie.After-largest_under-under) → Within (raw c.largest_under-under.result ∷ []) (900 ∷ [])
found c = count-size c.largest_under-under.result (few _ c.largest_under-under.ensures) tt ▹ ends

sub-result : tie.Need-overflow_sub-result
sub-result c = fits (found c) (sub (lit (negsuc 0)) (arg 0)) tt

returns : tie.Need-returns-then-a-lt0
returns c =
    let k = c.largest_under-under.result in
    let b = c.before.before.before in
    runs (found c) (sub (lit (negsuc 0)) (arg 0)) tt
    ∙ ap (λ (z : ℤ). negsuc 0 -ℤ z) (count-is k {m = 900} (few _ c.largest_under-under.ensures) tt)
    ∙ below b.args.a _ k (under-zero c.before) b.requires.1 (ap nat_abs (runs (bounds b) mirrored tt)) c.largest_under-under.ensures

-- ---- not below 0
cast-largest-under-2 : tie.Need-overflow_cast-a-2
cast-largest-under-2 c = unsigned (bounds c.before.before) (arg 0) tt (over_zero c)

cast-result-2 : tie.Need-overflow_cast-result-2
cast-result-2 c = fits64 (pos c.largest_under-under-2.result) (omega (arith, few _ c.largest_under-under-2.ensures))

returns-2 : tie.Need-returns
returns-2 c =
    let k = c.largest_under-under-2.result in
    let b = c.before.before.before in
    count-is k {m = 900} (few _ c.largest_under-under-2.ensures) tt
    ∙ above b.args.a k (over_zero c.before)
    (c.largest_under-under-2.ensures ∙ ap (λ (z : ℤ). largest_under S (nat_abs z) 900) (read_back b.args.a b.requires.1 tt))

pub altitude_spec : {M : Type 1} → statement M
altitude_spec =
    tie.close
    (tie.spec sub-largest-under cast-largest-under (λ c κs. c.requires.0) cast-result sub-result
    returns cast-largest-under-2 (λ c κs. c.requires.0) cast-result-2 returns-2)

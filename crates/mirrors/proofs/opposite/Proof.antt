-- `mirrors::opposite` meets its contract: outside of -most and most the number stays.
use mathlib.Core.Path.{◌≡◌, sym, ◌∙◌}
use mathlib.Core.List.{[], ◌∷◌}
use Prim.Native.Nat.{◌≤◌, ◌<◌}
use native.Mathlib.Omega.{arith}
use lib.IntN.{ℤ, pos, negsuc, neg_ℤ, nat_abs, ◌-ℤ◌}
use lib.Signed.{◌≤ℤ◌, ◌<ℤ◌}
use mir.Syntax.{w64}
use mir.Val.{SFits}
use mir.ValLaws.{to_z-of_z}
use Rattle.rounding.specs.Parts.{sum, opposite as parts, same}
use Rattle.rounding.specs.laws.Order.{zs, nat_abs_parts, nat_abs_by, lt_z_true, lt_z_false, nonneg}
use Rattle.rounding.specs.laws.Code.{arg, lit, sub, Within, whole, ends, ◌▹◌, fits, runs}
use Rattle.requests.specs.laws.MirrorLaws.{opposite-is, opposite-keeps}
use Rattle.mirrors.proofs.opposite.Statement.{statement}
use Rattle.mirrors.proofs.opposite.Tie as tie

-- what is not negative has its opposite in 64 bits
small : (m : ℤ) → pos 0 ≤ℤ m → SFits w64 m → nat_abs m ≤ 9223372036854775807
small (pos n) h f = omega (arith, f)
small (negsuc n) h f = absurd h.le

module _ (n most : ℤ) (h : pos 0 ≤ℤ most) where
  too-low : n <ℤ (pos 0 -ℤ most) → nat_abs most < nat_abs n
  too-low l = omega (arith, zs, (sum (pos 0) (neg_ℤ most)).is, (parts most).is, nat_abs_parts n, nat_abs_parts most, nonneg h)

  too-high : most <ℤ n → nat_abs most < nat_abs n
  too-high l = omega (arith, zs, nat_abs_parts n, nat_abs_parts most, nonneg h)

  between : (pos 0 -ℤ most) ≤ℤ n → n ≤ℤ most → nat_abs n ≤ nat_abs most
  between l u = nat_abs_by n (omega (arith, zs, nat_abs_parts most, nonneg h)) (omega (arith, zs, (sum (pos 0) (neg_ℤ most)).is, (parts most).is, nat_abs_parts most, nonneg h))

minus : (n : ℤ) → pos 0 -ℤ n ≡ neg_ℤ n
minus n = same (pos 0 -ℤ n) (neg_ℤ n) (omega (arith, (sum (pos 0) (neg_ℤ n)).is))

module _ (c : tie.Start) where
  abbrev n : ℤ
  n = c.args.n

  abbrev most : ℤ
  most = c.args.most

  bounds : Within (whole most ∷ []) (9223372036854775807 ∷ [])
  bounds = small most c.requires c.ranges.most ▹ ends

sub-if1 : tie.Need-overflow_sub-most
sub-if1 c = fits (bounds c) (sub (lit (pos 0)) (arg 0)) tt

returns : tie.Need-returns-then-n-most
returns c =
    let s = c.before in
    let l = lt_z_true (n s) (pos 0 -ℤ most s) (rw (to_z-of_z w64 (n s) s.ranges.n, runs (bounds s) (sub (lit (pos 0)) (arg 0)) tt) at c.if-n-most.true) in
    to_z-of_z w64 (n s) s.ranges.n ∙ sym (opposite-keeps (nat_abs (most s)) (n s) (too-low (n s) (most s) s.requires l))

returns-2 : tie.Need-returns-then-most-n
returns-2 c =
    let s = c.before.before in
    let l = lt_z_true (most s) (n s) (rw (to_z-of_z w64 (n s) s.ranges.n, to_z-of_z w64 (most s) s.ranges.most) at c.if-most-n.true) in
    to_z-of_z w64 (n s) s.ranges.n ∙ sym (opposite-keeps (nat_abs (most s)) (n s) (too-high (n s) (most s) s.requires l))

inside : (c : tie.Else-most-n) → nat_abs (n c.before.before) ≤ nat_abs (most c.before.before)
inside c =
    let s = c.before.before in
    let l = lt_z_false (n s) (pos 0 -ℤ most s) (rw (to_z-of_z w64 (n s) s.ranges.n, runs (bounds s) (sub (lit (pos 0)) (arg 0)) tt) at c.if-n-most.false) in
    let u = lt_z_false (most s) (n s) (rw (to_z-of_z w64 (n s) s.ranges.n, to_z-of_z w64 (most s) s.ranges.most) at c.if-most-n.false) in
    between (n s) (most s) s.requires l u

inside-bounds : (c : tie.Else-most-n) → Within (whole (n c.before.before) ∷ []) (9223372036854775807 ∷ [])
inside-bounds c =
    let s = c.before.before in
    let l : nat_abs (n s) ≤ 9223372036854775807 = omega (arith, inside c, small (most s) s.requires s.ranges.most) in
    l ▹ ends

sub-result : tie.Need-overflow_sub-result
sub-result c = fits (inside-bounds c) (sub (lit (pos 0)) (arg 0)) tt

returns-3 : tie.Need-returns
returns-3 c =
    let s = c.before.before in
    runs (inside-bounds c) (sub (lit (pos 0)) (arg 0)) tt ∙ minus (n s) ∙ sym (opposite-is (nat_abs (most s)) (n s) (inside c))

pub opposite_spec : {M : Type 1} → statement M
opposite_spec = tie.close (tie.spec sub-if1 returns returns-2 sub-result returns-3)

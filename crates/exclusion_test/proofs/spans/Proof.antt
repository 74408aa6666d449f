-- `exclusion_test::spans` meets its contract: r is at most twice its half s, so s² < a b is more than is asked.
-- Assumes nothing.
use mathlib.Core.List.{[], ◌∷◌}
use mathlib.Core.Bool.{false≢true}
use mathlib.Core.Logic.{inl, inr}
use lib.IntN.{ℤ, pos, ◌+ℤ◌, ◌-ℤ◌, ◌*ℤ◌}
use lib.Signed.{◌≤ℤ◌, ◌<ℤ◌}
use Rattle.rounding.specs.laws.Ring.{num, ◌⊕◌, ◌⊖◌, ◌⊗◌, v0, v1, v2, v3}
use Rattle.rounding.specs.laws.Cert.{leq, less, lit, ◌⊞◌, ◌⊠◌, certify, certify-<}
use Rattle.rounding.specs.laws.Code as K
use Rattle.rounding.specs.laws.Code.{Code, arg, sub, mul, Within, whole, ends, ◌▹◌, fits, runs, within, taken-<, left-<}
use Rattle.exclusion_test.proofs.spans.Statement.{statement}
use Rattle.exclusion_test.proofs.spans.Tie as tie

bounds : (c : tie.Start) → Within (whole c.args.a ∷ whole c.args.b ∷ whole c.args.q ∷ []) (2100000000 ∷ 2100000000 ∷ 204120001 ∷ [])
bounds c = c.requires.0 ▹ c.requires.1 ▹ c.requires.2 ▹ ends

abbrev R : Code
R = sub (sub (arg 2) (arg 0)) (arg 1)

wide : (a b q : ℤ) → (q -ℤ a -ℤ b) <ℤ pos 1 → q ≤ℤ (a +ℤ b)
wide a b q h = certify 0 (a ∷ b ∷ q ∷ []) v2 (v0 ⊕ v1) (less (v2 ⊖ v0 ⊖ v1) (num 1) h) tt

narrow : (a b q s : ℤ) → pos 1 ≤ℤ (q -ℤ a -ℤ b) → (q -ℤ a -ℤ b) ≤ℤ (pos 2 *ℤ s) → (s *ℤ s) <ℤ (a *ℤ b) → ((q -ℤ a -ℤ b) *ℤ (q -ℤ a -ℤ b)) <ℤ (pos 4 *ℤ (a *ℤ b))
narrow a b q s h l g =
    let e = a ∷ b ∷ q ∷ s ∷ [] in
    let r = v2 ⊖ v0 ⊖ v1 in
    let d = leq r (num 2 ⊗ v3) l in
    certify-< 0 e (r ⊗ r) (num 4 ⊗ (v0 ⊗ v1)) (lit 4 ⊠ less (v3 ⊗ v3) (v0 ⊗ v1) g ⊞ lit 3 ⊞ d ⊠ (d ⊞ lit 2 ⊠ (leq (num 1) r h ⊞ lit 1))) tt

returns : tie.Need-returns-then-a-lt1
returns c = λ t. absurd (false≢true t)

returns-2 : tie.Need-returns-then-b-lt1
returns-2 c = λ t. absurd (false≢true t)

sub-r : tie.Need-overflow_sub-r
sub-r c = fits (bounds c.before.before) (sub (arg 2) (arg 0)) tt

returns-3 : tie.Need-returns-then-r-lt1
returns-3 c = λ t.
    let s = c.before.before.before in
    let w = bounds s in
    record {
      first = left-< w (arg 0) (K.lit (pos 1)) tt c.if-a-lt1.false;
      second = left-< w (arg 1) (K.lit (pos 1)) tt c.if-b-lt1.false;
      spans = inl (wide s.args.a s.args.b s.args.q (taken-< w R (K.lit (pos 1)) tt c.if-r-lt1.true));
    }

half-requires : tie.Need-half-s-requires
half-requires c κs =
    let w = bounds c.before.before.before in
    (within w R 4500000000 tt, rw (runs w R tt) (left-< w R (K.lit (pos 1)) tt c.if-r-lt1.false))

-- a, b and the half
after : (c : tie.After-half-s) → Within (whole c.args.a ∷ whole c.args.b ∷ whole c.half-s.result ∷ []) (2100000000 ∷ 2100000000 ∷ 2300000000 ∷ [])
after c = let s = c.before.before.before.before in s.requires.0 ▹ s.requires.1 ▹ c.half-s.ensures.size ▹ ends

returns-4 : tie.Need-returns
returns-4 c = λ t.
    let s = c.before.before.before.before in
    let w = bounds s in
    record {
      first = left-< w (arg 0) (K.lit (pos 1)) tt c.if-a-lt1.false;
      second = left-< w (arg 1) (K.lit (pos 1)) tt c.if-b-lt1.false;
      spans = inr (narrow s.args.a s.args.b s.args.q c.half-s.result (left-< w R (K.lit (pos 1)) tt c.if-r-lt1.false)
          (rw (runs w R tt) at c.half-s.ensures.up) (taken-< (after c) (mul (arg 2) (arg 2)) (mul (arg 0) (arg 1)) tt t));
    }

pub spans_spec : {M : Type 1} → statement M
spans_spec = tie.close (tie.spec returns returns-2 sub-r (λ c. fits (bounds c.before.before) R tt) returns-3 half-requires (λ c. fits (after c) (mul (arg 2) (arg 2)) tt) (λ c. fits (after c) (mul (arg 0) (arg 1)) tt) returns-4)

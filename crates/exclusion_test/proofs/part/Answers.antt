-- A quotient rounded down, or less.
use Rattle.std.proofs.Common.{◌≡◌, refl, ap, ◌∙◌, ◌≤◌, ℤ, pos, negsuc, nat_abs, ◌*ℤ◌, ◌≤ℤ◌, ◌<ℤ◌, arith, Bool, true, false, cond}
use mathlib.Core.List.{[], ◌∷◌}
use native.Mathlib.Nat.{div-mul-le_self}
use lib.Signed.{quot_z, lt_z}
use Rattle.std.specs.Int.{int_min}
use Rattle.rounding.specs.laws.Order.{lt_z_true, lt_z_false, parts-≤, ≤-parts, ≤ℤ_trans}
use Rattle.rounding.specs.laws.Ring.{num, ◌⊗◌, v0, v1}
use Rattle.rounding.specs.laws.Cert.{leq, less, lit, ◌⊞◌, ◌⊠◌, certify}
use Rattle.rounding.specs.laws.Code.{arg, quo, Within, whole, ends, ◌▹◌, runs, read_back}
use Rattle.exclusion_test.specs.Passed.{Part}
use Rattle.exclusion_test.proofs.part.Goals as goal

down : (p n : ℤ) → pos 0 ≤ℤ p → pos 1 ≤ℤ n → (pos 0 ≤ℤ quot_z p n) × ((quot_z p n *ℤ n) ≤ℤ p)
down (pos p) (pos n) h l = (parts-≤ (omega arith), parts-≤ (omega (arith, div-mul-le_self p n)))
down (pos p) (negsuc n) h l = absurd l.le
down (negsuc p) n h l = absurd h.le

small : (z : ℤ) → pos 0 ≤ℤ z → z ≤ℤ pos 1000000000 → nat_abs z ≤ 1000000000
small (pos n) h l = omega (arith, ≤-parts l)
small (negsuc n) h l = absurd h.le

at_most : (p n q : ℤ) → pos 1 ≤ℤ n → (q *ℤ n) ≤ℤ p → pos 1000000000 <ℤ q → (pos 1000000000 *ℤ n) ≤ℤ p
at_most p n q h l g =
    ≤ℤ_trans (certify 0 (q ∷ n ∷ []) (num 1000000000 ⊗ v1) (v0 ⊗ v1) ((less (num 1000000000) v0 g ⊞ lit 1) ⊠ (leq (num 1) v1 h ⊞ lit 1)) tt) l

lesser : (p n q : ℤ) → pos 1 ≤ℤ n → pos 0 ≤ℤ q → (q *ℤ n) ≤ℤ p → Part p n (int_min q (pos 1000000000))
lesser p n q h s l = go (lt_z (pos 1000000000) q) refl
  where
    go : (b : Bool) → lt_z (pos 1000000000) q ≡ b → Part p n (cond b (pos 1000000000) q)
    go true e = record { low = at_most p n q h l (lt_z_true (pos 1000000000) q e); size = omega arith }
    go false e = record { low = l; size = small q s (lt_z_false (pos 1000000000) q e) }

pub returns : goal.returns
returns c =
    let a = c.args in
    let bounds : Within (whole a.p ∷ whole a.n ∷ []) (3000000000000000000 ∷ 2000000000 ∷ []) = c.requires.0 ▹ c.requires.1 ▹ ends in
    let d = down a.p a.n c.requires.2 c.requires.3 in
    let e : c.min.result ≡ int_min (quot_z a.p a.n) (pos 1000000000) =
    c.min.ensures.value ∙ ap (λ (z : ℤ). int_min z (pos 1000000000)) (runs bounds (quo (arg 0) (arg 1)) tt) in
    let r : Part a.p a.n c.min.result = rw e (lesser a.p a.n (quot_z a.p a.n) c.requires.3 d.0 d.1) in
    rw (read_back c.min.result r.size tt) r

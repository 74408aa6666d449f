-- At whole hours document 01's rule rounds nothing: a fit is judged by the cubic itself.
use Rattle.std.specs.Prelude.{◌≡◌, refl, [], ◌∷◌, ℕ, zero, suc, ◌≤◌, ℤ, pos, negsuc, nat_abs, ◌+ℤ◌, ◌-ℤ◌, ◌*ℤ◌}
use Rattle.std.proofs.Common.{ap, ◌∙◌, arith}
use Rattle.std.specs.Int.Signed.{le_z_yes}
use Rattle.rounding.specs.laws.Order.{nat_abs_product}
use Rattle.rounding.specs.laws.Ring.{num, ◌⊕◌, ◌⊖◌, ◌⊗◌, ring, v0, v1, v2}
use Rattle.rounding.specs.Near.{near}
use Rattle.rounding.proofs.laws.NearLaws.{near-error}
use Rattle.rounding.specs.Units.{hour}
use Rattle.elements.specs.declared.Cubic.{Cubic}
use Rattle.elements.specs.declared.Quadratic.{Quadratic}
use Rattle.elements.specs.Polynomial.{step, quadratic_at, cubic_at}
use Rattle.fits.specs.Fits.{second}

-- c0 + c1 h + c2 h² + c3 h³
abbrev pub at_hour : Cubic → ℤ → ℤ
at_hour c h = ((c.c3 *ℤ h +ℤ c.c2) *ℤ h +ℤ c.c1) *ℤ h +ℤ c.c0

nothing : (z : ℤ) → nat_abs z ≤ 0 → z ≡ pos 0
nothing (pos zero) h = refl
nothing (pos (suc n)) h = absurd (omega arith)
nothing (negsuc n) h = absurd (omega arith)

-- a multiple of an hour, over an hour
near-whole : (p h : ℤ) → near (p *ℤ (hour *ℤ h)) hour ≡ p *ℤ h
near-whole p h =
    let n = near (p *ℤ (hour *ℤ h)) hour in
    let e : hour *ℤ n -ℤ p *ℤ (hour *ℤ h) ≡ hour *ℤ (n -ℤ p *ℤ h) =
    ring (n ∷ p ∷ h ∷ []) (num 3600 ⊗ v0 ⊖ v1 ⊗ (num 3600 ⊗ v2)) (num 3600 ⊗ (v0 ⊖ v1 ⊗ v2)) tt
    in
    let l = near-error (p *ℤ (hour *ℤ h)) hour (le_z_yes tt) in
    let z = nothing (n -ℤ p *ℤ h) (omega (arith, l, ap nat_abs e, nat_abs_product hour (n -ℤ p *ℤ h))) in
    ring (n ∷ p ∷ h ∷ []) v0 ((v0 ⊖ v1 ⊗ v2) ⊕ v1 ⊗ v2) tt ∙ ap (λ (y : ℤ). y +ℤ p *ℤ h) z ∙ ring (n ∷ p ∷ h ∷ []) (num 0 ⊕ v1 ⊗ v2) (v1 ⊗ v2) tt

step-whole : (p lower h : ℤ) → step (hour *ℤ h) p lower ≡ p *ℤ h +ℤ lower
unfolding step
step-whole p lower h = ap (λ (z : ℤ). z +ℤ lower) (near-whole p h)

pub whole-hours : (c : Cubic) (i : ℕ) → cubic_at c (second i) ≡ at_hour c (pos i -ℤ pos 3)
unfolding cubic_at
whole-hours c i = rw (step-whole, step-whole, step-whole)

-- and of a quadratic: c0 + c1 h + c2 h²
abbrev pub quadratic_at_hour : Quadratic → ℤ → ℤ
quadratic_at_hour q h = (q.c2 *ℤ h +ℤ q.c1) *ℤ h +ℤ q.c0

pub quadratic-hours : (q : Quadratic) (i : ℕ) → quadratic_at q (second i) ≡ quadratic_at_hour q (pos i -ℤ pos 3)
unfolding quadratic_at
quadratic-hours q i = rw (step-whole, step-whole)

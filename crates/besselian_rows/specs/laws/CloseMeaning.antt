-- What `Close` means, where it can be said without a root: if B is D², v lies within e units of A/D, and the other way
-- round. Signed squares are in the order of their numbers (`signed-≤`, `≤-signed`), which is why they can stand for
-- them.
use Rattle.std.specs.Prelude.{◌≡◌, [], ◌∷◌, ℕ, suc, ◌≤◌, ℤ, pos, negsuc, nat_abs, ◌+ℤ◌, ◌-ℤ◌, ◌*ℤ◌, ◌≤ℤ◌, ◌<ℤ◌}
use Rattle.std.proofs.Common.{sym, ap, subst, ◌∙◌, arith, ⊎_elim}
use Rattle.std.specs.Int.Signed.{≤ℤ_refl, clash_ℤ}
use Rattle.rounding.specs.laws.Order.{zs, ≤ℤ_total, ≤ℤ_antisym, <ℤ-≤, by_contra, nat_abs_product}
use Rattle.rounding.specs.laws.Ring.{num, ◌⊗◌, opp, ring, v0, v1, v2}
use Rattle.rounding.specs.laws.Cert.{leq, less, lit, sq, ◌⊞◌, ◌⊠◌, certify, certify-<}
use Rattle.besselian_rows.specs.Exact.{◌², signed, Close}

pub zero-≤ : (n : ℕ) → pos 0 ≤ℤ pos n
zero-≤ n = omega (arith, zs)

-- a < b gives a² < b², for a not negative
squares-< : (a b : ℤ) → pos 0 ≤ℤ a → a <ℤ b → (a *ℤ a) <ℤ (b *ℤ b)
squares-< a b h l =
    let u = less v0 v1 l in
    certify-< 0 (a ∷ b ∷ []) (v0 ⊗ v0) (v1 ⊗ v1) (u ⊠ u ⊞ lit 2 ⊠ u ⊠ leq (num 0) v0 h ⊞ lit 2 ⊠ u ⊞ lit 2 ⊠ leq (num 0) v0 h) tt

signed-< : (a b : ℤ) → a <ℤ b → signed a <ℤ signed b
signed-< (pos a) (pos b) l = squares-< (pos a) (pos b) (zero-≤ a) l
signed-< (pos a) (negsuc b) l = absurd l.lt
signed-< (negsuc a) (pos b) l =
    let one : pos 1 ≤ℤ pos (suc a) = omega (arith, zs) in
    let u = leq (num 1) v0 one in
    certify-< 0 (pos (suc a) ∷ pos b ∷ []) (opp v0 ⊗ v0) (v1 ⊗ v1) (sq v1 ⊞ u ⊠ u ⊞ lit 2 ⊠ u) tt
signed-< (negsuc a) (negsuc b) l =
    let s = squares-< (pos (suc b)) (pos (suc a)) (zero-≤ (suc b)) (certify-< 0 (pos (suc a) ∷ pos (suc b) ∷ []) v1 v0 (less (opp v0) (opp v1) l) tt) in
    certify-< 0 (pos (suc a) ∷ pos (suc b) ∷ []) (opp v0 ⊗ v0) (opp v1 ⊗ v1) (less (v1 ⊗ v1) (v0 ⊗ v0) s) tt

pub signed-≤ : (a b : ℤ) → signed a ≤ℤ signed b → a ≤ℤ b
signed-≤ a b h = by_contra a b (λ l. clash_ℤ (signed-< b a l) h)

pub ≤-signed : (a b : ℤ) → a ≤ℤ b → signed a ≤ℤ signed b
≤-signed a b h =
    ⊎_elim (λ (g : b ≤ℤ a). subst (λ (t : ℤ). signed a ≤ℤ signed t) (≤ℤ_antisym h g) (≤ℤ_refl (signed a)))
    (λ (l : a <ℤ b). <ℤ-≤ (signed-< a b l)) (≤ℤ_total b a)

signed-times : (w : ℤ) (D : ℕ) → signed (w *ℤ pos D) ≡ signed w *ℤ (pos D ²)
signed-times w D =
    ap (λ (n : ℕ). w *ℤ pos D *ℤ pos n) (nat_abs_product w (pos D))
    ∙ ring (w ∷ pos D ∷ pos (nat_abs w) ∷ []) (v0 ⊗ v1 ⊗ (v2 ⊗ v1)) (v0 ⊗ v2 ⊗ (v1 ⊗ v1)) tt

pub close_means : {e : ℕ} {v A : ℤ} (D : ℕ) → Close e v A (pos D ²) → (((v -ℤ pos e) *ℤ pos D) ≤ℤ A) × (A ≤ℤ ((v +ℤ pos e) *ℤ pos D))
close_means {e} {v} {A} D c =
    let l = v -ℤ pos e in
    let h = v +ℤ pos e in (
      signed-≤ (l *ℤ pos D) A (subst (λ (t : ℤ). t ≤ℤ signed A) (sym (signed-times l D)) c.low),
      signed-≤ A (h *ℤ pos D) (subst (λ (t : ℤ). signed A ≤ℤ t) (sym (signed-times h D)) c.high),
    )

pub means_close : {e : ℕ} {v A : ℤ} (D : ℕ) → 1 ≤ D → ((v -ℤ pos e) *ℤ pos D) ≤ℤ A → A ≤ℤ ((v +ℤ pos e) *ℤ pos D) → Close e v A (pos D ²)
means_close {e} {v} {A} D d low high =
    let l = v -ℤ pos e in
    let h = v +ℤ pos e in
    let one : pos 1 ≤ℤ pos D = omega (arith, zs) in
    let u = leq (num 1) v0 one in
    record {
      some = certify 0 (pos D ∷ []) (num 1) (v0 ⊗ v0) (u ⊠ u ⊞ lit 2 ⊠ u) tt;
      low = subst (λ (t : ℤ). t ≤ℤ signed A) (signed-times l D) (≤-signed (l *ℤ pos D) A low);
      high = subst (λ (t : ℤ). signed A ≤ℤ t) (signed-times h D) (≤-signed A (h *ℤ pos D) high);
    }

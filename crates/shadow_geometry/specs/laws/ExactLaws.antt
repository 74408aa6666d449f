-- Laws of distances given by their squares: order.
use Rattle.std.specs.Prelude.{[], ◌∷◌, ℤ, ◌≤ℤ◌}
use Rattle.std.specs.Int.Signed.{clash_ℤ}
use Rattle.rounding.specs.laws.Ring.{num, ◌⊗◌, v0, v1, v2}
use Rattle.rounding.specs.laws.Cert.{leq, less, lit, ◌⊞◌, ◌⊠◌, certify, certify-<}
use Rattle.shadow_geometry.specs.Exact.{Less, AtLeast}

pub less_mono : (s b c : ℤ) → b ≤ℤ c → Less s b → Less s c
less_mono s b c h l =
    let e = s ∷ b ∷ c ∷ [] in
    record {
      sign = certify 0 e (num 0) v2 (leq (num 0) v1 l.sign ⊞ leq v1 v2 h) tt;
      square = certify-< 0 e v0 (v2 ⊗ v2) (less v0 (v1 ⊗ v1) l.square ⊞ leq v1 v2 h ⊠ leq v1 v2 h ⊞ lit 2 ⊠ leq (num 0) v1 l.sign ⊠ leq v1 v2 h) tt;
    }

pub least_not_less : {s b : ℤ} → AtLeast s b → Less s b → ⊥
least_not_less h l = clash_ℤ l.square (h.square l.sign)

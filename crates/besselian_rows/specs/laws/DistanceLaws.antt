-- Laws of the test of distance: a coordinate beyond the greatest distance is too far by itself.
use Rattle.std.specs.Prelude.{◌≡◌, refl, Bool, true, false, ◌&&◌, ◌||◌, [], ◌∷◌, ℕ, ◌≤◌, ℤ, pos, neg_ℤ, nat_abs, ◌+ℤ◌, ◌≤ℤ◌, ◌<ℤ◌}
use Rattle.std.specs.Int.Signed.{lt_z, le_z, clash_ℤ}
use Rattle.rounding.specs.laws.Order.{nat_abs_le, le_z_true, lt_z_true, lt_z_false, le_nat_abs, both_ways}
use Rattle.rounding.specs.laws.Ring.{num, ◌⊕◌, ◌⊗◌, opp, v0, v1, v2, v3}
use Rattle.rounding.specs.laws.Cert.{leq, less, lit, sq, ◌⊞◌, ◌⊠◌, certify, certify-<}
use Rattle.besselian_rows.specs.Exact.{◌², between}
use Rattle.besselian_rows.specs.Parts.{beyond}

-- farther than m in one coordinate is farther than m
beyond-square : (x m : ℤ) → pos 0 ≤ℤ m → beyond x m ≡ true → m ² <ℤ (x ²)
unfolding beyond
beyond-square x m h e = go (lt_z x (neg_ℤ m)) refl (lt_z m x) refl e
  where
    go : (s : Bool) → lt_z x (neg_ℤ m) ≡ s → (t : Bool) → lt_z m x ≡ t → s || t ≡ true → m ² <ℤ (x ²)
    go true f t g k =
        let u = lt_z_true x (neg_ℤ m) f in
        certify-< 0 (x ∷ m ∷ []) (v1 ⊗ v1) (v0 ⊗ v0) (less v0 (opp v1) u ⊠ less v0 (opp v1) u ⊞ lit 2 ⊠ less v0 (opp v1) u ⊠ leq (num 0) v1 h
        ⊞ lit 2 ⊠ less v0 (opp v1) u ⊞ lit 2 ⊠ leq (num 0) v1 h) tt
    go false f true g k =
        let u = lt_z_true m x g in
        certify-< 0 (x ∷ m ∷ []) (v1 ⊗ v1) (v0 ⊗ v0) (less v1 v0 u ⊠ less v1 v0 u ⊞ lit 2 ⊠ less v1 v0 u ⊠ leq (num 0) v1 h ⊞ lit 2 ⊠ less v1 v0 u
        ⊞ lit 2 ⊠ leq (num 0) v1 h) tt
    go false f false g k = absurd (both_ways k refl)

too_far : (x y z low high : ℤ) → high ² <ℤ (x ² +ℤ y ² +ℤ z ²) → false ≡ between x y z low high
unfolding between
too_far x y z low high h = go (le_z (low ²) (x ² +ℤ y ² +ℤ z ²)) (le_z (x ² +ℤ y ² +ℤ z ²) (high ²)) refl
  where
    go : (s t : Bool) → le_z (x ² +ℤ y ² +ℤ z ²) (high ²) ≡ t → false ≡ s && t
    go s true e = absurd (clash_ℤ h (le_z_true (x ² +ℤ y ² +ℤ z ²) (high ²) e))
    go true false e = refl
    go false false e = refl

pub beyond_x : (x y z low high : ℤ) → pos 0 ≤ℤ high → beyond x high ≡ true → false ≡ between x y z low high
beyond_x x y z low high h e =
    too_far x y z low high (certify-< 0 (x ∷ y ∷ z ∷ high ∷ []) (v3 ⊗ v3) (v0 ⊗ v0 ⊕ v1 ⊗ v1 ⊕ v2 ⊗ v2)
    (less (v3 ⊗ v3) (v0 ⊗ v0) (beyond-square x high h e) ⊞ sq v1 ⊞ sq v2) tt)

pub beyond_y : (x y z low high : ℤ) → pos 0 ≤ℤ high → beyond y high ≡ true → false ≡ between x y z low high
beyond_y x y z low high h e =
    too_far x y z low high (certify-< 0 (x ∷ y ∷ z ∷ high ∷ []) (v3 ⊗ v3) (v0 ⊗ v0 ⊕ v1 ⊗ v1 ⊕ v2 ⊗ v2)
    (less (v3 ⊗ v3) (v1 ⊗ v1) (beyond-square y high h e) ⊞ sq v0 ⊞ sq v2) tt)

pub beyond_z : (x y z low high : ℤ) → pos 0 ≤ℤ high → beyond z high ≡ true → false ≡ between x y z low high
beyond_z x y z low high h e =
    too_far x y z low high (certify-< 0 (x ∷ y ∷ z ∷ high ∷ []) (v3 ⊗ v3) (v0 ⊗ v0 ⊕ v1 ⊗ v1 ⊕ v2 ⊗ v2)
    (less (v3 ⊗ v3) (v2 ⊗ v2) (beyond-square z high h e) ⊞ sq v0 ⊞ sq v1) tt)

-- not beyond: small enough
pub not_beyond : (x m : ℤ) (n : ℕ) → nat_abs m ≤ n → pos 0 ≤ℤ m → beyond x m ≡ false → nat_abs x ≤ n
unfolding beyond
not_beyond x m n b h e = go (lt_z x (neg_ℤ m)) refl (lt_z m x) refl e
  where
    go : (s : Bool) → lt_z x (neg_ℤ m) ≡ s → (t : Bool) → lt_z m x ≡ t → s || t ≡ false → nat_abs x ≤ n
    go true f t g k = absurd (both_ways refl k)
    go false f true g k = absurd (both_ways refl k)
    go false f false g k =
        let u = le_nat_abs m b in
        let lo = lt_z_false x (neg_ℤ m) f in
        let hi = lt_z_false m x g in
        nat_abs_le x {m = n} (certify 0 (x ∷ m ∷ pos n ∷ []) (opp v2) v0 (leq (opp v1) v0 lo ⊞ leq v1 v2 u) tt)
        (certify 0 (x ∷ m ∷ pos n ∷ []) v0 v2 (leq v0 v1 hi ⊞ leq v1 v2 u) tt)

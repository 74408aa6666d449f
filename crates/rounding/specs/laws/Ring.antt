-- A solver for equations of ℤ in +, *, − and constants. An expression is written as data, and both sides are
-- multiplied out by computation. A polynomial in n + 1 unknowns is the list of its coefficients, polynomials in the
-- last n: no order of monomials has to be proved.
use Rattle.std.specs.Prelude.{◌≡◌, refl, Bool, true, false, ◌&&◌, List, [], ◌∷◌, ℕ, zero, suc, T, ℤ, pos, negsuc, neg_ℤ, ◌+ℤ◌, ◌-ℤ◌, ◌*ℤ◌}
use Rattle.std.proofs.Common.{sym, ◌∙◌, ap, ap₂, subst}
use Rattle.std.proofs.Math.IntN.{+ℤ_idl, +ℤ_idr, neg_ℤ-+ℤ, zero-*ℤ, *ℤ-zero, *ℤ_comm, -ℤ-+ℤ_cancel}
use Rattle.rounding.specs.laws.Laws.{*ℤ_assoc, *ℤ-+ℤ, +ℤ-*ℤ, *ℤ_negℤ, +ℤ_swap, *ℤ_left, one-*ℤ}

infixl 60 ◌⊕◌ ◌⊖◌
infixl 70 ◌⊗◌
pub data Expr : Type 0 where
  var : ℕ → Expr
  con : ℤ → Expr
  ◌⊕◌ : Expr → Expr → Expr
  ◌⊖◌ : Expr → Expr → Expr
  ◌⊗◌ : Expr → Expr → Expr
  opp : Expr → Expr

abbrev pub num : ℕ → Expr
num n = con (pos n)

abbrev pub v0 : Expr
v0 = var 0

abbrev pub v1 : Expr
v1 = var 1

abbrev pub v2 : Expr
v2 = var 2

abbrev pub v3 : Expr
v3 = var 3

abbrev pub v4 : Expr
v4 = var 4

abbrev pub v5 : Expr
v5 = var 5

abbrev pub v6 : Expr
v6 = var 6

abbrev pub v7 : Expr
v7 = var 7

abbrev pub v8 : Expr
v8 = var 8

abbrev pub v9 : Expr
v9 = var 9

abbrev pub at : List ℤ → ℕ → ℤ
at [] i = pos 0
at (x ∷ xs) zero = x
at (x ∷ xs) (suc i) = at xs i

abbrev pub eval : List ℤ → Expr → ℤ
eval env (var i) = at env i
eval env (con c) = c
eval env (a ⊕ b) = eval env a +ℤ eval env b
eval env (a ⊖ b) = eval env a -ℤ eval env b
eval env (a ⊗ b) = eval env a *ℤ eval env b
eval env (opp a) = neg_ℤ (eval env a)

-- ---- polynomials
abbrev pub len : List ℤ → ℕ
len [] = zero
len (x ∷ xs) = suc (len xs)

abbrev pub Poly : ℕ → Type 0
Poly zero = ℤ
Poly (suc n) = List (Poly n)

abbrev pub zip : {A : Type 0} → (A → A → A) → List A → List A → List A
zip f [] ys = ys
zip f (x ∷ xs) [] = x ∷ xs
zip f (x ∷ xs) (y ∷ ys) = f x y ∷ zip f xs ys

abbrev pub each : {A : Type 0} → (A → A) → List A → List A
each f [] = []
each f (x ∷ xs) = f x ∷ each f xs

abbrev pub conv : {A : Type 0} → (A → A → A) → (A → A → A) → A → List A → List A → List A
conv ad mu z [] ys = []
conv ad mu z (x ∷ xs) ys = zip ad (each (mu x) ys) (z ∷ conv ad mu z xs ys)

abbrev pub add : (n : ℕ) → Poly n → Poly n → Poly n
add zero a b = a +ℤ b
add (suc n) p q = zip (add n) p q

abbrev pub neg : (n : ℕ) → Poly n → Poly n
neg zero a = neg_ℤ a
neg (suc n) p = each (neg n) p

abbrev pub nil : (n : ℕ) → Poly n
nil zero = pos 0
nil (suc n) = []

abbrev pub mul : (n : ℕ) → Poly n → Poly n → Poly n
mul zero a b = a *ℤ b
mul (suc n) p q = conv (add n) (mul n) (nil n) p q

abbrev pub const : (n : ℕ) → ℤ → Poly n
const zero c = c
const (suc n) c = const n c ∷ []

abbrev pub unknown : (n : ℕ) → ℕ → Poly n
unknown zero i = pos 0
unknown (suc n) zero = nil n ∷ const n (pos 1) ∷ []
unknown (suc n) (suc i) = unknown n i ∷ []

abbrev pub norm : (n : ℕ) → Expr → Poly n
norm n (var i) = unknown n i
norm n (con c) = const n c
norm n (a ⊕ b) = add n (norm n a) (norm n b)
norm n (a ⊖ b) = add n (norm n a) (neg n (norm n b))
norm n (a ⊗ b) = mul n (norm n a) (norm n b)
norm n (opp a) = neg n (norm n a)

abbrev pub is0 : ℤ → Bool
is0 (pos zero) = true
is0 (pos (suc n)) = false
is0 (negsuc n) = false

abbrev pub all : {A : Type 0} → (A → Bool) → List A → Bool
all f [] = true
all f (x ∷ xs) = f x && all f xs

abbrev pub none : (n : ℕ) → Poly n → Bool
none zero c = is0 c
none (suc n) p = all (none n) p

-- ---- the value of a polynomial
abbrev horner : {A : Type 0} → ℤ → (A → ℤ) → List A → ℤ
horner x f [] = pos 0
horner x f (p ∷ ps) = f p +ℤ x *ℤ horner x f ps

abbrev worth : (env : List ℤ) → Poly (len env) → ℤ
worth [] c = c
worth (x ∷ env) p = horner x (worth env) p

module _ {A : Type 0} (x : ℤ) (f : A → ℤ) where
  horner-zip : (ad : A → A → A) → ((a b : A) → f (ad a b) ≡ f a +ℤ f b) → (ps qs : List A) → horner x f (zip ad ps qs) ≡ horner x f ps +ℤ horner x f qs
  horner-zip ad h [] qs = sym (+ℤ_idl (horner x f qs))
  horner-zip ad h (p ∷ ps) [] = sym (+ℤ_idr (f p +ℤ x *ℤ horner x f ps))
  horner-zip ad h (p ∷ ps) (q ∷ qs) =
      ap₂ (λ (u v : ℤ). u +ℤ x *ℤ v) (h p q) (horner-zip ad h ps qs)
      ∙ ap (λ (v : ℤ). (f p +ℤ f q) +ℤ v) (*ℤ-+ℤ x (horner x f ps) (horner x f qs))
      ∙ +ℤ_swap (f p) (f q) (x *ℤ horner x f ps) (x *ℤ horner x f qs)

  horner-neg : (ne : A → A) → ((a : A) → f (ne a) ≡ neg_ℤ (f a)) → (ps : List A) → horner x f (each ne ps) ≡ neg_ℤ (horner x f ps)
  horner-neg ne h [] = refl
  horner-neg ne h (p ∷ ps) =
      ap₂ (λ (u v : ℤ). u +ℤ x *ℤ v) (h p) (horner-neg ne h ps)
      ∙ ap (λ (v : ℤ). neg_ℤ (f p) +ℤ v) (*ℤ_negℤ x (horner x f ps))
      ∙ sym (neg_ℤ-+ℤ (f p) (x *ℤ horner x f ps))

  horner-scale : (mu : A → A → A) → ((a b : A) → f (mu a b) ≡ f a *ℤ f b) → (a : A) (ps : List A) → horner x f (each (mu a) ps) ≡ f a *ℤ horner x f ps
  horner-scale mu h a [] = sym (*ℤ-zero (f a))
  horner-scale mu h a (p ∷ ps) =
      ap₂ (λ (u v : ℤ). u +ℤ x *ℤ v) (h a p) (horner-scale mu h a ps)
      ∙ ap (λ (v : ℤ). f a *ℤ f p +ℤ v) (*ℤ_left x (f a) (horner x f ps))
      ∙ sym (*ℤ-+ℤ (f a) (f p) (x *ℤ horner x f ps))

  horner-conv : (ad mu : A → A → A) (z : A) → ((a b : A) → f (ad a b) ≡ f a +ℤ f b) → ((a b : A) → f (mu a b) ≡ f a *ℤ f b) → f z ≡ pos 0
      → (ps qs : List A) → horner x f (conv ad mu z ps qs) ≡ horner x f ps *ℤ horner x f qs
  horner-conv ad mu z ha hm hz [] qs = sym (zero-*ℤ (horner x f qs))
  horner-conv ad mu z ha hm hz (p ∷ ps) qs =
      horner-zip ad ha (each (mu p) qs) (z ∷ conv ad mu z ps qs)
      ∙ ap₂ (λ (u v : ℤ). u +ℤ v) (horner-scale mu hm p qs)
      (ap₂ (λ (u v : ℤ). u +ℤ x *ℤ v) hz (horner-conv ad mu z ha hm hz ps qs)
      ∙ +ℤ_idl (x *ℤ (horner x f ps *ℤ horner x f qs))
      ∙ sym (*ℤ_assoc x (horner x f ps) (horner x f qs)))
      ∙ sym (+ℤ-*ℤ (f p) (x *ℤ horner x f ps) (horner x f qs))

  horner-none : (te : A → Bool) → ((a : A) → T (te a) → f a ≡ pos 0) → (ps : List A) → T (all te ps) → horner x f ps ≡ pos 0
  horner-none te h [] t = refl
  horner-none te h (p ∷ ps) t = go (te p) refl (λ u. horner-none te h ps u) t
    where
      go : (b : Bool) → te p ≡ b → (T (all te ps) → horner x f ps ≡ pos 0) → T (b && all te ps) → f p +ℤ x *ℤ horner x f ps ≡ pos 0
      go true e r u =
          ap₂ (λ (y v : ℤ). y +ℤ x *ℤ v) (h p (subst T (sym e) tt)) (r u) ∙ ap (λ (v : ℤ). pos 0 +ℤ v) (*ℤ-zero x)
      go false e r u = absurd u

worth-nil : (env : List ℤ) → worth env (nil (len env)) ≡ pos 0
worth-nil [] = refl
worth-nil (x ∷ env) = refl

worth-add : (env : List ℤ) (p q : Poly (len env)) → worth env (add (len env) p q) ≡ worth env p +ℤ worth env q
worth-add [] p q = refl
worth-add (x ∷ env) p q = horner-zip x (worth env) (add (len env)) (worth-add env) p q

worth-neg : (env : List ℤ) (p : Poly (len env)) → worth env (neg (len env) p) ≡ neg_ℤ (worth env p)
worth-neg [] p = refl
worth-neg (x ∷ env) p = horner-neg x (worth env) (neg (len env)) (worth-neg env) p

worth-mul : (env : List ℤ) (p q : Poly (len env)) → worth env (mul (len env) p q) ≡ worth env p *ℤ worth env q
worth-mul [] p q = refl
worth-mul (x ∷ env) p q =
    horner-conv x (worth env) (add (len env)) (mul (len env)) (nil (len env)) (worth-add env) (worth-mul env) (worth-nil env) p q

worth-const : (env : List ℤ) (c : ℤ) → worth env (const (len env) c) ≡ c
worth-const [] c = refl
worth-const (x ∷ env) c = ap₂ (λ (u v : ℤ). u +ℤ v) (worth-const env c) (*ℤ-zero x) ∙ +ℤ_idr c

worth-unknown : (env : List ℤ) (i : ℕ) → worth env (unknown (len env) i) ≡ at env i
worth-unknown [] i = refl
worth-unknown (x ∷ env) zero =
    ap₂ (λ (u v : ℤ). u +ℤ x *ℤ v) (worth-nil env) (ap₂ (λ (u v : ℤ). u +ℤ v) (worth-const env (pos 1)) (*ℤ-zero x))
    ∙ +ℤ_idl (x *ℤ pos 1) ∙ *ℤ_comm x (pos 1) ∙ one-*ℤ x
worth-unknown (x ∷ env) (suc i) = ap₂ (λ (u v : ℤ). u +ℤ v) (worth-unknown env i) (*ℤ-zero x) ∙ +ℤ_idr (at env i)

worth-none : (env : List ℤ) (p : Poly (len env)) → T (none (len env) p) → worth env p ≡ pos 0
worth-none [] (pos zero) t = refl
worth-none [] (pos (suc n)) t = absurd t
worth-none [] (negsuc n) t = absurd t
worth-none (x ∷ env) p t = horner-none x (worth env) (none (len env)) (worth-none env) p t

worth-norm : (env : List ℤ) (e : Expr) → worth env (norm (len env) e) ≡ eval env e
worth-norm env (var i) = worth-unknown env i
worth-norm env (con c) = worth-const env c
worth-norm env (a ⊕ b) = worth-add env (norm (len env) a) (norm (len env) b) ∙ ap₂ (λ (u v : ℤ). u +ℤ v) (worth-norm env a) (worth-norm env b)
worth-norm env (a ⊖ b) =
    worth-add env (norm (len env) a) (neg (len env) (norm (len env) b))
    ∙ ap₂ (λ (u v : ℤ). u +ℤ v) (worth-norm env a) (worth-neg env (norm (len env) b) ∙ ap neg_ℤ (worth-norm env b))
worth-norm env (a ⊗ b) = worth-mul env (norm (len env) a) (norm (len env) b) ∙ ap₂ (λ (u v : ℤ). u *ℤ v) (worth-norm env a) (worth-norm env b)
worth-norm env (opp a) = worth-neg env (norm (len env) a) ∙ ap neg_ℤ (worth-norm env a)

minus_zero : (a b : ℤ) → a -ℤ b ≡ pos 0 → a ≡ b
minus_zero a b h = sym (-ℤ-+ℤ_cancel a b) ∙ ap (λ (u : ℤ). u +ℤ b) h ∙ +ℤ_idl b

abbrev pub Vanishes : List ℤ → Expr → Type 0
Vanishes env e = T (none (len env) (norm (len env) e))

-- both sides come to the same: `ring env a b tt`
pub ring : (env : List ℤ) (a b : Expr) → Vanishes env (a ⊖ b) → eval env a ≡ eval env b
ring env a b t = minus_zero (eval env a) (eval env b) (sym (worth-norm env (a ⊖ b)) ∙ worth-none env (norm (len env) (a ⊖ b)) t)

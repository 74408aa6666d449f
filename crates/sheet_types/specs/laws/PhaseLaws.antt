-- What callers use of phases and states.
use Rattle.std.specs.Prelude.{ℕ, zero, suc, ◌+◌, ◌≤◌, ◌<◌, length, take, get_or, ◌≡◌, refl, true, false, List, [], ◌∷◌, ◌++◌}
use Rattle.std.proofs.Common.{arith, ap, inl, inr}
use Rattle.sheet_types.specs.declared.phases.Phase.{Phase}
use Rattle.sheet_types.specs.declared.phases.Phase.TheVariants.{Penumbra, Central, Star}
use Rattle.sheet_types.specs.Phases.{eclipse, star, same, Listed, times}
use Rattle.sheet_types.specs.States.{State, inside, outside, unsure, code, state_of}

pub same-own : (φ : Phase) → same φ φ ≡ true
same-own Penumbra = refl
same-own Central = refl
same-own Star = refl

apart : false ≡ true → ⊥
apart e = let z : ◌≡◌ {A = ℕ} 0 1 = cc in omega arith

pub same-is : (φ ψ : Phase) → same φ ψ ≡ true → φ ≡ ψ
same-is Penumbra Penumbra e = refl
same-is Penumbra Central e = absurd (apart e)
same-is Penumbra Star e = absurd (apart e)
same-is Central Penumbra e = absurd (apart e)
same-is Central Central e = refl
same-is Central Star e = absurd (apart e)
same-is Star Penumbra e = absurd (apart e)
same-is Star Central e = absurd (apart e)
same-is Star Star e = refl

-- each phase of an eclipse is one of its list once, and so is a star's
pub once_in_eclipse : (φ : Phase) → Listed φ eclipse → times φ eclipse ≡ 1
once_in_eclipse φ (inl e) = rw e
once_in_eclipse φ (inr (inl e)) = rw e
once_in_eclipse φ (inr (inr x)) = elim x [ ]

pub once_in_star : (φ : Phase) → Listed φ star → times φ star ≡ 1
once_in_star φ (inl e) = rw e
once_in_star φ (inr x) = elim x [ ]

pub state_of_code : (w : State) → state_of (code w) ≡ w
state_of_code outside = refl
state_of_code inside = refl
state_of_code unsure = refl

pub code-limit : (w : State) → code w ≤ 2
code-limit outside = omega arith
code-limit inside = omega arith
code-limit unsure = omega arith

pub code_inside : (w : State) → code w ≡ 1 → w ≡ inside
code_inside inside e = refl
code_inside outside e = absurd (omega arith)
code_inside unsure e = absurd (omega arith)

pub code_outside : (w : State) → code w ≡ 0 → w ≡ outside
code_outside inside e = absurd (omega arith)
code_outside outside e = refl
code_outside unsure e = absurd (omega arith)

-- the first k + 1 phases of a list are the first k and the k-th
pub phases_more : (φs : List Phase) (k : ℕ) → k < length φs → take (k + 1) φs ≡ take k φs ++ get_or φs k Penumbra ∷ []
phases_more [] k h = absurd (omega arith)
phases_more (φ ∷ φs) zero h = refl
phases_more (φ ∷ φs) (suc k) h =
    let e : suc k + 1 ≡ suc (k + 1) = omega arith in
    rw e (ap (λ (ψs : List Phase). φ ∷ ψs) (phases_more φs k (omega arith)))

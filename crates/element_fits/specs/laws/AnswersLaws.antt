-- Laws of the answer: which refusal decides.
use Rattle.std.specs.Prelude.{◌≡◌, refl, Bool, true, false, ℕ, Option, None, Some, Err, Ok}
use Rattle.std.proofs.Math.Path.{ap}
use Rattle.std.proofs.Common.{◌∙◌, arith}
use Rattle.sheet_types.specs.declared.refusals.Refusal.{Refusal}
use Rattle.sheet_types.specs.Refusals.{refusal}
use Rattle.elements.specs.Elements.{elements_checked}
use Rattle.element_fits.specs.declared.Fitting.{Fitting}
use Rattle.element_fits.specs.Answers.{unless, misfits_of, first_missed, of_missed, of_checked, judged}

pub nothing_found : (l : Option ℕ) (good : Bool) (k : ℕ) → unless l good k ≡ None → (l ≡ None) × (good ≡ true)
unfolding unless
nothing_found None true k e = (refl, refl)
nothing_found None false k e = let z : ◌≡◌ {A = ℕ} 0 1 = cc in absurd (omega arith)
nothing_found (Some i) good k e = let z : ◌≡◌ {A = ℕ} 0 1 = cc in absurd (omega arith)

module _ (f : Fitting) (tolerance : ℕ) where
  abbrev found : Option ℕ
  found = first_missed f.columns tolerance

  pub judged-element : (r : Refusal) → elements_checked f.elements ≡ Err r → judged f tolerance ≡ Err r
  unfolding judged
  judged-element r h = ap (of_checked f found) h

  module _ (within : elements_checked f.elements ≡ Ok tt) where
    pub judged-missed : (i : ℕ) → found ≡ Some i → judged f tolerance ≡ Err (refusal 17 i)
    unfolding judged
    judged-missed i h = ap (of_checked f found) within ∙ ap (of_missed f) h

    pub judged-made : found ≡ None → judged f tolerance ≡ Ok (record { elements = f.elements; misfits = misfits_of f.columns })
    unfolding judged
    judged-made h = ap (of_checked f found) within ∙ ap (of_missed f) h

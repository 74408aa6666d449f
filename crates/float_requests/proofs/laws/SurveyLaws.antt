-- Laws of a survey's sheet: where 1 comes first, and what is promised.
use Rattle.std.specs.Prelude.{◌≡◌, refl, Bool, true, false, cond, List, ℕ, eqb, Result, Ok, Err, Option, None, Some}
use Rattle.std.proofs.Common.{sym, subst, ◌∙◌, arith}
use Rattle.sheet_types.specs.declared.refusals.Refusal.{Refusal}
use Rattle.sheet_types.specs.Refusals.{refusal, of_limits, andThen}
use Rattle.sheet_types.specs.laws.RefusalLaws.{number_in, refused_number}
use Rattle.elements.specs.Elements as E
use Rattle.station.specs.Station as S
use Rattle.requests.specs.declared.Request.{Request}
use Rattle.requests.specs.declared.Occultation.{Occultation}
use Rattle.requests.specs.Windows.{window_holds}
use Rattle.requests.specs.Requests.{of_eclipse, guard_holds, window_checked, guard_checked, checked}
use Rattle.requests.specs.RequestLaws.{checked-order}
use Rattle.circumstances.specs.Demand3.{Claimed}
use Rattle.float_requests.specs.Instrument.{finite_checked}
use Rattle.float_requests.specs.laws.SearchLaws.{twelve}
use Rattle.float_requests.specs.declared.survey.Survey.{Survey}
use Rattle.float_requests.specs.Survey.{request_of, survey_checked, survey_answer, survey_buffer, survey_sines}
use Rattle.float_requests.specs.laws.HeldRequest.{held_request, Promised, sheet-held}

-- ---- 1 is what a request is refused for first: for its window or its guard
abbrev spanned : (window guard : Bool) → Result Unit Refusal → Result Unit Refusal
spanned w g next = andThen (cond w (Ok tt) (Err (refusal 1 0))) (andThen (cond g (Ok tt) (Err (refusal 1 1))) next)

span-first : (q : Request) (next : Result Unit Refusal)
    → andThen (window_checked q.window) (andThen (guard_checked q.guard) next) ≡ cond (eqb (number_in (checked (of_eclipse q))) 1) (checked (of_eclipse q)) next
span-first q next = rw (checked-order (of_eclipse q)) (go (window_holds q.window) (guard_holds q.guard) (E.range_of q.elements) (S.range_of q.station))
  where
    go : (w g : Bool) (x y : Option ℕ)
        → let rest = spanned w g (andThen (of_limits 2 x) (of_limits 3 y)) in spanned w g next ≡ cond (eqb (number_in rest) 1) rest next
    go true true None None = refl
    go true true None (Some k) = refl
    go true true (Some k) y = refl
    go true false x y = refl
    go false g x y = refl

module _ (s : Survey) (o : Occultation) (e : o ≡ of_eclipse (held_request (request_of s))) where
  first-is : survey_checked s ≡ cond (eqb (number_in (checked o)) 1) (checked o) (finite_checked s.elements s.longitude)
  unfolding survey_checked held_request request_of
  first-is = rw e (span-first (held_request (request_of s)) (finite_checked s.elements s.longitude))

  pub checked-one : eqb (number_in (checked o)) 1 ≡ true → checked o ≡ survey_checked s
  checked-one t = sym (first-is ∙ rw t)

  pub checked-on : eqb (number_in (checked o)) 1 ≡ false → finite_checked s.elements s.longitude ≡ survey_checked s
  checked-on t = sym (first-is ∙ rw t)

-- 1 or 12, and no 4
never-room : (s : Survey) (r : Refusal) → survey_checked s ≡ Err r → r.number ≡ 4 → ⊥
unfolding survey_checked
never-room s r e four = go (window_holds s.window) (guard_holds s.guard) e
  where
    go : (w g : Bool) → spanned w g (finite_checked s.elements s.longitude) ≡ Err r → ⊥
    go true true f = omega (arith, twelve s.elements s.longitude r f)
    go true false f = omega (arith, refused_number f)
    go false g f = omega (arith, refused_number f)

-- ---- what is promised of a survey's sheet
abbrev pub SurveyPromised : Survey → (sines old : List ℕ) → Result ℕ Refusal → (new room : List ℕ) → Type 0
SurveyPromised s sines old r new room = (r ≡ survey_answer s sines old)
    × ((new ≡ survey_buffer s sines old) × ((room ≡ survey_sines s sines) × Claimed (of_eclipse (request_of s)) r new))

module _ (s : Survey) (sines old : List ℕ) where
  pub of-refusal : (x : Refusal) → survey_checked s ≡ Err x → SurveyPromised s sines old (Err x) old sines
  unfolding survey_answer survey_buffer survey_sines
  of-refusal x e = rw e (refl, (refl, (refl, λ four. absurd (never-room s x e four))))

  pub of-request : (o : Occultation) → o ≡ of_eclipse (held_request (request_of s)) → (r : Result ℕ Refusal) (new room : List ℕ) → survey_checked s ≡ Ok tt
      → Promised o sines old r new room → SurveyPromised s sines old r new room
  unfolding survey_answer survey_buffer survey_sines
  of-request o f r new room e p =
      rw e (sheet-held sines old (request_of s) r new room (subst (λ (x : Occultation). Promised x sines old r new room) f p))

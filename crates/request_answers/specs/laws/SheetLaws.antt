-- Laws of the sheet of the program's input.
use Rattle.std.specs.Prelude.{◌≡◌, refl, List, ℕ, ◌≤◌, length, Result, Ok, Err}
use Rattle.std.proofs.Common.{sym, ap, subst, ◌∙◌, arith}
use Rattle.sheet_types.specs.declared.refusals.Refusal.{Refusal}
use Rattle.sheet_types.specs.Refusals.{refusal}
use Rattle.requests.specs.Shares.{with_share}
use Rattle.requests.specs.declared.Request.{Request}
use Rattle.requests.specs.declared.Occultation.{Occultation}
use Rattle.requests.specs.Requests.{of_eclipse}
use Rattle.circumstances.specs.Sheet.{sheet_answer, sheet_buffer, sheet_sines}
use Rattle.circumstances.specs.Demand3.{Claimed}
use Rattle.circumstances.specs.laws.Claims as Claims
use Rattle.request_format.specs.declared.fields.Shape.{Shape}
use Rattle.request_format.specs.Input.{input_of, request_of, sharing, eclipse_asked, star_asked}
use Rattle.request_format.specs.laws.InputLaws.{request-is, shape_is, asked_is, asked-shape}
use Rattle.request_answers.specs.Second.{wish, wished}
use Rattle.request_answers.specs.Sheet.{answer_by, answer_to, buffer_by, sines_by, shared_answer, shared_buffer, shared_sines, star_answer}
use Rattle.request_answers.specs.laws.SecondLaws.{wish-is, wish_shape}

-- ---- the sheet of what was asked for

-- demand 3 of what is asked for, where it is something
abbrev pub ClaimedBy : Result Occultation Refusal → Result ℕ Refusal → List ℕ → Type 0
ClaimedBy (Ok o) r new = Claimed o r new
ClaimedBy (Err x) r new = Unit {0}

-- what is promised of an answer r, the bytes that are left, and the buffer for table S
abbrev pub Made : (asked : Result Occultation Refusal) (sines old : List ℕ) → Result ℕ Refusal → (new room : List ℕ) → Type 0
Made i sines old r new room = (r ≡ answer_by i sines old) × ((new ≡ buffer_by i sines old) × ((room ≡ sines_by i sines) × ClaimedBy i r new))

module _ (i : Result Occultation Refusal) (sines old : List ℕ) where
  pub of-occultation : (o : Occultation) (r : Result ℕ Refusal) (new room : List ℕ) → i ≡ Ok o → (r ≡ sheet_answer o sines old)
      × ((new ≡ sheet_buffer o sines old) × ((room ≡ sheet_sines o sines) × Claimed o r new)) → Made i sines old r new room
  of-occultation o r new room e p = rw e p

  pub of-refusal : (r : Refusal) → i ≡ Err r → Made i sines old (Err r) old sines
  of-refusal r e = rw e (refl, (refl, (refl, tt)))

  -- what is asked for has its claim; a shape that is refused is not refused with 4
  claimed : (o : Occultation) → ((p : Occultation) → i ≡ Ok p → p ≡ o) → ((x : Refusal) → i ≡ Err x → x ≡ refusal 10 0)
      → (r : Result ℕ Refusal) (new : List ℕ) → r ≡ answer_by i sines old → ClaimedBy i r new → Claimed o r new
  claimed o is shape r new e c = by i refl e c
    where
      by : (j : Result Occultation Refusal) → i ≡ j → r ≡ answer_by j sines old → ClaimedBy j r new → Claimed o r new
      by (Ok p) f g h = subst (λ (x : Occultation). Claimed x r new) (is p f) h
      by (Err x) f g h =
          subst (λ (y : Result ℕ Refusal). Claimed o y new) (sym (g ∙ ap Err (shape x f))) (λ (four : 10 ≡ 4). absurd (omega arith))

-- ---- of the bytes of a request as they are; of an eclipse's with a share asked for

abbrev pub Promised : Shape → (input sines old : List ℕ) → Result ℕ Refusal → (new room : List ℕ) → Type 0
Promised shape s sines old r new room = (r ≡ answer_by (wish shape s) sines old)
    × ((new ≡ buffer_by (wish shape s) sines old) × ((room ≡ sines_by (wish shape s) sines) × Claimed (wished shape s) r new))

abbrev pub PromisedShared : (input sines old : List ℕ) → Result ℕ Refusal → (new room : List ℕ) → Type 0
PromisedShared s sines old r new room = (r ≡ shared_answer s sines old)
    × ((new ≡ shared_buffer s sines old) × ((room ≡ shared_sines s sines) × Claimed (of_eclipse (with_share (request_of s))) r new))

module _ (s sines old : List ℕ) where
  pub promised : (shape : Shape) (r : Result ℕ Refusal) (new room : List ℕ) → Made (wish shape s) sines old r new room → Promised shape s sines old r new room
  promised shape r new room m =
      (m.0, (m.1.0, (m.1.1.0, claimed (wish shape s) sines old (wished shape s) (wish-is shape s) (wish_shape shape s) r new m.0 m.1.1.1)))

  pub promised-shared : (r : Result ℕ Refusal) (new room : List ℕ) → Made (eclipse_asked (sharing (input_of s))) sines old r new room → PromisedShared s sines old r new room
  unfolding shared_answer shared_buffer shared_sines
  promised-shared r new room m =
      (m.0, (m.1.0, (m.1.1.0, claimed (eclipse_asked i) sines old (of_eclipse q) (asked_is i q is) (asked-shape i shape) r new m.0 m.1.1.1)))
    where
      i : Result Request Refusal
      i = sharing (input_of s)

      q : Request
      q = with_share (request_of s)

      is : (p : Request) → sharing (input_of s) ≡ Ok p → p ≡ with_share (request_of s)
      is p e = by (input_of s) refl e
        where
          by : (i : Result Request Refusal) → input_of s ≡ i → sharing i ≡ Ok p → p ≡ with_share (request_of s)
          by (Ok q) f g = let h : with_share q ≡ p = cc in sym h ∙ ap with_share (request-is s q f)
          by (Err x) f g = let z : ◌≡◌ {A = ℕ} 0 1 = cc in absurd (omega arith)

      shape : (x : Refusal) → sharing (input_of s) ≡ Err x → x ≡ refusal 10 0
      shape x e = by (input_of s) refl e
        where
          by : (i : Result Request Refusal) → input_of s ≡ i → sharing i ≡ Err x → x ≡ refusal 10 0
          by (Ok q) f g = let z : ◌≡◌ {A = ℕ} 0 1 = cc in absurd (omega arith)
          by (Err y) f g = let h : y ≡ x = cc in sym h ∙ shape_is s y f

-- ---- what was written fits

-- the buffer
abbrev pub Fits : Result ℕ Refusal → List ℕ → Type 0
Fits (Ok n) room = n ≤ length room
Fits (Err r) room = Unit {0}

pub fits_written : (a : Result ℕ Refusal) (room : List ℕ) (n : ℕ) → a ≡ Ok n → Fits a room → n ≤ length room
fits_written a room n e f = subst (λ (b : Result ℕ Refusal). Fits b room) e f

pub fits_by : (i : Result Occultation Refusal) (sines old : List ℕ) (a : Result ℕ Refusal) → a ≡ answer_by i sines old → (left : List ℕ) → length left ≡ length old → Fits a left
fits_by (Ok o) sines old (Ok n) e left l = omega (arith, Claims.written-fits o sines old n (sym e), l)
fits_by (Ok o) sines old (Err r) e left l = tt
fits_by (Err x) sines old (Ok n) e left l = let z : ◌≡◌ {A = ℕ} 0 1 = cc in absurd (omega arith)
fits_by (Err x) sines old (Err r) e left l = tt

module _ (s sines old : List ℕ) (a : Result ℕ Refusal) where
  pub fits : a ≡ answer_to s sines old → (left : List ℕ) → length left ≡ length old → Fits a left
  unfolding answer_to
  fits e left l = fits_by (eclipse_asked (input_of s)) sines old a e left l

  pub star-fits : a ≡ star_answer s sines old → (left : List ℕ) → length left ≡ length old → Fits a left
  unfolding star_answer
  star-fits e left l = fits_by (star_asked s) sines old a e left l

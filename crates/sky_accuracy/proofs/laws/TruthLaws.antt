-- A sheet with a guard of 32 or more is true of the sky (`truth`): of whatever request a sheet was written for,
-- whatever the true C.
--   true_distance   the distance, at every second of every request
--   truth           the sheet
-- Why: each second is said rightly of the true answers (`truly-said`), and demand 3 follows from that for any answers
-- (local_circumstances, Demand3Laws).
use Rattle.std.proofs.Math.Path.{◌≡◌, refl, subst}
use Rattle.std.proofs.Common.{arith, lit≤, Ok, Err, Result}
use Rattle.std.specs.Prelude.{Bool, true, false, cond, List, ◌++◌, ℕ, ◌+◌, leb, ℤ, pos, length, drop, ◌≤ℤ◌}
use Rattle.sheet_types.specs.declared.refusals.Refusal.{Refusal}
use Rattle.sheet_types.specs.Refusals.{refusal}
use Rattle.sheet_types.specs.declared.phases.Phase.{Phase}
use Rattle.elements.specs.Stars.{axis_of}
use Rattle.elements.specs.StarLaws.{axis_sizes}
use Rattle.station.specs.Place.{place_of}
use Rattle.shadow_geometry.specs.Shadow.{moment_of, cone}
use Rattle.shadow_geometry.specs.Exact.{D, exact_u, exact_v, exact_edge}
use Rattle.shadow.specs.laws.SecondLaws.{tangent_small}
use Rattle.requests.specs.declared.Occultation.{Occultation}
use Rattle.requests.specs.Windows.{InWindow}
use Rattle.requests.specs.WindowLaws.{in-window-size}
use Rattle.requests.specs.RequestLaws.{InLimits}
use Rattle.requests.specs.Admission.{admitted}
use Rattle.requests.proofs.laws.AdmissionLaws.{admitted-within}
use Rattle.local_circumstances.specs.Courses.{sheetOf}
use Rattle.local_circumstances.specs.Demand3.{Demand3}
use Rattle.local_circumstances.proofs.laws.Demand3Laws.{changes-once, ends-exact, turns-alternate}
use Rattle.local_circumstances.specs.Course.{course_of}
use Rattle.circumstances.specs.WrittenSheet.{sheet_bytes}
use Rattle.circumstances.specs.Sheet.{answer_by, buffer_by, sheet_answer, sheet_buffer}
use Rattle.local_circumstances.specs.laws.CourseSound.{sound}
use Rattle.circumstances.specs.laws.SheetSound.{reads_back}
use Rattle.sky_accuracy.specs.TruePlace.{TrueC}
use Rattle.sky_accuracy.specs.TrueShadow.{T, true_u, true_v, true_edge}
use Rattle.sky_accuracy.specs.Nineteen.{Nineteen}
use Rattle.sky_accuracy.specs.Truth.{sky_at, seconds, true_answers}
use Rattle.sky_accuracy.specs.laws.ShadowErrors.{u-exact, v-exact, L-exact}
use Rattle.sky_accuracy.proofs.laws.Moved.{nineteen}
use Rattle.sky_accuracy.proofs.laws.TrueStates.{moved_here}
use Rattle.sky_accuracy.proofs.laws.TrulySaid.{truly-said}

-- "The true distance less the true L differs from the exact one of demand 3 by less than 19 units": at every second of
-- an occultation within its limits
pub true_distance : (o : Occultation) (c : TrueC o.station.latitude) → InLimits o → (τ : ℤ) → InWindow o.window τ → (φ : Phase)
    → let m = moment_of (axis_of o.body) (place_of o.station) τ in
    let k = cone o.body φ in
    let y = sky_at o c seconds τ in
    Nineteen D (T y) (exact_u m) (exact_v m) (exact_edge φ m k) (true_u y) (true_v y) (true_edge φ y k)
true_distance o c i τ w φ =
    let a = axis_of o.body in
    let p = place_of o.station in
    let k = cone o.body φ in
    let y = sky_at o c seconds τ in
    let n = nineteen (moved_here y (lit≤ tt) (in-window-size o.window i.window τ w) (axis_sizes o.body i.body) i.station k (tangent_small o.body i.body φ) φ) in
    rw (← u-exact a p τ, ← v-exact a p τ, ← L-exact a p τ k) n

module _ (o : Occultation) (guard : pos 32 ≤ℤ o.guard) (c : TrueC o.station.latitude) where
  module _ (i : InLimits o) where
    true-sheet : (rest : List ℕ) → Demand3 (course_of o) (true_answers o c) (length (sheet_bytes o)) (sheet_bytes o ++ rest)
    true-sheet rest =
        record {
          seconds = (truly-said o guard c i);
          found = sheetOf (course_of o);
          read = reads_back o i rest;
          made = refl;
          changes = changes-once (course_of o) (sound o i) (true_answers o c) (truly-said o guard c i);
          ends = ends-exact (course_of o) (sound o i) (true_answers o c) (truly-said o guard c i);
          alternate = turns-alternate (course_of o) (sound o i) (true_answers o c) (truly-said o guard c i);
        }

  -- of the sheet that a call wrote, n bytes of its buffer (circumstances, sheet_answer and sheet_buffer: what
  -- `circumstances::sheet` promises)
  pub truth : (sines old : List ℕ) (n : ℕ) → sheet_answer o sines old ≡ Ok n → Demand3 (course_of o) (true_answers o c) n (sheet_buffer o sines old)
  unfolding sheet_answer sheet_buffer
  truth sines old n e = by-check (admitted o sines) refl e
    where
      never : {B : Type 0} (r : Refusal) → Err r ≡ Ok n → B
      never r e = let z : ◌≡◌ {A = ℕ} 0 1 = cc in absurd (omega arith)

      by-room : (b : Bool) → InLimits o → cond b (Ok (length (sheet_bytes o))) (Err (refusal 4 (length (sheet_bytes o)))) ≡ Ok n
          → Demand3 (course_of o) (true_answers o c) n (cond b (sheet_bytes o ++ drop (length (sheet_bytes o)) old) old)
      by-room true i e =
          let m : length (sheet_bytes o) ≡ n = cc in
          subst (λ (k : ℕ). Demand3 (course_of o) (true_answers o c) k (sheet_bytes o ++ drop (length (sheet_bytes o)) old)) m (true-sheet i (drop (length (sheet_bytes o)) old))
      by-room false i e = never (refusal 4 (length (sheet_bytes o))) e

      by-check : (k : Result Unit Refusal) → admitted o sines ≡ k → answer_by k o old ≡ Ok n → Demand3 (course_of o) (true_answers o c) n (buffer_by k o old)
      by-check (Err r) a e = never r e
      by-check (Ok tt) a e = by-room (leb (length (sheet_bytes o)) (length old)) (admitted-within o sines a).0 e

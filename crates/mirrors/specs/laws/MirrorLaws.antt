-- Why every request within the limits has its mirror (`Mirrored`).
use Rattle.std.specs.Prelude.{◌≡◌, List, ℕ, ℤ, length, Ok, Result, Err}
use Rattle.std.proofs.Math.Path.{refl, fun_ext}
use Rattle.std.proofs.Common.{sym, ap, subst, ◌∙◌, lit≤}
use Rattle.std.proofs.Math.IntN.{neg_ℤ}
use Rattle.sheet_types.specs.declared.refusals.Refusal.{Refusal}
use Rattle.elements.specs.declared.Body.{Body}
use Rattle.elements.specs.declared.Body.TheVariants as B
use Rattle.elements.specs.Mirror.{mirrored_body}
use Rattle.station.specs.Place.{place_of}
use Rattle.station.specs.Mirror.{mirrored_place}
use Rattle.station.proofs.laws.MirrorLaws.{place_mirrored}
use Rattle.shadow_geometry.specs.Shadow.{phases_of, u, v, M}
use Rattle.requests.specs.declared.Request.{Request}
use Rattle.requests.specs.declared.Occultation.{Occultation}
use Rattle.requests.specs.Requests.{of_eclipse, checked}
use Rattle.requests.specs.Shares.{sharing_of, sharing}
use Rattle.requests.specs.RequestLaws.{in-limits}
use Rattle.requests.specs.Admission.{room_checked}
use Rattle.requests.proofs.laws.AdmissionLaws.{admitted-room}
use Rattle.requests.specs.Mirror.{mirror_of, mirrored_occultation, mirror_for}
use Rattle.requests.specs.laws.MirrorLaws.{checked_mirrored, mirrored_twice, mirrored-is}
use Rattle.seconds.specs.Seconds.{moment_at, state_at, direction_at, magnitude_at}
use Rattle.seconds.specs.laws.MirrorLaws.{state-mirrored, magnitude-mirrored, u-mirrored, v-mirrored, M-mirrored, closest-mirrored}
use Rattle.obscuration.specs.laws.MirrorLaws.{share_mirrored}
use Rattle.local_circumstances.specs.Courses.{Course, sheetOf}
use Rattle.local_circumstances.specs.Directions.{AlikeButDirections}
use Rattle.local_circumstances.specs.laws.DirectionLaws.{redirected, sheet-alike, alike-length}
use Rattle.local_circumstances.specs.Course.{share_of, course_of}
use Rattle.circumstances.specs.WrittenSheet.{sheet_bytes}
use Rattle.circumstances.specs.Sheet.{answer_by, sheet_answer}
use Rattle.mirrors.specs.Mirror.{Mirrored}

abbrev most : ℕ
most = 9223372036854775807

-- ---- with the signs changed
module _ (o : Occultation) where
  abbrev o' : Occultation
  o' = mirrored_occultation neg_ℤ o

  -- the phases and the share are as they were
  phases-mirrored : (b : Body) → phases_of (mirrored_body neg_ℤ b) ≡ phases_of b
  phases-mirrored (B.Sun e) = refl
  phases-mirrored (B.Star s) = refl

  sharing-mirrored : sharing o' ≡ sharing o
  unfolding sharing
  sharing-mirrored = by o.body
    where
      by : (b : Body) → sharing_of (mirrored_body neg_ℤ b) o.share ≡ sharing_of b o.share
      by (B.Sun e) = refl
      by (B.Star s) = refl

  shares-mirrored : (τ : ℤ) → share_of o'.body (place_of o'.station) τ ≡ share_of o.body (place_of o.station) τ
  shares-mirrored τ = rw (place_mirrored o.station) (by o.body)
    where
      by : (b : Body) → share_of (mirrored_body neg_ℤ b) (mirrored_place (place_of o.station)) τ ≡ share_of b (place_of o.station) τ
      by (B.Sun e) = share_mirrored e (place_of o.station) τ
      by (B.Star s) = refl

  -- the course differs in its directions only
  course-mirrored : course_of o' ≡ redirected (course_of o) (direction_at o')
  course-mirrored =
      let s : state_at o' ≡ state_at o = fun_ext (λ φ. fun_ext (λ τ. state-mirrored o τ φ)) in
      let m : magnitude_at o' ≡ magnitude_at o = fun_ext (λ τ. magnitude-mirrored o τ) in
      let c : share_of o'.body (place_of o'.station) ≡ share_of o.body (place_of o.station) = fun_ext shares-mirrored in
      rw (s, m, c, closest-mirrored o, sharing-mirrored, phases-mirrored o.body)

  entries-mirrored : AlikeButDirections (sheetOf (course_of o')) (sheetOf (course_of o))
  entries-mirrored =
      subst (λ (c : Course). AlikeButDirections (sheetOf c) (sheetOf (course_of o))) (sym course-mirrored) (sheet-alike (course_of o) (direction_at o'))

  bytes-mirrored : length (sheet_bytes o') ≡ length (sheet_bytes o)
  unfolding sheet_bytes
  bytes-mirrored = alike-length (sheetOf (course_of o')) (sheetOf (course_of o)) entries-mirrored

-- a sheet as long gets the same answer
answers_mirrored : (p o : Occultation) → checked p ≡ Ok tt → checked o ≡ Ok tt → length (sheet_bytes p) ≡ length (sheet_bytes o) → (sines buffer : List ℕ)
    → sheet_answer p sines buffer ≡ sheet_answer o sines buffer
unfolding sheet_answer
answers_mirrored p o cp co l sines buffer =
    ap (λ (c : Result Unit Refusal). answer_by c p buffer) (sym (admitted-room p sines cp).0) ∙ by (room_checked sines)
    ∙ ap (λ (c : Result Unit Refusal). answer_by c o buffer) (admitted-room o sines co).0
  where
    by : (c : Result Unit Refusal) → answer_by c p buffer ≡ answer_by c o buffer
    by (Err r) = refl
    by (Ok tt) = rw l

-- ---- the theorem
pub the_mirror : (o : Occultation) → checked o ≡ Ok tt → Mirrored o
the_mirror o w =
    let e : mirror_for o ≡ mirrored_occultation neg_ℤ o = mirrored-is most (lit≤ tt) o (in-limits o w) in
    let l : length (sheet_bytes (mirror_for o)) ≡ length (sheet_bytes o) = ap (λ (x : Occultation). length (sheet_bytes x)) e ∙ bytes-mirrored o in
    let c : checked (mirror_for o) ≡ (Ok tt) = checked_mirrored most o ∙ w in
    record {
      within = c;
      state = λ φ τ. ap (λ (x : Occultation). state_at x φ τ) e ∙ state-mirrored o τ φ;
      square = λ τ. ap (λ (x : Occultation). M (moment_at x τ)) e ∙ M-mirrored o τ;
      magnitude = λ τ. ap (λ (x : Occultation). magnitude_at x τ) e ∙ magnitude-mirrored o τ;
      east = λ τ. ap (λ (x : Occultation). u (moment_at x τ)) e ∙ u-mirrored o τ;
      north = λ τ. ap (λ (x : Occultation). v (moment_at x τ)) e ∙ v-mirrored o τ;
      entries = subst (λ (x : Occultation). AlikeButDirections (sheetOf (course_of x)) (sheetOf (course_of o))) (sym e) (entries-mirrored o);
      bytes = l;
      answer = λ sines buffer. answers_mirrored (mirror_for o) o c w l sines buffer;
      twice = mirrored_twice most o;
    }

-- the mirror of an eclipse's request asks for its mirror
pub of_mirror : (q : Request) → of_eclipse (mirror_of q) ≡ mirror_for (of_eclipse q)
of_mirror q = refl

-- The stream stops exactly at bytes of wrong shape, whatever the buffers are; so it goes on only behind a whole
-- request. No other refusal has the number 10: the limits raise 1, 2, 13 and 3, the buffers 4.
use Rattle.std.specs.Prelude.{◌≡◌, Bool, ℕ, ◌<◌, eqb, leb, ℤ, Result, Ok, Err, Option, None, Some}
use Rattle.std.proofs.Math.Path.{refl, ap}
use Rattle.std.proofs.Common.{sym, ◌∙◌, arith, eqb-true}
use Rattle.std.proofs.Math.Bool.{true, false, cond}
use mathlib.Core.List.{List}
use Rattle.std.proofs.Math.ListN.{length, get_or}
use Rattle.sheet_types.specs.declared.refusals.Refusal.{Refusal}
use Rattle.sheet_types.specs.Refusals.{refusal, of_limits, andThen}
use Rattle.elements.specs.declared.Body.{Body}
use Rattle.elements.specs.declared.Body.TheVariants as B
use Rattle.elements.specs.Elements.{range_of}
use Rattle.elements.specs.Stars.{star_range_of, radius_range_of, body_checked}
use Rattle.station.specs.Station.{range_of as placed}
use Rattle.requests.specs.declared.Occultation.{Occultation}
use Rattle.requests.specs.Requests.{of_eclipse, of_star, guard_holds, checked}
use Rattle.requests.specs.Windows.{window_holds}
use Rattle.requests.specs.Admission.{room_checked, admitted}
use Rattle.circumstances.specs.WrittenSheet.{sheet_bytes}
use Rattle.circumstances.specs.Sheet.{answer_by, sheet_answer}
use Rattle.request_format.specs.declared.fields.Shape.{Shape}
use Rattle.request_format.specs.declared.fields.Shape.TheVariants as S
use Rattle.request_format.specs.Layout.{Reading, numbers, misshaped, bytes_by}
use Rattle.request_format.specs.laws.LayoutLaws.{length-bytes}
use Rattle.big_endian.specs.Numbers.{Bytes}
use Rattle.request_format.specs.Request.{pieces_for, size_for, bytes_for, reading_for}
use Rattle.request_format.specs.RoundTrip.{write_back}
use Rattle.request_format.specs.laws.RowByteLaws.{pieces_count}
use Rattle.request_format.specs.Input.{request_from, star_from, input_of, star_asked}
use Rattle.request_answers.specs.Sheet.{answer_to, star_answer}
use Rattle.streams.specs.Streams.{star_kind, size_from, is_star, answer_for, is_shape, stops_by, stops_for, is_misshaped, wrong_shape}
use Rattle.streams.specs.laws.StreamLaws.{eclipse-size, star-size}

-- ---- a request's numbers are never refused with 10

abbrev ten_by : Result Unit Refusal → Bool
ten_by (Ok tt) = false
ten_by (Err r) = is_shape r

record Other (c : Result Unit Refusal) : Type 0 where
  is : ten_by c ≡ false

other_limits : (n : ℕ) (l : Option ℕ) → eqb n 10 ≡ false → Other (of_limits n l)
other_limits n None h = record { is = refl }
other_limits n (Some place) h = record { is = h }

other_test : (t : Bool) (n place : ℕ) → eqb n 10 ≡ false → Other (cond t (Ok tt) (Err (refusal n place)))
other_test true n place h = record { is = refl }
other_test false n place h = record { is = h }

other_then : {a b : Result Unit Refusal} → Other a → Other b → Other (andThen a b)
other_then {a} {b} h g = by a h
  where
    by : (c : Result Unit Refusal) → Other c → Other (andThen c b)
    by (Ok tt) k = g
    by (Err r) k = k

other_body : (b : Body) → Other (body_checked b)
other_body (B.Sun e) = other_limits 2 (range_of e) refl
other_body (B.Star s) = other_then (other_limits 2 (star_range_of s) refl) (other_limits 13 (radius_range_of s.radius) refl)

other_admitted : (o : Occultation) (sines : List ℕ) → Other (admitted o sines)
unfolding admitted checked room_checked
other_admitted o sines =
    other_then
    (other_then (other_test (window_holds o.window) 1 0 refl)
    (other_then (other_test (guard_holds o.guard) 1 1 refl) (other_then (other_body o.body) (other_limits 3 (placed o.station) refl))))
    (other_test (leb 901 (length sines)) 4 901 refl)

never : (o : Occultation) (sines room : List ℕ) → stops_by (sheet_answer o sines room) ≡ false
unfolding sheet_answer
never o sines room = by (admitted o sines) (other_admitted o sines)
  where
    written : (t : Bool) (n : ℕ) → stops_by (cond t (Ok n) (Err (refusal 4 n))) ≡ false
    written true n = refl
    written false n = refl

    by : (c : Result Unit Refusal) → Other c → stops_by (answer_by c o room) ≡ false
    by (Ok tt) h = written (leb (length (sheet_bytes o)) (length room)) (length (sheet_bytes o))
    by (Err r) h = h.is

-- ---- the stream stops exactly at a wrong shape

module _ (s sines room : List ℕ) where
  star-stops : is_star s ≡ true → (r : Reading) → reading_for S.Star s ≡ r → stops_for s sines room ≡ is_misshaped r
  unfolding stops_for answer_for star_answer star_asked
  star-stops h (numbers ns) e = rw (h, e) (never (of_star (star_from ns)) sines room)
  star-stops h misshaped e = rw (h, e) refl

  eclipse-stops : is_star s ≡ false → (r : Reading) → reading_for S.Eclipse s ≡ r → stops_for s sines room ≡ is_misshaped r
  unfolding stops_for answer_for answer_to input_of
  eclipse-stops h (numbers ns) e = rw (h, e) (never (of_eclipse (request_from ns)) sines room)
  eclipse-stops h misshaped e = rw (h, e) refl

  pub stops-are : stops_for s sines room ≡ wrong_shape s
  unfolding wrong_shape
  stops-are = by (is_star s) refl
    where
      by : (t : Bool) → is_star s ≡ t → stops_for s sines room ≡ cond (is_star s) (is_misshaped (reading_for S.Star s)) (is_misshaped (reading_for S.Eclipse s))
      by true h = star-stops h (reading_for S.Star s) refl ∙ rw h refl
      by false h = eclipse-stops h (reading_for S.Eclipse s) refl ∙ rw h refl

-- ---- and goes on only behind a whole request

-- a request begins with the first byte, and it has as many bytes as that says
pub record Whole (s : List ℕ) : Type 0 where
  pub begins : 1 < size_from (get_or s 0 0)
  pub long : length s ≡ size_from (get_or s 0 0)

module _ (s : List ℕ) (b : Bytes s) where
  size_is : (shape : Shape) (ns : List ℤ) → reading_for shape s ≡ numbers ns → length s ≡ size_for shape
  unfolding bytes_for
  size_is shape ns e =
      let w = write_back shape s ns b e in
      ap length (sym w.2) ∙ length-bytes (pieces_for shape) ns (w.0 ∙ pieces_count shape)

  eclipse-first : (ns : List ℤ) → reading_for S.Eclipse s ≡ numbers ns → get_or s 0 0 ≡ 2
  unfolding bytes_for bytes_by
  eclipse-first ns e = ap (λ (l : List ℕ). get_or l 0 0) (sym (write_back S.Eclipse s ns b e).2)

  star-whole : is_star s ≡ true → (r : Reading) → reading_for S.Star s ≡ r → is_misshaped r ≡ false → Whole s
  star-whole h (numbers ns) e g =
      let f : get_or s 0 0 ≡ 5 = eqb-true (get_or s 0 0) star_kind h in
      let n : 79 ≡ size_from (get_or s 0 0) = star-size (get_or s 0 0) (λ q. omega (arith, q, f)) f in
      record { begins = omega (arith, n); long = size_is S.Star ns e ∙ n }
  star-whole h misshaped e g = let z : ◌≡◌ {A = ℕ} 0 1 = cc in absurd (omega arith)

  eclipse-whole : (r : Reading) → reading_for S.Eclipse s ≡ r → is_misshaped r ≡ false → Whole s
  eclipse-whole (numbers ns) e g =
      let n : 115 ≡ size_from (get_or s 0 0) = eclipse-size (get_or s 0 0) (eclipse-first ns e) in
      record { begins = omega (arith, n); long = size_is S.Eclipse ns e ∙ n }
  eclipse-whole misshaped e g = let z : ◌≡◌ {A = ℕ} 0 1 = cc in absurd (omega arith)

  pub goes_on : (sines room : List ℕ) → stops_for s sines room ≡ false → Whole s
  goes_on sines room g = by (is_star s) refl
    where
      by : (t : Bool) → is_star s ≡ t → Whole s
      by true h = star-whole h (reading_for S.Star s) refl (sym (star-stops s sines room h (reading_for S.Star s) refl) ∙ g)
      by false h = eclipse-whole (reading_for S.Eclipse s) refl (sym (eclipse-stops s sines room h (reading_for S.Eclipse s) refl) ∙ g)

-- Laws of the mirror in bytes.
--   mirror-put                           what is put is the mirror's bytes
--   bytes-hold, bytes-within, bytes-twice   they hold the mirror; taken twice it gives the first bytes back
--   room-short, room-enough, misshaped_room   the ways of an answer
use Rattle.std.specs.Prelude.{None, Some, ◌≡◌, refl, ℕ, ◌≤◌, ◌<◌, ℤ, Ok, Err}
use Rattle.std.proofs.Common.{sym, ◌∙◌, arith, lit≤}
use Rattle.std.proofs.Math.Path.{ap}
use mathlib.Core.List.{List, ◌++◌}
use borrow.Author.Tests.{le-leb, lt-leb}
use Rattle.std.proofs.Math.ListN.{length, drop}
use Rattle.std.proofs.lemmas.List.Edits.{sets}
use Rattle.sheet_types.specs.Refusals.{refusal}
use Rattle.elements.specs.Elements.{elements_of}
use Rattle.requests.specs.declared.Request.{Request}
use Rattle.requests.specs.Requests.{of_eclipse, checked}
use Rattle.requests.specs.RequestLaws.{in-limits}
use Rattle.requests.specs.Mirror.{mirror_of}
use Rattle.requests.specs.laws.MirrorLaws.{request_twice, request-mirrored}
use Rattle.request_format.specs.declared.fields.Shape.TheVariants as S
use Rattle.request_format.specs.Fields.{layout, count}
use Rattle.request_format.specs.Layout.{pieces_of, bytes_by, Reading, numbers, misshaped}
use Rattle.request_format.specs.laws.LayoutLaws.{length-bytes}
use Rattle.big_endian.specs.Numbers.{Bytes}
use Rattle.request_format.specs.Request.{size, put_of, bytes_for, bytes_of, after_for, bytesAfter, reading_of, got_of, numbers_after}
use Rattle.request_format.specs.RoundTrip.{read_back, write_back}
use Rattle.local_circumstances.specs.laws.Stores.{stores_start}
use Rattle.request_format.specs.Input.{request_from, station_from, window_from, input_by, input_of}
use Rattle.request_format.specs.laws.InputLaws.{input_refused}
use Rattle.mirrors.specs.Bytes.{numbers_of, mirror_in_bytes, mirror_bytes, mirror_answer, mirror_buffer}
use Rattle.mirrors.specs.laws.ChangedLaws.{changed, by_spelling, changed-is, changed-count, changed_fit}

-- bytes of the shape have their numbers
pub reading-is : (s : List ℕ) (ns old : List ℤ) → got_of (reading_of s) ≡ Some tt → ns ≡ numbers_after (reading_of s) old → reading_of s ≡ numbers ns
reading-is s ns old e n = by (reading_of s) e n
  where
    by : (r : Reading) → got_of r ≡ Some tt → ns ≡ numbers_after r old → r ≡ numbers ns
    by (numbers ms) f g = ap numbers (sym g)
    by misshaped f g = let z : ◌≡◌ {A = ℕ} 0 1 = cc in absurd (omega arith)

module _ (s : List ℕ) (b : Bytes s) (ns : List ℤ) (e : reading_of s ≡ numbers ns) where
  abbrev q : Request
  q = request_from ns

  back : (length ns ≡ count) × (put_of ns ≡ Ok tt) × (bytes_of ns ≡ s)
  back = write_back S.Eclipse s ns b e

  -- what is put in the buffer
  pub mirror-put : (ms : List ℤ) (old made : List ℕ) → ms ≡ changed ns → made ≡ bytesAfter ms old → made ≡ mirror_bytes q
  unfolding after_for mirror_bytes
  mirror-put ms old made m p = p ∙ rw (m, changed_fit ns back.1, changed-is ns back.0)

  pub mirror-length : length (mirror_bytes q) ≡ size
  unfolding mirror_bytes bytes_for
  mirror-length = ap (λ (l : List ℤ). length (bytes_by (pieces_of layout) l)) (sym (changed-is ns back.0)) ∙ length-bytes (pieces_of layout) (changed ns) (changed-count ns back.0)

  mirror-reading : reading_of (mirror_bytes q) ≡ numbers (numbers_of (mirror_in_bytes q))
  unfolding mirror_bytes
  mirror-reading =
      rw (← changed-is ns back.0) (read_back S.Eclipse (changed ns) (changed-count ns back.0) (changed_fit ns back.1))

  -- the bytes of the mirror are a request's, and hold the mirror
  pub bytes-hold : input_of (mirror_bytes q) ≡ Ok (mirror_in_bytes q)
  unfolding input_of request_from elements_of station_from window_from
  bytes-hold = ap input_by mirror-reading

  -- which is the request's mirror, within the limits
  pub bytes-within : checked (of_eclipse q) ≡ Ok tt → mirror_in_bytes q ≡ mirror_of q
  bytes-within w =
      let i = in-limits (of_eclipse q) w in
      request-mirrored 2147483647 (lit≤ tt) q i ∙ sym (request-mirrored 9223372036854775807 (lit≤ tt) q i)

  -- taken twice it gives the first bytes back
  pub bytes-twice : mirror_bytes (mirror_in_bytes q) ≡ s
  unfolding mirror_bytes request_from elements_of station_from window_from
  bytes-twice =
      ap (λ (r : Request). bytes_of (numbers_of r)) (request_twice 2147483647 q)
      ∙ ap bytes_of (by_spelling (λ l. numbers_of (request_from l) ≡ l) (λ f. refl) ns back.0)
      ∙ back.2

  -- ---- the ways of an answer
  module _ (old : List ℕ) where
    input-is : input_of s ≡ Ok q
    unfolding input_of
    input-is = ap input_by e

    pub room-short : length old < size → (Err (refusal 4 size) ≡ mirror_answer s old) × (old ≡ mirror_buffer s old)
    unfolding mirror_answer mirror_buffer
    room-short h = (rw (input-is, lt-leb size (length old) h), rw (input-is, lt-leb size (length old) h))

    pub room-enough : size ≤ length old → (made new : List ℕ) → made ≡ mirror_bytes q → new ≡ sets old 0 made
        → (Ok size ≡ mirror_answer s old) × (new ≡ mirror_buffer s old)
    unfolding mirror_answer mirror_buffer
    room-enough h made new m n =
        let w : new ≡ mirror_bytes q ++ drop size old = n ∙ rw m (stores_start (mirror_bytes q) old (omega (arith, mirror-length)) ∙ rw mirror-length) in
        (rw (input-is, le-leb size (length old) h), rw (input-is, le-leb size (length old) h) w)

pub misshaped_room : (s old : List ℕ) → got_of (reading_of s) ≡ None → (Err (refusal 10 0) ≡ mirror_answer s old) × (old ≡ mirror_buffer s old)
unfolding mirror_answer mirror_buffer
misshaped_room s old e = let i = sym (input_refused s e) in (rw i, rw i)

-- The mirror of a request, and of what it asks for. Definitions only.
use Rattle.std.specs.Prelude.{cond, ℕ, leb, ℤ, neg_ℤ, nat_abs}
use Rattle.elements.specs.Mirror.{mirrored_elements, mirrored_body}
use Rattle.station.specs.Mirror.{mirrored_station}
use Rattle.requests.specs.declared.Request.{Request}
use Rattle.requests.specs.declared.Occultation.{Occultation}

-- document 02, wish 13: "change the sign of all y and d coefficients and of the latitude", and nothing else; f changes
-- a sign
abbrev pub mirrored_request : (f : ℤ → ℤ) → Request → Request
mirrored_request f q = record { elements = mirrored_elements f q.elements; station = mirrored_station f q.station; window = q.window; guard = q.guard; share = q.share }

abbrev pub mirrored_occultation : (f : ℤ → ℤ) → Occultation → Occultation
mirrored_occultation f o =
    record { body = mirrored_body f o.body; station = mirrored_station f o.station; window = o.window; guard = o.guard; share = o.share }

-- "change the sign": of a number of at most `most` in size. A larger one stays as it is; all ranges leave it out
unfoldable pub opposite : (most : ℕ) → ℤ → ℤ
opposite most z = cond (leb (nat_abs z) most) (neg_ℤ z) z

-- in 64 bits each number has its opposite but one, -2^63
abbrev pub mirror_of : Request → Request
mirror_of q = mirrored_request (opposite 9223372036854775807) q

abbrev pub mirror_for : Occultation → Occultation
mirror_for o = mirrored_occultation (opposite 9223372036854775807) o

-- What callers use of a request that is admitted.
--   room-short, room-long             the ways of a buffer: what is answered, and what it holds
--   admitted-refused, admitted-room   the ways of a request
--   admitted-within                   it is within its limits, and the buffer holds table S
--   admitted-four                     a 4 is the buffer's, of a request within its limits
use Rattle.std.specs.Prelude.{◌≡◌, List, ℕ, ◌≤◌, ◌<◌, length, Err, Ok, Result}
use Rattle.std.proofs.Math.Path.{refl}
use Rattle.std.proofs.Common.{sym, subst, ◌∙◌, le-leb}
use Rattle.std.proofs.lemmas.Bool.{lt-leb}
use Rattle.sheet_types.specs.declared.refusals.Refusal.{Refusal}
use Rattle.sheet_types.specs.Refusals.{refusal, andThen}
use Rattle.sheet_types.specs.laws.RefusalLaws.{both-within}
use Rattle.sine_table.specs.Table.{Sines}
use Rattle.sine_table.specs.Room.{filled}
use Rattle.sine_table.specs.laws.RoomLaws.{filled-sines}
use Rattle.requests.specs.declared.Occultation.{Occultation}
use Rattle.requests.specs.Requests.{checked}
use Rattle.requests.specs.RequestLaws.{InLimits, in-limits, never-room}
use Rattle.requests.specs.Admission.{room_checked, admitted, sines_after}

module _ (room : List ℕ) where
  pub room-short : length room < 901 → (Err (refusal 4 901) ≡ room_checked room) × (room ≡ sines_after (room_checked room) room)
  unfolding room_checked
  room-short h = rw (lt-leb 901 (length room) h) (refl, refl)

  pub room-long : 901 ≤ length room → ((Ok tt) ≡ room_checked room) × (filled room ≡ sines_after (room_checked room) room)
  unfolding room_checked
  room-long h = rw (le-leb 901 (length room) h) (refl, refl)

module _ (o : Occultation) (room : List ℕ) where
  pub admitted-refused : (r : Refusal) → checked o ≡ Err r → (Err r ≡ admitted o room) × (room ≡ sines_after (admitted o room) room)
  unfolding admitted
  admitted-refused r e = rw e (refl, refl)

  pub admitted-room : checked o ≡ Ok tt
      → (room_checked room ≡ admitted o room) × (sines_after (room_checked room) room ≡ sines_after (admitted o room) room)
  unfolding admitted
  admitted-room e = rw e (refl, refl)

  checked-within : admitted o room ≡ Ok tt → checked o ≡ Ok tt
  unfolding admitted
  checked-within e = (both-within (checked o) (room_checked room) e).0

  pub admitted-within : admitted o room ≡ Ok tt → InLimits o × Sines (sines_after (admitted o room) room)
  admitted-within e = (in-limits o (checked-within e), subst (λ (c : Result Unit Refusal). Sines (sines_after c room)) (sym e) (filled-sines room))

  pub admitted-four : (r : Refusal) → admitted o room ≡ Err r → r.number ≡ 4 → InLimits o
  unfolding admitted
  admitted-four r e four = in-limits o (by (checked o) refl e)
    where
      by : (c : Result Unit Refusal) → checked o ≡ c → andThen c (room_checked room) ≡ Err r → checked o ≡ Ok tt
      by (Ok tt) h e = h
      by (Err s) h e = absurd (never-room o r (h ∙ e) four)

-- What stands beside a sheet's listing for an observer: docs/CLOCK.md, "The altitude and the notes", whose sentences are
-- quoted. The altitude at a second: horizon, Horizon; the state at one: seconds, OneSecond.
use Rattle.std.specs.Prelude.{ℕ, suc, Bool, true, false, cond, List, [], ◌∷◌, ◌++◌, eqb, ℤ, pos, negsuc, replicate, Result, Ok, Err, Option, None, Some}
use Rattle.shadow.specs.declared.Second.{Second}
use Rattle.horizon.specs.declared.Horizon.{Horizon}
use Rattle.sheet_types.specs.declared.refusals.Refusal.{Refusal}
use Rattle.elements.specs.declared.Body.{Body}
use Rattle.elements.specs.declared.Body.TheVariants as B
use Rattle.requests.specs.declared.Occultation.{Occultation}
use Rattle.seconds.specs.OneSecond.{second_answer}
use Rattle.horizon.specs.Horizon.{horizon_answer}
use Rattle.sheet_format.specs.declared.kinds.Entry.{Entry}
use Rattle.sheet_format.specs.StoredSeconds.{second_of}
use Rattle.decimal_text.specs.Texts.{letters}
use Rattle.listing_lines.specs.declared.clock.Altitude.{Altitude}
use Rattle.listing_lines.specs.declared.clock.Altitude.TheVariants as A
use Rattle.listing_lines.specs.declared.clock.Seconds.{Seconds}
use Rattle.listing_lines.specs.declared.clock.Seconds.TheVariants.{Moment, Contact}
use Rattle.listing_lines.specs.declared.clock.Shown.{Shown}
use Rattle.listing_lines.specs.declared.clock.Shown.TheVariants.{Nothing, InstantLine, Times}
use Rattle.listing_lines.specs.Clock.{shown_for}
use Rattle.listings.specs.declared.sky.View.{View}
use Rattle.listings.specs.declared.sky.View.TheVariants as Seen

-- ---- the altitude

-- tenths of a degree, by their sign
abbrev pub altitude_by : ℤ → Altitude
altitude_by (pos n) = A.Above n
altitude_by (negsuc n) = A.Below (suc n)

-- that of a horizon; none where it is refused, which no second of a sheet is
abbrev pub altitude_in : Result Horizon Refusal → Altitude
altitude_in (Ok h) = altitude_by h.altitude
altitude_in (Err r) = A.Nothing

-- at second τ, with 901 numbers for table S
unfoldable pub altitude_at : Occultation → ℤ → Altitude
altitude_at o τ = altitude_in (horizon_answer o τ (replicate 901 0))

-- "at the later of the two seconds of a contact", "at the closest second"
abbrev pub altitude_of : Occultation → Seconds → Altitude
altitude_of o (Moment s) = altitude_at o (second_of s)
altitude_of o (Contact from to) = altitude_at o (second_of to)

abbrev pub altitude_shown : Occultation → Shown → Altitude
altitude_shown o Nothing = A.Nothing
altitude_shown o InstantLine = A.Nothing
altitude_shown o (Times s) = altitude_of o s

-- behind an entry
abbrev pub altitude_for : Option Occultation → Entry → Altitude
altitude_for None e = A.Nothing
altitude_for (Some o) e = altitude_shown o (shown_for e.kind e.a e.b)

-- ---- whether it is below the horizon at every contact

-- an entry with from and to
abbrev pub is_contact : Shown → Bool
is_contact Nothing = false
is_contact InstantLine = false
is_contact (Times (Moment s)) = false
is_contact (Times (Contact from to)) = true

-- after a contact with an altitude: Below, where there was one and all were below; Above, where one was not
abbrev pub seen_after : View → Altitude → View
seen_after v A.Nothing = v
seen_after v (A.Above n) = Seen.Above
seen_after Seen.Nothing (A.Below n) = Seen.Below
seen_after Seen.Below (A.Below n) = Seen.Below
seen_after Seen.Above (A.Below n) = Seen.Above

unfoldable pub view_after : View → Entry → Altitude → View
view_after v e x = cond (is_contact (shown_for e.kind e.a e.b)) (seen_after v x) v

-- after some entries
unfoldable pub view_of : Option Occultation → View → List Entry → View
view_of y v [] = v
view_of y v (e ∷ es) = view_of y (view_after v e (altitude_for y e)) es

abbrev pub is_below : View → Bool
is_below Seen.Nothing = false
is_below Seen.Below = true
is_below Seen.Above = false

-- ---- the notes

-- inside the penumbra, or the shadow of a star, at second τ: the state that document 01 calls inside
abbrev pub inside_in : Result Second Refusal → Bool
inside_in (Ok x) = eqb x.penumbra 1
inside_in (Err r) = false

unfoldable pub inside_at : Occultation → ℤ → Bool
inside_at o τ = inside_in (second_answer o τ (replicate 901 0))

-- the words for the Sun, or those for a star
abbrev pub note_for : Body → List ℕ → List ℕ → List ℕ
note_for (B.Sun e) sun star = sun
note_for (B.Star s) sun star = star

-- "one line `note ..` for each of these that holds"
unfoldable pub notes_of : Occultation → View → List ℕ
notes_of o v =
    cond (is_below v)
    (note_for o.body (letters "note the Sun is below the horizon at every contact\n") (letters "note the star is below the horizon at every contact\n"))
    []
    ++ cond (inside_at o o.window.first)
    (note_for o.body (letters "note the eclipse began before the window\n") (letters "note the occultation began before the window\n")) []
    ++ cond (inside_at o o.window.last)
    (note_for o.body (letters "note the eclipse ends after the window\n") (letters "note the occultation ends after the window\n")) []

abbrev pub notes_for : Option Occultation → View → List ℕ
notes_for None v = []
notes_for (Some o) v = notes_of o v

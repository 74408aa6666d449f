-- What is claimed of the contacts of a sheet. In the customer's words:
--   "Of each enter and leave of a sheet with a guard of 32 or more two hundredths of a second are found, in order and
--   between its two seconds. At the one the station is truly outside and at the other truly inside, for the elements
--   and the station as they are given; so the true contact lies between them."
-- Definitions only. The sentence is ours; no document has it. That a contact lies between is by words: the true u, v
-- and L are continuous in time.
use Rattle.std.specs.Prelude.{◌≡◌, ◌⊎◌, ℤ, pos, ◌*ℤ◌, ◌≤ℤ◌, ◌<ℤ◌, Some}
use Rattle.sheet_types.specs.declared.phases.Phase.{Phase}
use Rattle.shadow_geometry.specs.Shadow.{cone}
use Rattle.requests.specs.declared.Occultation.{Occultation}
use Rattle.contacts.specs.declared.entries.Entry as Contact
use Rattle.contacts.specs.declared.entries.Entry.TheVariants as C
use Rattle.sheet_format.specs.StoredSeconds.{second_of}
use Rattle.contact_times.specs.Parts.{hundredths}
use Rattle.contact_times.specs.Brackets.{bracket_of}
use Rattle.contact_times.specs.Contacts.{crossing}
use Rattle.sky_accuracy.specs.TruePlace.{TrueC}
use Rattle.sky_accuracy.specs.TrueShadow.{TrulyInside}
use Rattle.sky_accuracy.specs.Truth.{sky_at}

-- the true answer of a phase at τ hundredths; truly outside is any that is not truly inside
abbrev pub InsideAt : (o : Occultation) → TrueC o.station.latitude → Phase → ℤ → Type 0
InsideAt o c φ τ = TrulyInside φ (sky_at o c hundredths τ) (cone o.body φ)

abbrev pub OutsideAt : (o : Occultation) → TrueC o.station.latitude → Phase → ℤ → Type 0
OutsideAt o c φ τ = InsideAt o c φ τ → ⊥

-- two hundredths a and b between the seconds from and to, found by the rule; Before holds at a and After at b
pub record Bracketed (o : Occultation) (φ : Phase) (from to : ℤ) (Before After : ℤ → Type 0) : Type 0 where
  pub a : ℤ
  pub b : ℤ
  pub found : bracket_of (crossing o φ) from to ≡ Some (a, b)
  pub least : (from *ℤ pos 100) ≤ℤ a
  pub order : a <ℤ b
  pub most : b ≤ℤ (to *ℤ pos 100)
  pub before : Before a
  pub after : After b

-- of an entry of a phase, its seconds as they are stored; a graze or an open entry claims no contact
abbrev pub ContactTrue : (o : Occultation) → TrueC o.station.latitude → Phase → Contact.Entry → Type 0
ContactTrue o c φ (C.Enter f t) = Bracketed o φ (second_of f) (second_of t) (OutsideAt o c φ) (InsideAt o c φ)
ContactTrue o c φ (C.Leave f t) = Bracketed o φ (second_of f) (second_of t) (InsideAt o c φ) (OutsideAt o c φ)
ContactTrue o c φ (C.Graze f t) = Unit
ContactTrue o c φ (C.Open f t) = Unit

-- of an answer, two hundredths a and b for the seconds from and to
pub record AnswerTrue (o : Occultation) (c : TrueC o.station.latitude) (φ : Phase) (from to a b : ℤ) : Type 0 where
  pub least : (from *ℤ pos 100) ≤ℤ a
  pub order : a <ℤ b
  pub most : b ≤ℤ (to *ℤ pos 100)
  pub contact : (OutsideAt o c φ a × InsideAt o c φ b) ⊎ (InsideAt o c φ a × OutsideAt o c φ b)

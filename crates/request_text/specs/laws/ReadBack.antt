-- Nothing typed is lost: the library reads in the bytes just the request of the numbers typed.
use Rattle.std.specs.Prelude.{◌≡◌, List, ℕ, ℤ, Option}
use Rattle.calendar.specs.declared.Instant.{Instant}
use Rattle.request_format.specs.declared.fields.Shape.{Shape}
use Rattle.request_format.specs.Request.{bytes_for}
use Rattle.request_text.specs.Typing.{given}
use Rattle.request_text.specs.Encoded.{ReadAs}
use Rattle.request_text.specs.laws.EncodedLaws.{fit_read}
use Rattle.request_text.specs.Meaning.{asked, meaning_of}
use Rattle.request_text.specs.laws.Asked.{asked-fit}

pub asked_read : (text : List ℕ) (shape : Shape) (ns : List ℤ) (x : Option Instant) → meaning_of text ≡ asked shape ns x
    → ReadAs shape (given ns) (bytes_for shape ns)
asked_read text shape ns x e = fit_read shape ns (asked-fit text shape ns x e)

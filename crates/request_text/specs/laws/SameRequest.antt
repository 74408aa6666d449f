-- The instant is no part of a request: a text that is taken asks for the same numbers, so the same bytes, as with the
-- line that names the instant empty.
use Rattle.std.specs.Prelude.{◌≡◌, List, map, ℕ, ◌≤◌, ℤ, length, Option, None}
use Rattle.std.proofs.Common.{◌∙◌}
use Rattle.calendar.specs.declared.Instant.{Instant}
use Rattle.request_format.specs.declared.fields.Shape.{Shape}
use Rattle.tokens.specs.Text.{lines_of}
use Rattle.request_text.specs.laws.Beside.{emptied, typing-emptied, shape_emptied}
use Rattle.request_text.specs.laws.ToldLaws.{told-emptied}
use Rattle.request_text.specs.Meaning.{asked, meaning_of}
use Rattle.request_text.specs.laws.Asked.{asked_gives, gives_asked}

pub same-request : (text other : List ℕ) (shape : Shape) (ns : List ℤ) (x : Option Instant) → lines_of other ≡ map emptied (lines_of text)
    → length other ≤ 65536 → meaning_of text ≡ asked shape ns x → meaning_of other ≡ asked shape ns None
same-request text other shape ns x e l m =
    let g = asked_gives text shape ns x m in
    gives_asked other shape ns None l
    record {
      asks = shape_emptied text other e ∙ g.asks;
      numbers = typing-emptied shape text other e ∙ g.numbers;
      instant = told-emptied text other e;
    }

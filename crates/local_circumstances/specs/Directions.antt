-- A sheet with its directions left out. Definitions only.
use Rattle.std.specs.Prelude.{◌≡◌, List, map}
use Rattle.sheet_format.specs.declared.kinds.Kind.{Kind}
use Rattle.sheet_format.specs.declared.kinds.Kind.TheVariants as K
use Rattle.sheet_format.specs.declared.kinds.Entry.{Entry}
use Rattle.sheet_format.specs.Entries.{enter, leave}

-- an entry with its direction left out, which enter and leave have
abbrev pub directionless : Kind → Entry → Entry
directionless (K.Enter φ) e = enter φ e.a e.b 0
directionless (K.Leave φ) e = leave φ e.a e.b 0
directionless K.Head e = e
directionless (K.Graze φ) e = e
directionless (K.Open φ) e = e
directionless K.Closest e = e
directionless K.Share e = e
directionless K.End e = e

abbrev pub without_direction : Entry → Entry
without_direction e = directionless e.kind e

-- the same entries in the same places, directions left out
abbrev pub AlikeButDirections : (es fs : List Entry) → Type 0
AlikeButDirections es fs = map without_direction es ≡ map without_direction fs

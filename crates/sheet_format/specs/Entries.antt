-- The entries of a sheet by name.
use Rattle.std.specs.Prelude.{ℕ}
use Rattle.sheet_types.specs.declared.phases.Phase.{Phase}
use Rattle.sheet_format.specs.declared.kinds.Kind.TheVariants as K
use Rattle.sheet_format.specs.declared.kinds.Entry.{Entry}

-- station, first and last second, guard
abbrev pub head : ℕ → ℕ → ℕ → ℕ → Entry
head station first last guard = record { kind = K.Head; a = station; b = first; c = last; d = guard }

-- of a phase: from, to, direction
abbrev pub enter : Phase → ℕ → ℕ → ℕ → Entry
enter φ from to direction = record { kind = K.Enter φ; a = from; b = to; c = direction; d = 0 }

abbrev pub leave : Phase → ℕ → ℕ → ℕ → Entry
leave φ from to direction = record { kind = K.Leave φ; a = from; b = to; c = direction; d = 0 }

-- of a phase: from, to
abbrev pub graze : Phase → ℕ → ℕ → Entry
graze φ from to = record { kind = K.Graze φ; a = from; b = to; c = 0; d = 0 }

abbrev pub opened : Phase → ℕ → ℕ → Entry
opened φ from to = record { kind = K.Open φ; a = from; b = to; c = 0; d = 0 }

-- second, magnitude
abbrev pub closest : ℕ → ℕ → Entry
closest second magnitude = record { kind = K.Closest; a = second; b = magnitude; c = 0; d = 0 }

-- the covered share
abbrev pub share : ℕ → Entry
share covered = record { kind = K.Share; a = covered; b = 0; c = 0; d = 0 }

abbrev pub end : Entry
end = record { kind = K.End; a = 0; b = 0; c = 0; d = 0 }

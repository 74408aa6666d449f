-- Entries whose seconds are counted from another one: each second b more.
use Rattle.std.specs.Prelude.{ℕ, ◌+◌}
use Rattle.contacts.specs.declared.entries.Entry.{Entry}
use Rattle.contacts.specs.declared.entries.Entry.TheVariants.{Enter, Leave, Graze, Open}

abbrev pub shifted : ℕ → Entry → Entry
shifted b (Enter f t) = Enter (b + f) (b + t)
shifted b (Leave f t) = Leave (b + f) (b + t)
shifted b (Graze f t) = Graze (b + f) (b + t)
shifted b (Open f t) = Open (b + f) (b + t)

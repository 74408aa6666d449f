-- A number of a record in its bytes, by its width; what is absent has no bytes, and is 0.
use Rattle.std.specs.Prelude.{ℕ, List, []}
use Rattle.big_endian.specs.Numbers.{two, four, two_at, four_at}
use Rattle.sheet_format.specs.declared.kinds.Width.{Width}
use Rattle.sheet_format.specs.declared.kinds.Width.TheVariants.{Absent, Two, Four}

abbrev pub number : Width → ℕ → List ℕ
number Absent v = []
number Two v = two v
number Four v = four v

abbrev pub number_at : Width → List ℕ → ℕ → ℕ
number_at Absent s at = 0
number_at Two s at = two_at s at
number_at Four s at = four_at s at

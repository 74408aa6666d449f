-- A printed time read back, in tenths of a second from 0h of the instant's day. It is for the theorems alone: no code
-- reads one.
use Rattle.std.specs.Prelude.{ℕ, ◌+◌, ◌-◌, ◌*◌, cond, List, [], ◌∷◌, eqb, ℤ, pos, neg_ℤ, ◌+ℤ◌, ◌*ℤ◌, length, get_or, take, drop}
use Rattle.decimal_text.specs.Decimals.{read_after}

-- the number whose two digits stand at k
abbrev pub two_at : List ℕ → ℕ → ℕ
two_at s k = (get_or s k 0 - 48) * 10 + (get_or s (k + 1) 0 - 48)

-- a day: none, or a sign and a number with a letter behind it
abbrev pub read_day : List ℕ → ℤ
read_day [] = pos 0
read_day (sign ∷ s) = let n = read_after 0 (take (length s - 1) s) in cond (eqb sign 45) (neg_ℤ (pos n)) (pos n)

-- a time in tenths: two digits each at 0, 3 and 6, one at 9, then the day
unfoldable pub read_time : List ℕ → ℤ
read_time s = pos (((two_at s 0 * 60 + two_at s 3) * 60 + two_at s 6) * 10 + (get_or s 9 0 - 48)) +ℤ pos 864000 *ℤ read_day (drop 10 s)

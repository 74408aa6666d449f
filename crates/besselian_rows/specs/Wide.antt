-- Numbers in three parts: high·10^12 + mid·10^6 + low. Document 02 has "squares compared over whole numbers"; those of
-- the Sun's distance have 25 digits.
use Rattle.std.specs.Prelude.{◌≡◌, Bool, ℕ, ◌≤◌, ℤ, pos, nat_abs, ◌+ℤ◌, ◌*ℤ◌}
use Rattle.std.specs.Int.Signed.{le_z}
use Rattle.rounding.specs.Near.{floor_z}
use Rattle.besselian_rows.specs.declared.squares.Wide.{Wide}

-- what the parts stand for
abbrev pub value : ℤ → ℤ → ℤ → ℤ
value high mid low = high *ℤ pos 1000000000000 +ℤ mid *ℤ pos 1000000 +ℤ low

abbrev pub number : Wide → ℤ
number w = value w.high w.mid w.low

unfoldable pub not_negative : ℤ → ℤ → ℤ → Bool
not_negative high mid low = le_z (pos 0) (value high mid low)

-- what the functions give, and sizes for the next call
pub record IsFloor (n r : ℤ) : Type 0 where
  pub value : r ≡ floor_z n (pos 1000000)
  pub size : nat_abs r ≤ nat_abs n

pub record IsSquare (n : ℤ) (w : Wide) : Type 0 where
  pub value : number w ≡ n *ℤ n
  pub high : nat_abs w.high ≤ 5791242250000
  pub mid : nat_abs w.mid ≤ 4812995187000
  pub low : nat_abs w.low ≤ 999998000001

pub record IsSum (x y z : ℤ) (w : Wide) : Type 0 where
  pub value : number w ≡ x *ℤ x +ℤ y *ℤ y +ℤ z *ℤ z
  pub high : nat_abs w.high ≤ 20000000000000
  pub mid : nat_abs w.mid ≤ 20000000000000
  pub low : nat_abs w.low ≤ 20000000000000

-- parts that are small enough to be compared
pub record Small (m : ℕ) (w : Wide) : Type 0 where
  pub high : nat_abs w.high ≤ m
  pub mid : nat_abs w.mid ≤ m
  pub low : nat_abs w.low ≤ m

-- Document 02, wish 2: seven rows to their values, and what is refused.
use Rattle.std.specs.Prelude.{cond, List, [], ◌∷◌, ◌++◌, ℕ, zero, suc, ◌+◌, ◌*◌, ◌<◌, leb, eqb, ℤ, pos, length, get_or, drop, Result, Ok, Err}
use Rattle.sheet_types.specs.declared.refusals.Refusal.{Refusal}
use Rattle.sheet_types.specs.Refusals.{refusal}
use Rattle.besselian_rows.specs.declared.besselian.Row.{Row}
use Rattle.besselian_rows.specs.declared.besselian.Besselian.{Besselian}
use Rattle.besselian_rows.specs.Exact.{document02, accepted, Faithful}
use Rattle.besselian_rows.specs.Rounded.{elements_of}

abbrev pub number : List ℤ → ℕ → ℤ
number n k = get_or n k (pos 0)

-- a row of six numbers
abbrev pub row_from : List ℤ → Row
row_from n = record { sunx = number n 0; suny = number n 1; sunz = number n 2; moonx = number n 3; moony = number n 4; moonz = number n 5 }

-- "Take seven hourly rows of the Sun's and the Moon's apparent place as rectangular coordinates in whole units": row i
-- of the numbers
unfoldable pub rowAt : List ℤ → ℕ → Row
rowAt n i =
    record {
      sunx = number n (6 * i);
      suny = number n (6 * i + 1);
      sunz = number n (6 * i + 2);
      moonx = number n (6 * i + 3);
      moony = number n (6 * i + 4);
      moonz = number n (6 * i + 5);
    }

-- "11 with the first row, 0 to 6, where ..": of the k rows from row i on
unfoldable pub first_refused : List ℤ → ℕ → ℕ → Result Unit ℕ
first_refused n i zero = Ok tt
first_refused n i (suc k) = cond (accepted (rowAt n i)) (first_refused n (suc i) k) (Err i)

-- 10 for another length than 42, then 11, then 4 with 56 where the buffer is short
abbrev in_room : Result Unit ℕ → ℕ → Result Unit Refusal
in_room (Err i) room = Err (refusal 11 i)
in_room (Ok tt) room = cond (leb 56 room) (Ok tt) (Err (refusal 4 56))

unfoldable pub answer_to : List ℤ → ℕ → Result Unit Refusal
answer_to n room = cond (eqb (length n) 42) (in_room (first_refused n 0 7) room) (Err (refusal 10 0))

-- "make x, y, sine and cosine of d, and tan f and l of both cones for each row"
abbrev pub eight : Besselian → List ℤ
eight b = b.x ∷ b.y ∷ b.sind ∷ b.cosd ∷ b.tanf1 ∷ b.tanf2 ∷ b.l1 ∷ b.l2 ∷ []

-- of the first k rows, with document 02's radii
unfoldable pub values_of : List ℤ → ℕ → List ℤ
values_of n zero = []
values_of n (suc k) = values_of n k ++ eight (elements_of document02 (rowAt n k))

-- after a refusal the buffer holds its old numbers, after success the numbers past the values do
abbrev pub values_after : Result Unit Refusal → List ℤ → List ℤ → List ℤ
values_after (Ok tt) n old = values_of n 7 ++ drop 56 old
values_after (Err r) n old = old

-- the eight values of row i that stand in a buffer
unfoldable pub elements_at : List ℤ → ℕ → Besselian
elements_at v i =
    record {
      x = number v (8 * i);
      y = number v (8 * i + 1);
      sind = number v (8 * i + 2);
      cosd = number v (8 * i + 3);
      tanf1 = number v (8 * i + 4);
      tanf2 = number v (8 * i + 5);
      l1 = number v (8 * i + 6);
      l2 = number v (8 * i + 7);
    }

-- "Against the exact value, .. within 4 units and .. within 1,000": said of the numbers in the caller's buffer
abbrev pub Claimed : Result Unit Refusal → List ℤ → List ℤ → Type 0
Claimed (Ok tt) n after = (i : ℕ) → i < 7 → Faithful document02 (rowAt n i) (elements_at after i)
Claimed (Err r) n after = Unit

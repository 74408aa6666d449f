-- A number written and read back, and read and written back, whatever its width.
use Rattle.std.specs.Prelude.{ℕ, zero, suc, ◌+◌, ◌*◌, ◌/◌, ◌%◌, ◌≤◌, ◌<◌, ◌≡◌, refl, List, [], ◌∷◌, ◌++◌, length, get_or, drop, take}
use Rattle.std.proofs.Common.{sym, ap, ◌∙◌, arith, add_assoc, add-zero, add-one, get_or-append-add, drop-cons}
use Rattle.sheet_format.specs.declared.kinds.Width.{Width}
use Rattle.sheet_format.specs.declared.kinds.Width.TheVariants.{Absent, Two, Four}
use Rattle.sheet_format.specs.Kinds.{bytes_in}
use Rattle.big_endian.specs.Numbers.{two_at, four_at, Bytes}
use Rattle.sheet_format.specs.Numbers.{number, number_at}

-- ---- what is written is read back

-- a number fits its width
abbrev pub Fits : Width → ℕ → Type 0
Fits Absent v = v ≡ 0
Fits Two v = v < 65536
Fits Four v = v < 4294967296

two_shift : (p s : List ℕ) (i : ℕ) → two_at (p ++ s) (length p + i) ≡ two_at s i
two_shift p s i = rw (get_or-append-add p s i 0, add_assoc (length p) i 1, get_or-append-add p s (i + 1) 0)

number_shift : (w : Width) (p s : List ℕ) (i : ℕ) → number_at w (p ++ s) (length p + i) ≡ number_at w s i
number_shift Absent p s i = refl
number_shift Two p s i = two_shift p s i
number_shift Four p s i = rw (two_shift p s i, add_assoc (length p) i 2, two_shift p s (i + 2))

first_back : (w : Width) (v : ℕ) → Fits w v → (rest : List ℕ) → number_at w (number w v ++ rest) 0 ≡ v
first_back Absent v h rest = sym h
first_back Two v h rest = omega arith
first_back Four v h rest = omega arith

-- a number that stands behind p is read back
pub number_back : (w : Width) (v : ℕ) → Fits w v → (p rest : List ℕ) (at : ℕ) → at ≡ length p → number_at w (p ++ (number w v ++ rest)) at ≡ v
number_back w v h p rest at q =
    ap (number_at w (p ++ (number w v ++ rest))) (q ∙ sym (add-zero (length p)))
    ∙ number_shift w p (number w v ++ rest) 0 ∙ first_back w v h rest

-- ---- what is read is written back

-- n elements from `at` on
abbrev span : List ℕ → ℕ → ℕ → List ℕ
span s at zero = []
span s at (suc n) = get_or s at 0 ∷ span s (at + 1) n

take-span : (s : List ℕ) (at n : ℕ) → at + n ≤ length s → take n (drop at s) ≡ span s at n
take-span s at zero h = refl
take-span s at (suc n) h =
    rw (drop-cons s at 0 (omega arith)) (ap (λ l. get_or s at 0 ∷ l) (rw (← add-one at) (take-span s (at + 1) n (omega arith))))

module _ (s : List ℕ) (b : Bytes s) where
  high : (i j : ℕ) → (get_or s i 0 * 256 + get_or s j 0) / 256 % 256 ≡ get_or s i 0
  high i j = omega (arith, b i, b j)

  low : (i j : ℕ) → (get_or s i 0 * 256 + get_or s j 0) % 256 ≡ get_or s j 0
  low i j = omega (arith, b i, b j)

  upper : (i : ℕ) → four_at s i / 65536 ≡ two_at s i
  upper i = omega (arith, b (i + 2), b (i + 2 + 1))

  lower_high : (i : ℕ) → four_at s i / 256 % 256 ≡ get_or s (i + 2) 0
  lower_high i = omega (arith, b i, b (i + 1), b (i + 2), b (i + 2 + 1))

  lower-low : (i : ℕ) → four_at s i % 256 ≡ get_or s (i + 2 + 1) 0
  lower-low i = omega (arith, b i, b (i + 1), b (i + 2), b (i + 2 + 1))

  spelled : (w : Width) (at : ℕ) → span s at (bytes_in w) ≡ number w (number_at w s at)
  spelled Absent at = refl
  spelled Two at = rw (high at (at + 1), low at (at + 1))
  spelled Four at = rw (upper at, lower_high at, lower-low at, high at (at + 1), low at (at + 1)) (simp add_assoc)

  -- the bytes of a number that was read are those that stand there
  pub number-there : (w : Width) (at : ℕ) → at + bytes_in w ≤ length s → take (bytes_in w) (drop at s) ≡ number w (number_at w s at)
  number-there w at h = take-span s at (bytes_in w) h ∙ spelled w at

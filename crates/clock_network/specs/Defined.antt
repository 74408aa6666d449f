-- The same as functions, so that an answer is given by an equation. That they are what `Steps` says is proved in
-- `DefinedLaws` and `Meaning`.
use Rattle.std.specs.Prelude.{ℕ, zero, suc, Bool, true, false, cond, not, ◌&&◌, List, [], ◌∷◌, eqb, ltb, leb, length, get_or, ℤ, pos, negsuc}

abbrev pub eq_z : ℤ → ℤ → Bool
eq_z (pos m) (pos n) = eqb m n
eq_z (pos m) (negsuc n) = false
eq_z (negsuc m) (pos n) = false
eq_z (negsuc m) (negsuc n) = eqb m n

-- the first number below n that passes the test t, or n
unfoldable pub first_of : (ℕ → Bool) → ℕ → ℕ
first_of t zero = 0
first_of t (suc n) = cond (ltb (first_of t n) n) (first_of t n) (cond (t n) n (suc n))

-- the first place of x, or the length
abbrev pub place_of : List ℤ → ℤ → ℕ
place_of ns x = first_of (λ j. eq_z (get_or ns j (pos 0)) x) (length ns)

-- the tests of 14 and 15
abbrev pub repeat_b : List ℤ → ℕ → Bool
repeat_b ns i = ltb (place_of ns (get_or ns i (pos 0))) i

abbrev pub stray_b : List ℤ → List ℤ → ℕ → Bool
stray_b ns cs i = not (eq_z (get_or cs i (pos 0)) (pos 0)) && not (ltb (place_of ns (get_or cs i (pos 0))) (length ns))

-- the steps of place i, if they are at most k: the chain is followed k times, and no further
abbrev pub more : ℕ → ℕ
more zero = 0
more (suc n) = suc (suc n)

unfoldable pub chain : List ℤ → List ℤ → ℕ → ℕ → ℕ
chain ns cs zero i = 0
chain ns cs (suc k) i = cond (ltb i (length ns)) (cond (eq_z (get_or cs i (pos 0)) (pos 0)) 1 (more (chain ns cs k (place_of ns (get_or cs i (pos 0)))))) 0

-- no chain is longer than the list
abbrev pub steps_at : List ℤ → List ℤ → ℕ → ℕ
steps_at ns cs i = chain ns cs (length ns) i

-- f k, f (k + 1), .. : n numbers
abbrev pub tab : (ℕ → ℕ) → ℕ → ℕ → List ℕ
tab f zero k = []
tab f (suc n) k = f k ∷ tab f n (suc k)

-- 64 numbers in list order, 0 past the list
unfoldable pub steps_of : List ℤ → List ℤ → List ℕ
steps_of ns cs = tab (steps_at ns cs) 64 0

-- the test of 16
abbrev pub lost_b : List ℤ → List ℤ → ℕ → Bool
lost_b ns cs i = eqb (steps_at ns cs i) 0

-- ---- "each with the first such list place"; the length where there is none
unfoldable pub firstRepeat : List ℤ → ℕ
firstRepeat ns = first_of (repeat_b ns) (length ns)

unfoldable pub firstStray : List ℤ → List ℤ → ℕ
firstStray ns cs = first_of (stray_b ns cs) (length ns)

unfoldable pub first_lost : List ℤ → List ℤ → ℕ
first_lost ns cs = first_of (lost_b ns cs) (length ns)

-- ---- "the smallest "to", the first in the list among equals"; the length where none is below `never`
abbrev pub noneBelow : ℕ → List ℕ → Bool
noneBelow x [] = true
noneBelow x (t ∷ ts) = leb x t && noneBelow x ts

abbrev pub smallest_b : List ℕ → ℕ → ℕ → Bool
smallest_b ts never i = ltb (get_or ts i 0) never && noneBelow (get_or ts i 0) ts

unfoldable pub earliestOf : List ℕ → ℕ → ℕ
earliestOf ts never = first_of (smallest_b ts never) (length ts)

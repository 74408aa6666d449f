-- What the list itself says of its clocks: document 02, wish 10. Definitions only. ns are the numbers and cs the
-- clocks, in list order; places count from 0, and `get_or l i (pos 0)` is what stands at place i.
use Rattle.std.specs.Prelude.{◌≡◌, ℕ, suc, ◌<◌, ◌≤◌, List, length, get_or, ℤ, pos}

-- x stands at place i
abbrev pub At : List ℤ → ℤ → ℕ → Type 0
At l x i = get_or l i (pos 0) ≡ x

-- "14 for a number already used": it stands at an earlier place too
abbrev pub Repeats : List ℤ → ℕ → Type 0
Repeats ns i = (j : ℕ) × ((j < i) × (get_or ns j (pos 0) ≡ get_or ns i (pos 0)))

-- no number is used twice
abbrev pub Distinct : List ℤ → Type 0
Distinct ns = (i : ℕ) → i < length ns → Repeats ns i → ⊥

-- "15 for a clock neither 0 nor in the list"
abbrev pub Stray : List ℤ → List ℤ → ℕ → Type 0
Stray ns cs i = (get_or cs i (pos 0) ≡ pos 0 → ⊥) × ((j : ℕ) → j < length ns → get_or ns j (pos 0) ≡ get_or cs i (pos 0) → ⊥)

-- "say how many steps its clock is from the antenna: 1 if it follows 0, else one more than the station it follows";
-- "The steps are defined by the list itself and not by the search."
pub data Steps (ns cs : List ℤ) : ℕ → ℕ → Type 0 where
  antenna : {i : ℕ} → i < length ns → get_or cs i (pos 0) ≡ pos 0 → Steps ns cs i 1
  follows : {i j n : ℕ} → i < length ns → (get_or cs i (pos 0) ≡ pos 0 → ⊥) → j < length ns → get_or ns j (pos 0) ≡ get_or cs i (pos 0) → Steps ns cs j n → Steps ns cs i (suc n)

-- "16 for a station whose chain never reaches 0": it has no number of steps
abbrev pub Lost : List ℤ → List ℤ → ℕ → Type 0
Lost ns cs i = (n : ℕ) → Steps ns cs i n → ⊥

-- "The steps come back as 64 numbers in list order, 0 past the list"; 0 at a lost place too
pub record StepsAre (ns cs : List ℤ) (st : List ℕ) : Type 0 where
  pub size : length st ≡ 64
  pub sound : (i : ℕ) → (get_or st i 0 ≡ 0 → ⊥) → Steps ns cs i (get_or st i 0)
  pub lost : (i : ℕ) → get_or st i 0 ≡ 0 → Lost ns cs i

-- no steps stand at place i
abbrev pub Zero : List ℕ → ℕ → Type 0
Zero st i = get_or st i 0 ≡ 0

-- "the smallest "to"": the number at place i is below `never`, and no number is smaller
abbrev pub Smallest : List ℕ → ℕ → ℕ → Type 0
Smallest ts never i = (get_or ts i 0 < never) × ((k : ℕ) → k < length ts → get_or ts i 0 ≤ get_or ts k 0)

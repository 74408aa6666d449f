-- Laws of doubles and units, each by its own scale: the scales are those that `doubles` reads and writes by, and what
-- stands at each place.
use Rattle.std.specs.Prelude.{◌≡◌, refl, Bool, true, ◌&&◌, List, [], ◌∷◌, ◌++◌, ℕ, zero, suc, ◌≤◌, ◌<◌, T, leb, ℤ, pos, length, get_or, Float}
use Rattle.std.proofs.Common.{arith, leb→le}
use Rattle.std.proofs.Math.Facts.{and_yes}
use Rattle.std.specs.Float.{nan}
use Rattle.binary64.specs.Doubles.{units_of, double_of, held}
use Rattle.float_requests.specs.Instrument.{scales, units_in}
use Rattle.float_requests.specs.Writing.{doubles_in}

-- ---- the scales, by one computed test
abbrev is_scale : ℕ → Bool
is_scale s = leb 2048 s && leb s 100000000

abbrev all_scales : List ℕ → Bool
all_scales [] = true
all_scales (s ∷ ss) = is_scale s && all_scales ss

scale_at : (ss : List ℕ) → T (all_scales ss) → (k : ℕ) → k < length ss → (2048 ≤ get_or ss k 0) × (get_or ss k 0 ≤ 100000000)
scale_at [] t k h = absurd (omega arith)
scale_at (s ∷ ss) t zero h =
    let p = and_yes (leb 2048 s) (leb s 100000000) (and_yes (is_scale s) (all_scales ss) t).0 in
    (leb→le 2048 s p.0, leb→le s 100000000 p.1)
scale_at (s ∷ ss) t (suc k) h = scale_at ss (and_yes (is_scale s) (all_scales ss) t).1 k (omega arith)

pub scale_in : (k : ℕ) → k < 23 → (2048 ≤ get_or scales k 0) × (get_or scales k 0 ≤ 100000000)
scale_in k h = scale_at scales tt k h

-- ---- what stands at a place
-- the units of the double there
abbrev pub units_held : List Float → ℕ → ℤ
units_held xs k = held (units_of (get_or scales k 0) (get_or xs k nan))

pub units_at : (ss : List ℕ) (xs : List Float) (k : ℕ) → k < length ss → k < length xs
    → get_or (units_in ss xs) k (pos 0) ≡ units_of (get_or ss k 0) (get_or xs k nan)
units_at [] xs k g h = absurd (omega arith)
units_at (s ∷ ss) [] k g h = absurd (omega arith)
units_at (s ∷ ss) (x ∷ xs) zero g h = refl
units_at (s ∷ ss) (x ∷ xs) (suc k) g h = units_at ss xs k (omega arith) (omega arith)

pub doubles_at : (ss : List ℕ) (us : List ℤ) (rest : List Float) (k : ℕ) → k < length ss → k < length us
    → get_or (doubles_in ss us ++ rest) k nan ≡ double_of (get_or ss k 0) (get_or us k (pos 0))
doubles_at [] us rest k g h = absurd (omega arith)
doubles_at (s ∷ ss) [] rest k g h = absurd (omega arith)
doubles_at (s ∷ ss) (u ∷ us) rest zero g h = refl
doubles_at (s ∷ ss) (u ∷ us) rest (suc k) g h = doubles_at ss us rest k (omega arith) (omega arith)

-- ---- as many as there are
pub units_length : (ss : List ℕ) (xs : List Float) → length xs ≤ length ss → length (units_in ss xs) ≡ length xs
units_length [] [] h = refl
units_length [] (x ∷ xs) h = absurd (omega arith)
units_length (s ∷ ss) [] h = refl
units_length (s ∷ ss) (x ∷ xs) h = let e = units_length ss xs (omega arith) in omega arith

pub doubles_length : (ss : List ℕ) (us : List ℤ) → length us ≡ length ss → length (doubles_in ss us) ≡ length us
doubles_length [] [] h = refl
doubles_length [] (u ∷ us) h = absurd (omega arith)
doubles_length (s ∷ ss) [] h = refl
doubles_length (s ∷ ss) (u ∷ us) h = let e = doubles_length ss us (omega arith) in omega arith

-- Laws of ranges: the search answers `None` where each number is in its range; numbers that share a range, each by
-- its place.
use Rattle.std.specs.Prelude.{◌≡◌, refl, Bool, true, false, cond, List, [], ◌∷◌, map, ℕ, zero, suc, ◌+◌, ◌<◌, ℤ, pos, neg_ℤ, ◌≤ℤ◌, length, get_or, replicate, None, Option, Some}
use Rattle.std.proofs.Common.{sym, ap, ◌∙◌, arith, add-one, ext_get_or}
use Rattle.std.specs.Int.Signed.{lt_z, clash_ℤ}
use Rattle.std.proofs.lemmas.List.{length-map}
use Rattle.rounding.specs.Limits.{Row, row, ◌±◌, out_of_range, first_out_of_range, EachInRange, rows}
use Rattle.rounding.specs.laws.LimitsLaws.{out_within}
use Rattle.rounding.specs.laws.Order.{lt_z_true}
use Rattle.fits.specs.Fits.{hours, given_ranges}

not_below : (x y : ℤ) → y ≤ℤ x → lt_z x y ≡ false
not_below x y h = by (lt_z x y) refl
  where
    by : (b : Bool) → lt_z x y ≡ b → b ≡ false
    by true e = clash_ℤ (lt_z_true x y e) h
    by false e = refl

-- where each is in its range, none is out of it
pub none_out : (i : ℕ) (rs : List Row) → EachInRange rs → first_out_of_range i rs ≡ None
unfolding first_out_of_range
none_out i [] h = refl
none_out i (r ∷ rs) h = rw (not_below r.value r.low h.0.0, not_below r.high r.value h.0.1) (none_out (suc i) rs h.1)

-- numbers in one range
module _ (l u : ℤ) where
  pub rows_alike : (n : ℕ) (xs : List ℤ) → length xs ≡ n → rows xs (replicate n l) (replicate n u) ≡ map (λ x. row x l u) xs
  rows_alike n [] e = refl
  rows_alike zero (x ∷ xs) e = absurd (omega arith)
  rows_alike (suc n) (x ∷ xs) e = ap (λ (rs : List Row). row x l u ∷ rs) (rows_alike n xs (omega arith))

  pub each-alike : (xs : List ℤ) → EachInRange (map (λ x. row x l u) xs) → (k : ℕ) → k < length xs → (l ≤ℤ get_or xs k (pos 0)) × (get_or xs k (pos 0) ≤ℤ u)
  each-alike [] i k h = absurd (omega arith)
  each-alike (x ∷ xs) i zero h = i.0
  each-alike (x ∷ xs) i (suc k) h = each-alike xs i.1 k (omega arith)

  pub alike-each : (xs : List ℤ) → ((k : ℕ) → k < length xs → (l ≤ℤ get_or xs k (pos 0)) × (get_or xs k (pos 0) ≤ℤ u)) → EachInRange (map (λ x. row x l u) xs)
  alike-each [] e = tt
  alike-each (x ∷ xs) e = (e 0 (omega arith), alike-each xs (λ k h. e (suc k) (omega arith)))

-- a place counted from one less
abbrev pub further : Option ℕ → Option ℕ
further None = None
further (Some i) = Some (i + 1)

counted_on : (i : ℕ) (rs : List Row) → first_out_of_range (suc i) rs ≡ further (first_out_of_range i rs)
unfolding first_out_of_range
counted_on i [] = refl
counted_on i (r ∷ rs) = by (out_of_range r) (counted_on (suc i) rs)
  where
    by : (b : Bool) → first_out_of_range (suc (suc i)) rs ≡ further (first_out_of_range (suc i) rs)
        → cond b (Some (suc i)) (first_out_of_range (suc (suc i)) rs) ≡ further (cond b (Some i) (first_out_of_range (suc i) rs))
    by true e = ap Some (sym (add-one i))
    by false e = e

-- the tabulated values alone, as the code has them
abbrev tabulated_ranges : List ℤ → List Row
tabulated_ranges ts = rows ts (replicate 7 (neg_ℤ (pos 1000000000))) (replicate 7 (pos 1000000000))

tabulated_are : (ts : List ℤ) → length ts ≡ 7 → first_out_of_range 0 (tabulated_ranges ts) ≡ first_out_of_range 0 (map (λ t. t ± 1000000000) ts)
tabulated_are ts seven = ap (first_out_of_range 0) (rows_alike (neg_ℤ (pos 1000000000)) (pos 1000000000) 7 ts seven)

pub place_within : (ts : List ℤ) → length ts ≡ 7 → (r : Option ℕ) → r ≡ first_out_of_range 0 (tabulated_ranges ts) → (k : ℕ) → r ≡ Some k → k < 7
place_within ts seven r e k q =
    let h = out_within 0 (map (λ t. t ± 1000000000) ts) k (sym (e ∙ tabulated_are ts seven) ∙ q) in
    omega (arith, length-map ts (λ t. t ± 1000000000))

-- the tolerance, then the tabulated values
module _ (tolerance : ℤ) (ts : List ℤ) where
  pub given-low : lt_z tolerance (pos 0) ≡ true → Some 0 ≡ first_out_of_range 0 (given_ranges tolerance ts)
  unfolding given_ranges first_out_of_range
  given-low a = rw a

  module _ (a : lt_z tolerance (pos 0) ≡ false) where
    pub given-high : lt_z (pos 1000) tolerance ≡ true → Some 0 ≡ first_out_of_range 0 (given_ranges tolerance ts)
    unfolding given_ranges first_out_of_range
    given-high b = rw (a, b)

    past : lt_z (pos 1000) tolerance ≡ false → first_out_of_range 0 (given_ranges tolerance ts) ≡ first_out_of_range 1 (map (λ t. t ± 1000000000) ts)
    unfolding given_ranges first_out_of_range
    past b = rw (a, b)

    pub given-after : lt_z (pos 1000) tolerance ≡ false → length ts ≡ 7 → (r : Option ℕ) → r ≡ first_out_of_range 0 (tabulated_ranges ts)
        → further r ≡ first_out_of_range 0 (given_ranges tolerance ts)
    given-after b seven r e =
        ap further (e ∙ tabulated_are ts seven) ∙ sym (counted_on 0 (map (λ t. t ± 1000000000) ts)) ∙ sym (past b)

-- a list of seven numbers, one an hour
pub seven_at : (f : ℕ → ℤ) (i : ℕ) → i < 7 → get_or (map f hours) i (pos 0) ≡ f i
seven_at f zero h = refl
seven_at f (suc zero) h = refl
seven_at f (suc (suc zero)) h = refl
seven_at f (suc (suc (suc zero))) h = refl
seven_at f (suc (suc (suc (suc zero)))) h = refl
seven_at f (suc (suc (suc (suc (suc zero))))) h = refl
seven_at f (suc (suc (suc (suc (suc (suc zero)))))) h = refl
seven_at f (suc (suc (suc (suc (suc (suc (suc i))))))) h = absurd (omega arith)

pub seven_by : (f : ℕ → ℤ) (l : List ℤ) → length l ≡ 7 → ((i : ℕ) → i < 7 → get_or l i (pos 0) ≡ f i) → l ≡ map f hours
seven_by f l e h = ext_get_or (pos 0) l (map f hours) e (λ i l. let m : i < 7 = omega arith in h i m ∙ sym (seven_at f i m))

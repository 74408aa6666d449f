-- Laws of ranges: `None` says that each number is in its range, `Some` gives a place of the list, what the
-- search does at one place, and that a range of either sign treats a number as it treats its opposite.
use Rattle.std.specs.Prelude.{◌≡◌, refl, Bool, true, false, cond, ◌||◌, List, [], ◌∷◌, ℕ, suc, ◌+◌, ◌^◌, ◌<◌, ℤ, pos, neg_ℤ, length, get_or, drop, ◌≤ℤ◌, Option, None, Some}
use Rattle.std.proofs.Common.{sym, ◌∙◌, ap, subst, add-one, arith, to_z, of_z}
use Rattle.std.proofs.Math.IntN.{neg_ℤ-neg_ℤ}
use Rattle.std.proofs.Math.Seq.{drop-cons, drop-length}
use Rattle.std.specs.Int.Signed.{mag, lt_z}
use Rattle.std.specs.Int.{w64}
use Rattle.rounding.specs.Limits.{Row, row, ◌±◌, out_of_range, first_out_of_range, EachInRange, rows}
use Rattle.rounding.specs.Parts.{opposite}
use Rattle.rounding.specs.laws.Order.{zs, lt_z_true, lt_z_false}
use Rattle.rounding.specs.laws.Code.{read_lt_z}

abbrev IsInRange : Option ℕ → Type 0
IsInRange None = Unit
IsInRange (Some i) = ⊥

-- where none is out of range, each is in its range
pub each_in_range : (i : ℕ) (rs : List Row) → first_out_of_range i rs ≡ None → EachInRange rs
unfolding first_out_of_range
each_in_range i [] e = tt
each_in_range i (r ∷ rs) e =
    go (lt_z r.value r.low) (lt_z r.high r.value) refl refl e (λ h. each_in_range (suc i) rs h)
  where
    go : (a b : Bool) → lt_z r.value r.low ≡ a → lt_z r.high r.value ≡ b → cond (a || b) (Some i) (first_out_of_range (suc i) rs) ≡ None
        → (first_out_of_range (suc i) rs ≡ None → EachInRange rs) → ((r.low ≤ℤ r.value) × (r.value ≤ℤ r.high)) × EachInRange rs
    go true b ea eb e rest = absurd (subst IsInRange (sym e) tt)
    go false true ea eb e rest = absurd (subst IsInRange (sym e) tt)
    go false false ea eb e rest = ((lt_z_false r.value r.low ea, lt_z_false r.high r.value eb), rest e)

-- the place that is given is one of the list's
pub out_within : (i : ℕ) (rs : List Row) (k : ℕ) → first_out_of_range i rs ≡ Some k → k < i + length rs
unfolding first_out_of_range
out_within i [] k e = absurd (subst IsInRange e tt)
out_within i (r ∷ rs) k e = go (out_of_range r) e (out_within (suc i) rs k)
  where
    place : Option ℕ → ℕ
    place None = i
    place (Some k) = k

    go : (b : Bool) → cond b (Some i) (first_out_of_range (suc i) rs) ≡ Some k
        → (first_out_of_range (suc i) rs ≡ Some k → k < suc i + length rs) → k < i + length (r ∷ rs)
    go true h rest = let z : i ≡ k = ap place h in omega arith
    go false h rest = let z : k < suc i + length rs = rest h in omega arith

-- what the search answers for numbers that are listed is what it answers for the list
pub of_listed : {r : Option ℕ} {xs ys : List ℤ} (ls hs : List ℤ) → r ≡ first_out_of_range 0 (rows xs ls hs) → xs ≡ ys → r ≡ first_out_of_range 0 (rows ys ls hs)
of_listed ls hs e f = e ∙ ap (λ (zs : List ℤ). first_out_of_range 0 (rows zs ls hs)) f

-- the search at place i, which all three lists have; the tests are on numbers as they are read from their bits
module _ (xs ls hs : List ℤ) (i : ℕ) (px : i < length xs) (pl : i < length ls) (ph : i < length hs) where
  abbrev x : ℤ
  x = get_or xs i (pos 0)

  abbrev l : ℤ
  l = get_or ls i (pos 0)

  abbrev h : ℤ
  h = get_or hs i (pos 0)

  abbrev from : ℕ → Option ℕ
  from j = first_out_of_range j (rows (drop j xs) (drop j ls) (drop j hs))

  here : from i ≡ cond (out_of_range (row x l h)) (Some i) (from (i + 1))
  unfolding first_out_of_range
  here = rw (drop-cons xs i (pos 0) px, drop-cons ls i (pos 0) pl, drop-cons hs i (pos 0) ph, add-one)

  module _ (fx : mag x < 2 ^ 63) (fl : mag l < 2 ^ 63) where
    pub search-low : lt_z (to_z w64 (of_z w64 x)) (to_z w64 (of_z w64 l)) ≡ true → from i ≡ Some i
    search-low t = here ∙ rw (read_lt_z x l fx fl t)

    module _ (below : lt_z (to_z w64 (of_z w64 x)) (to_z w64 (of_z w64 l)) ≡ false) (fh : mag h < 2 ^ 63) where
      pub search-high : lt_z (to_z w64 (of_z w64 h)) (to_z w64 (of_z w64 x)) ≡ true → from i ≡ Some i
      search-high t = here ∙ rw (read_lt_z x l fx fl below, read_lt_z h x fh fx t)

      pub search-on : lt_z (to_z w64 (of_z w64 h)) (to_z w64 (of_z w64 x)) ≡ false → from i ≡ from (i + 1)
      search-on t = here ∙ rw (read_lt_z x l fx fl below, read_lt_z h x fh fx t)

-- past the last place
pub search-end : (xs ls hs : List ℤ) (i : ℕ) → i ≡ length xs → first_out_of_range i (rows (drop i xs) (drop i ls) (drop i hs)) ≡ None
unfolding first_out_of_range
search-end xs ls hs i e = rw (e, drop-length xs)

-- ---- the opposite
lt_z_opposite : (a b : ℤ) → lt_z (neg_ℤ a) (neg_ℤ b) ≡ lt_z b a
lt_z_opposite a b = by (lt_z (neg_ℤ a) (neg_ℤ b)) (lt_z b a) refl refl
  where
    by : (s t : Bool) → lt_z (neg_ℤ a) (neg_ℤ b) ≡ s → lt_z b a ≡ t → s ≡ t
    by true true e f = refl
    by false false e f = refl
    by true false e f =
        let g = lt_z_true (neg_ℤ a) (neg_ℤ b) e in
        let h = lt_z_false b a f in
        absurd (omega (arith, zs, (opposite a).is, (opposite b).is))
    by false true e f =
        let g = lt_z_false (neg_ℤ a) (neg_ℤ b) e in
        let h = lt_z_true b a f in
        absurd (omega (arith, zs, (opposite a).is, (opposite b).is))

or_swap : (a b : Bool) → (a || b) ≡ (b || a)
or_swap true true = refl
or_swap true false = refl
or_swap false true = refl
or_swap false false = refl

pub range_opposite : (z : ℤ) (n : ℕ) → out_of_range (neg_ℤ z ± n) ≡ out_of_range (z ± n)
range_opposite z n =
    ap (λ (t : Bool). t || lt_z (pos n) (neg_ℤ z)) (lt_z_opposite z (pos n))
    ∙ ap (λ (t : Bool). lt_z (pos n) z || t) (sym (lt_z_opposite (neg_ℤ z) (pos n)) ∙ ap (λ (x : ℤ). lt_z x (neg_ℤ (pos n))) (neg_ℤ-neg_ℤ z))
    ∙ or_swap (lt_z (pos n) z) (lt_z z (neg_ℤ (pos n)))

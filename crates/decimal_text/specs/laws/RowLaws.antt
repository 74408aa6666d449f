-- What a line is put with, the same text or the same numbers; and lines put one after the other by a loop: those
-- before the i-th are put.
use Rattle.std.specs.Prelude.{ℕ, ◌+◌, ◌-◌, ◌*◌, ◌^◌, ◌≤◌, ◌<◌, ◌≡◌, refl, List, ◌∷◌, ◌++◌, ℤ, length, take, drop}
use Rattle.std.proofs.Common.{ap, ◌∙◌, arith, to_z, of_z}
use Rattle.std.proofs.Math.Numerals.{add-one}
use Rattle.std.specs.Int.{w64}
use Rattle.std.proofs.lemmas.List.{length-replicate}
use Rattle.std.specs.Int.Signed.{mag}
use Rattle.rounding.specs.laws.Code.{read_result}
use Rattle.decimal_text.specs.Texts.{Put, Copies}
use Rattle.decimal_text.specs.laws.TextLaws.{put_same, put_nil, put_then}
use Rattle.decimal_text.specs.Patterns.{filled}
use Rattle.decimal_text.specs.Rows.{rows, part}

-- one text for another that is the same
pub put_as : (x y old : List ℕ) (at : ℕ) (new : List ℕ) (r : ℕ) → x ≡ y → Put old at x new r → Put old at y new r
put_as x y old at new r e p = rw (← e) p

-- one text after the other: `joined h (joined h p q) w`
pub joined : {old mid new : List ℕ} {at r q : ℕ} {x y : List ℕ} → length old < 18446744073709551616 → Put old at x mid r → Put mid r y new q
    → Put old at (x ++ y) new q
joined h p w = put_then _ _ _ _ _ _ _ _ h p w

pub copies_length : {x n : ℕ} {l : List ℕ} → Copies x n l → length l ≡ n
copies_length {x} {n} c = ap length c.is ∙ length-replicate n x

-- the same numbers, one by one: `also e (also f refl)`
pub also : {x v : ℤ} {xs vs : List ℤ} → x ≡ v → xs ≡ vs → x ∷ xs ≡ v ∷ vs
also e f = rw (e, f)

-- what a call gave, as the next one takes it
pub given : {z v : ℤ} → mag z < 2 ^ 63 → z ≡ v → to_z w64 (of_z w64 z) ≡ v
given {z} h e = read_result z h ∙ e

-- a pattern filled with the same numbers
pub filled_as : (s : List ℕ) (xs vs : List ℤ) (old : List ℕ) (at : ℕ) (new : List ℕ) (r : ℕ) → xs ≡ vs
    → Put old at (filled xs 0 s) new r → Put old at (filled vs 0 s) new r
filled_as s xs vs old at new r e p = rw (← e) p

-- the texts before the i-th of n are put
pub record Rows (text : ℕ → List ℕ) (n : ℕ) (old : List ℕ) (start : ℕ) (out : List ℕ) (at i : ℕ) : Type 0 where
  pub within : i ≤ n
  pub short : length old < 18446744073709551616
  pub same : length out ≡ length old
  pub put : Put old start (rows text i) out at

module _ (text : ℕ → List ℕ) (n : ℕ) (old : List ℕ) (start : ℕ) where
  pub rows_start : start < 18446744073709551616 → length old < 18446744073709551616 → Rows text n old start old start 0
  unfolding rows
  rows_start h g = record { within = omega arith; short = g; same = refl; put = put_nil old start h }

  module _ (out : List ℕ) (at i : ℕ) (f : Rows text n old start out at i) where
    pub rows-turn : i < n → (new : List ℕ) (r : ℕ) → Put out at (text i) new r → Rows text n old start new r (i + 1)
    unfolding rows
    rows-turn h new r p =
        record {
          within = omega arith;
          short = f.short;
          same = put_same out at (text i) new r p ∙ f.same;
          put = rw add-one (put_then old out new start at r (rows text i) (text i) f.short f.put p);
        }

    pub rows_end : n ≤ i → Put old start (rows text n) out at
    rows_end h = let e : i ≡ n = omega (arith, f.within) in rw e at f.put

-- ---- a text for each record of an input

module _ (size : ℕ) (input : List ℕ) (k : ℕ) where
  -- record k as a loop borrows it
  abbrev pub lent : List ℕ
  lent = take (k * size + size - k * size) (drop (k * size) input)

  pub lent_is : lent ≡ part size input k
  lent_is = let e : k * size + size - k * size ≡ size = omega arith in ap (λ j. take j (drop (k * size) input)) e

module _ (size : ℕ) (text : List ℕ → List ℕ) (input : List ℕ) (n : ℕ) (old : List ℕ) (start : ℕ) (out : List ℕ) (at i : ℕ)
    (f : Rows (λ k. text (part size input k)) n old start out at i) where
  pub parts-turn : i < n → (new : List ℕ) (r : ℕ) → Put out at (text (lent size input i)) new r
      → Rows (λ k. text (part size input k)) n old start new r (i + 1)
  parts-turn h new r p = rows-turn (λ k. text (part size input k)) n old start out at i f h new r (put_as _ _ out at new r (ap text (lent_is size input i)) p)

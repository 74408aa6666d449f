-- What is kept and noted was measured in empty buffers, and then put where both buffers hold it.
use Rattle.std.specs.Prelude.{ℕ, ◌≤◌, ◌<◌, ◌≡◌, refl, List, ◌++◌, Bool, true, false, cond, leb, length, drop, Result, Err, Ok}
use Rattle.std.proofs.Math.Path.{ap}
use Rattle.std.proofs.Common.{◌∙◌, arith, zero-add}
use borrow.Author.Tests.{le-leb, lt-leb, leb-true}
use Rattle.std.proofs.lemmas.List.Edits.{sets-eq}
use Rattle.rounding.specs.laws.Results.{ok_parts}
use Rattle.sheet_types.specs.declared.refusals.Refusal.{Refusal}
use Rattle.sheet_types.specs.Refusals.{refusal}
use Rattle.decimal_text.specs.Texts.{capped, Put}
use Rattle.decimal_text.specs.laws.TextLaws.{capped-low}
use Rattle.year_file.specs.Walk.{kept, notes}
use Rattle.year_file.specs.Mending.{answer_to}
use Rattle.year_file.proofs.laws.Mended.{whole}
use Rattle.year_file.proofs.laws.NoteLaws.{notes_fit}

measured : (none text new : List ℕ) (r : ℕ) → Put none 0 text new r → length text < 18446744073709551616 → r ≡ length text
measured none text new r p h = p.place ∙ ap capped (zero-add (length text)) ∙ capped-low (length text) h

pub put_whole : (old text new : List ℕ) (r : ℕ) → length text ≤ length old → Put old 0 text new r → new ≡ text ++ drop (length text) old
put_whole old text new r h p = p.room ∙ sets-eq text old 0 (omega arith) ∙ rw zero-add

module _ (file : List ℕ) (h : length file < 18446744073709551616) (none after none' after' : List ℕ) (k m : ℕ)
    (p : Put none 0 (kept file) after k) (q : Put none' 0 (notes file) after' m) where
  pub kept-long : k ≡ length (kept file)
  kept-long = measured none (kept file) after k p (omega (arith, whole file))

  pub notes-long : m ≡ length (notes file)
  notes-long = measured none' (notes file) after' m q (omega (arith, notes_fit file h))

  module _ (a b : ℕ) where
    pub sheets-short : a < k → Err (refusal 4 k) ≡ answer_to a b file
    unfolding answer_to
    sheets-short g = rw (lt-leb (length (kept file)) a (omega (arith, kept-long))) (ap (λ n. Err (refusal 4 n)) kept-long)

    pub dropped-short : k ≤ a → b < m → Err (refusal 4 m) ≡ answer_to a b file
    unfolding answer_to
    dropped-short g f =
        rw (le-leb (length (kept file)) a (omega (arith, kept-long)), lt-leb (length (notes file)) b (omega (arith, notes-long)))
        (ap (λ n. Err (refusal 4 n)) notes-long)

    pub both_hold : k ≤ a → m ≤ b → Ok (k, m) ≡ answer_to a b file
    unfolding answer_to
    both_hold g f =
        rw (le-leb (length (kept file)) a (omega (arith, kept-long)), le-leb (length (notes file)) b (omega (arith, notes-long)))
        (ap (λ n. Ok (n, m)) kept-long ∙ ap (λ n. Ok (length (kept file), n)) notes-long)

-- what an answer says about the buffers
pub mended_inv : (a b : ℕ) (file : List ℕ) (k m : ℕ) → Ok (k, m) ≡ answer_to a b file
    → (k ≡ length (kept file)) × (m ≡ length (notes file)) × (length (kept file) ≤ a) × (length (notes file) ≤ b)
unfolding answer_to
mended_inv a b file k m e = by (leb (length (kept file)) a) (leb (length (notes file)) b) refl refl e
  where
    by : (x y : Bool) → leb (length (kept file)) a ≡ x → leb (length (notes file)) b ≡ y
        → ◌≡◌ {A = Result (ℕ × ℕ) Refusal} (Ok (k, m))
        (cond x (cond y (Ok (length (kept file), length (notes file))) (Err (refusal 4 (length (notes file)))))
        (Err (refusal 4 (length (kept file)))))
        → (k ≡ length (kept file)) × (m ≡ length (notes file)) × (length (kept file) ≤ a) × (length (notes file) ≤ b)
    by true true p q e = let t = ok_parts e in (t.0, t.1, leb-true (length (kept file)) a p, leb-true (length (notes file)) b q)
    by true false p q e = let z : ◌≡◌ {A = ℕ} 0 1 = cc in absurd (omega arith)
    by false y p q e = let z : ◌≡◌ {A = ℕ} 0 1 = cc in absurd (omega arith)

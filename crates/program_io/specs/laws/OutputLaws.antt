-- A text that was put at an array's start stands there whole where the array holds it, and else as far as the array
-- goes.
use Rattle.std.specs.Prelude.{ℕ, suc, ◌≤◌, ◌<◌, min, ◌≡◌, refl, List, [], ◌∷◌, ◌++◌, Bool, true, false, leb, length, take, drop, set}
use Rattle.std.proofs.Common.{sym, ap, ◌∙◌, arith, zero-add, leb-true, leb-false, take_at, take_all, length-take-le}
use Rattle.std.proofs.Math.Nat.{min-eq_left, min-eq_right, min-le_right}
use Rattle.std.proofs.lemmas.List.Edits.{sets, sets-eq}
use Rattle.std.proofs.Math.Seq.{length-sets}
use Rattle.decimal_text.specs.Texts.{capped, Put, Counts}
use Rattle.decimal_text.specs.laws.TextLaws.{capped-low, Capped, low, high, is-capped}

-- ---- whole

module _ (text old new : List ℕ) (end : ℕ) (p : Put old 0 text new end) (h : length text ≤ length old) (g : length old < 18446744073709551616) where
  end_is : end ≡ length text
  end_is = p.place ∙ ap capped (zero-add (length text)) ∙ capped-low (length text) (omega arith)

  new_is : new ≡ text ++ drop (length text) old
  new_is = p.room ∙ sets-eq text old 0 (omega arith) ∙ rw zero-add

  pub put_whole : (take end new ≡ text) × Counts end new
  put_whole =
      let t : take end new ≡ text = rw (new_is) (take_at text (drop (length text) old) end (sym end_is)) in
      let l : length new ≡ length old = ap length p.room ∙ length-sets old 0 text in
      (t, (omega (arith, end_is), end_is ∙ ap length (sym t)))

-- ---- as far as the array goes

sets_cons : (x : ℕ) (text l : List ℕ) (n : ℕ) → sets (x ∷ l) (suc n) text ≡ x ∷ sets l n text
sets_cons x [] l n = refl
sets_cons x (a ∷ text) l n = sets_cons x text (set l n a) (suc n)

-- a text that is not shorter fills the array
filled : (text old : List ℕ) → length old ≤ length text → take (length old) (sets old 0 text) ≡ take (length old) text
filled text [] h = refl
filled [] (b ∷ l) h = absurd (omega arith)
filled (a ∷ x) (b ∷ l) h = ap (take (suc (length l))) (sets_cons a x l 0) ∙ ap (λ k. a ∷ k) (filled x l (omega arith))

module _ (text old new : List ℕ) (end : ℕ) (p : Put old 0 text new end) (g : length old < 18446744073709551616) (r : ℕ) (e : r ≡ min end (length new)) where
  same : length new ≡ length old
  same = ap length p.room ∙ length-sets old 0 text

  short_cut : length text ≤ length old → take r new ≡ take (length old) text
  short_cut h =
      let w = put_whole text old new end p h g in
      let m : r ≡ end = e ∙ min-eq_left w.1.0 in
      ap (λ k. take k new) m ∙ w.0 ∙ sym (take_all (length old) text h)

  long-cut : length old < length text → take r new ≡ take (length old) text
  long-cut h =
      let m : length old ≤ end = by (is-capped (length text)) in
      let k : r ≡ length old = e ∙ min-eq_right (omega (arith, same, m)) ∙ same in
      rw (k, p.room) (filled text old (omega arith))
    where
      by : Capped (length text) → length old ≤ end
      by (low l q) = omega (arith, p.place, ap capped (zero-add (length text)), q)
      by (high l q) = omega (arith, p.place, ap capped (zero-add (length text)), q)

  pub put-cut : (take r new ≡ take (length old) text) × Counts r new
  put-cut =
      let c : r ≤ length new = omega (arith, e, min-le_right end (length new)) in
      (by (leb (length text) (length old)) refl, (c, sym (length-take-le r new c)))
    where
      by : (b : Bool) → leb (length text) (length old) ≡ b → take r new ≡ take (length old) text
      by true b = short_cut (leb-true (length text) (length old) b)
      by false b = long-cut (leb-false (length text) (length old) b)

-- A text that was measured in an empty buffer, and then put where the buffer holds it.
use Rattle.std.specs.Prelude.{ℕ, ◌≤◌, ◌<◌, ◌≡◌, refl, List, ◌++◌, Bool, true, false, cond, leb, Err, Ok, Result}
use Rattle.std.proofs.Common.{sym, ap, ◌∙◌, arith, le-leb, leb-true}
use Rattle.std.proofs.Math.Nat.{zero-add}
use Rattle.std.proofs.lemmas.Bool.{lt-leb}
use Rattle.std.proofs.Math.ListN.{length, drop}
use Rattle.std.proofs.Math.Seq.{sets, sets-eq}
use Rattle.sheet_types.specs.declared.refusals.Refusal.{Refusal}
use Rattle.sheet_types.specs.Refusals.{refusal}
use Rattle.decimal_text.specs.Texts.{capped, Put}
use Rattle.decimal_text.specs.laws.TextLaws.{Capped, low, high, is-capped}
use Rattle.listings.specs.Answers.{Told, text, withheld, answered, room_with}

-- measured: the length, as far as 64 bits go
module _ (t none after old : List ℕ) (need : ℕ) (m : Put none 0 t after need) (h : length old < 18446744073709551615) where
  need-is : need ≡ capped (length t)
  need-is = m.place ∙ ap capped (zero-add (length t))

  is-longer : length old < need → length old < length t
  is-longer g = by (is-capped (length t))
    where
      by : Capped (length t) → length old < length t
      by (low l e) = omega (arith, need-is)
      by (high l e) = omega arith

  is-length : need ≤ length old → need ≡ length t
  is-length g = by (is-capped (length t))
    where
      by : Capped (length t) → need ≡ length t
      by (low l e) = need-is ∙ e
      by (high l e) = absurd (omega (arith, need-is))

  pub text-short : length old < need → (Err (refusal 4 need) ≡ answered (length old) (text t)) × (old ≡ room_with (text t) old)
  unfolding answered room_with
  text-short g = rw (lt-leb (length t) (length old) (is-longer g)) (ap (λ k. Err (refusal 4 k)) need-is, refl)

  pub text-full : need ≤ length old → (new : List ℕ) (r : ℕ) → Put old 0 t new r
      → (Ok need ≡ answered (length old) (text t)) × (new ≡ room_with (text t) old)
  unfolding answered room_with
  text-full g new r p =
      let l : need ≡ length t = is-length g in
      let s : sets old 0 t ≡ t ++ drop (length t) old = sets-eq t old 0 (omega arith) ∙ rw zero-add in
      rw (le-leb (length t) (length old) (omega arith)) (ap Ok l, p.room ∙ s)

-- what was written lies within the buffer of k bytes, also where its length is given as m
pub written_within : (k m n : ℕ) (r : Result ℕ Refusal) (t : Told) → r ≡ answered k t → r ≡ Ok n → m ≡ k → n ≤ m
unfolding answered
written_within k m n r (withheld x) a w l = let z : ◌≡◌ {A = ℕ} 0 1 = cc in absurd (omega arith)
written_within k m n r (text t) a w l = by (leb (length t) k) refl (sym w ∙ a)
  where
    by : (b : Bool) → leb (length t) k ≡ b → Ok n ≡ cond b (Ok (length t)) (Err (refusal 4 (capped (length t)))) → n ≤ m
    by true b e = let h : n ≡ length t = cc in omega (arith, leb-true (length t) k b)
    by false b e = let z : ◌≡◌ {A = ℕ} 0 1 = cc in absurd (omega arith)

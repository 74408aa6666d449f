-- Laws of the walk: how it goes on by what stands at its place, and what a step adds.
use Rattle.std.specs.Prelude.{ℕ, zero, suc, ◌≤◌, ◌<◌, ◌≡◌, refl, List, [], ◌∷◌, length, take, drop}
use Rattle.std.proofs.Common.{ap, ◌∙◌, arith, length-drop}
use Rattle.sheet_types.specs.declared.refusals.Refusal.{Refusal}
use Rattle.sheet_format.specs.declared.kinds.Entry.{Entry}
use Rattle.sheet_codec.specs.Sheets.{Sheet, sheet, refused, read_sheet}
use Rattle.year_file.specs.laws.BoundLaws.{sheet_bounds}
use Rattle.year_file.specs.Walk.{Step, keep, lose, step_from, walk, steps}

-- ---- how the walk goes on

-- more fuel than bytes changes nothing
walk_enough : (f g : ℕ) (s : List ℕ) → length s ≤ f → length s ≤ g → walk f s ≡ walk g s
unfolding walk
walk_enough zero zero [] h k = refl
walk_enough zero (suc g) [] h k = refl
walk_enough (suc f) zero [] h k = refl
walk_enough (suc f) (suc g) [] h k = refl
walk_enough zero g (x ∷ s) h k = absurd (omega arith)
walk_enough (suc f) zero (x ∷ s) h k = absurd (omega arith)
walk_enough (suc f) (suc g) (x ∷ s) h k = by (read_sheet (x ∷ s)) refl (λ t a b. walk_enough f g t a b)
  where
    by : (w : Sheet) → read_sheet (x ∷ s) ≡ w → ((t : List ℕ) → length t ≤ f → length t ≤ g → walk f t ≡ walk g t)
        → step_from (x ∷ s) w (walk f) ≡ step_from (x ∷ s) w (walk g)
    by (refused r) q go = ap (λ t. lose ∷ t) (go s (omega arith) (omega arith))
    by (sheet es n) q go =
        let b = sheet_bounds (x ∷ s) es n q in
        let l = length-drop n (x ∷ s) in
        ap (λ t. keep (take n (x ∷ s)) ∷ t) (go (drop n (x ∷ s)) (omega arith) (omega arith))

pub steps-nil : steps [] ≡ []
unfolding steps walk
steps-nil = refl

pub steps_keep : (s : List ℕ) (es : List Entry) (n : ℕ) → read_sheet s ≡ sheet es n → steps s ≡ keep (take n s) ∷ steps (drop n s)
unfolding steps walk
steps_keep [] es n q = absurd (let b = sheet_bounds [] es n q in omega arith)
steps_keep (x ∷ s) es n q =
    let b = sheet_bounds (x ∷ s) es n q in
    let l = length-drop n (x ∷ s) in
    ap (λ w. step_from (x ∷ s) w (walk (length s))) q
    ∙ ap (λ t. keep (take n (x ∷ s)) ∷ t) (walk_enough (length s) (length (drop n (x ∷ s))) (drop n (x ∷ s)) (omega arith) (omega arith))

pub steps_lose : (s : List ℕ) (r : Refusal) → 0 < length s → read_sheet s ≡ refused r → steps s ≡ lose ∷ steps (drop 1 s)
unfolding steps walk
steps_lose [] r h q = absurd (omega arith)
steps_lose (x ∷ s) r h q = ap (λ w. step_from (x ∷ s) w (walk (length s))) q

-- ---- the walk as a proof goes along it

pub data Walked : List ℕ → List Step → Type 0 where
  at-end : Walked [] []
  kept_one : (s : List ℕ) (es : List Entry) (n : ℕ) (ts : List Step) → read_sheet s ≡ sheet es n
      → Walked (drop n s) ts → Walked s (keep (take n s) ∷ ts)
  lost_one : (s : List ℕ) (r : Refusal) (ts : List Step) → 0 < length s → read_sheet s ≡ refused r
      → Walked (drop 1 s) ts → Walked s (lose ∷ ts)

walked_by : (fuel : ℕ) (s : List ℕ) → length s ≤ fuel → Walked s (steps s)
walked_by zero [] h = rw steps-nil at-end
walked_by zero (x ∷ s) h = absurd (omega arith)
walked_by (suc fuel) [] h = rw steps-nil at-end
walked_by (suc fuel) (x ∷ s) h = by (read_sheet (x ∷ s)) refl (λ t k. walked_by fuel t k)
  where
    by : (w : Sheet) → read_sheet (x ∷ s) ≡ w → ((t : List ℕ) → length t ≤ fuel → Walked t (steps t)) → Walked (x ∷ s) (steps (x ∷ s))
    by (refused r) q go = rw (steps_lose (x ∷ s) r (omega arith) q) (lost_one (x ∷ s) r (steps s) (omega arith) q (go s (omega arith)))
    by (sheet es n) q go =
        let b = sheet_bounds (x ∷ s) es n q in
        let l = length-drop n (x ∷ s) in
        rw (steps_keep (x ∷ s) es n q) (kept_one (x ∷ s) es n (steps (drop n (x ∷ s))) q (go (drop n (x ∷ s)) (omega arith)))

pub walked : (s : List ℕ) → Walked s (steps s)
walked s = walked_by (length s) s (omega arith)

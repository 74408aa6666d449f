-- Laws of the stretches: they count what was dropped, stand apart in order, and have the places of the dropped bytes.
use Rattle.std.specs.Prelude.{ℕ, zero, suc, ◌+◌, ◌-◌, ◌*◌, ◌≤◌, ◌≡◌, refl, List, [], ◌∷◌, ◌++◌, length, take, drop}
use Rattle.std.proofs.Common.{sym, ap, ◌∙◌, append_assoc, arith, zero-add, add-zero, add-one, length-append, length-drop, length-take-le}
use Rattle.year_file.specs.laws.BoundLaws.{sheet_bounds}
use Rattle.year_file.specs.Walk.{Step, keep, lose, kept_in, Stretch, ended, stretches_in}
use Rattle.year_file.specs.Claims.{lost, Apart, places_from, places_of, dropped_at, spanned}
use Rattle.year_file.specs.laws.StepLaws.{Walked, at-end, kept_one, lost_one}

-- ---- counted

pub all-spanned : (s : List ℕ) (ts : List Step) → Walked s ts → spanned ts ≡ length s
unfolding spanned
all-spanned _ _ at-end = refl
all-spanned _ _ (kept_one s es n rest q w) =
    let b = sheet_bounds s es n q in
    let r = all-spanned (drop n s) rest w in
    omega (arith, length-take-le n s b.1, length-drop n s)
all-spanned _ _ (lost_one s r rest h q w) =
    let i = all-spanned (drop 1 s) rest w in
    omega (arith, length-drop 1 s)

lost-ended : (at n : ℕ) (ts : List Stretch) → lost (ended at n ++ ts) ≡ n + lost ts
unfolding lost
lost-ended at zero ts = sym (zero-add (lost ts))
lost-ended at (suc n) ts = refl

pub counted : (at n : ℕ) (ts : List Step) → length (kept_in ts) + lost (stretches_in at n ts) ≡ n + spanned ts
unfolding kept_in stretches_in spanned lost
counted at zero [] = refl
counted at (suc n) [] = zero-add (suc n + 0)
counted at n (keep x ∷ ts) =
    let r = counted (at + length x) 0 ts in
    omega (arith, length-append x (kept_in ts), lost-ended at n (stretches_in (at + length x) 0 ts))
counted at n (lose ∷ ts) = let r = counted (at + 1) (n + 1) ts in omega arith

-- ---- apart

ended_apart : (low at n end : ℕ) (rest : List Stretch) → low + n ≤ at → at ≤ end → ((l : ℕ) → l ≤ at + 1 → Apart l rest end)
    → Apart low (ended at n ++ rest) end
unfolding Apart
ended_apart low at zero end rest h k go = go low (omega arith)
ended_apart low at (suc n) end rest h k go =
    (omega arith, omega arith, omega arith, go (at - suc n + suc n + 1) (omega arith))

ended-alone : (at n : ℕ) → ended at n ++ [] ≡ ended at n
ended-alone at zero = refl
ended-alone at (suc n) = refl

pub apart : (s : List ℕ) (ts : List Step) → Walked s ts → (low at n end : ℕ) → low + n ≤ at → at + length s ≤ end
    → Apart low (stretches_in at n ts) end
unfolding stretches_in Apart
apart _ _ at-end low at n end h k =
    rw (← ended-alone at n) (ended_apart low at n end [] h (omega arith) (λ l g. none l end))
  where
    none : (l end : ℕ) → Apart l [] end
    none l end = tt
apart _ _ (kept_one s es m rest q w) low at n end h k =
    let b = sheet_bounds s es m q in
    let l = length-take-le m s b.1 in
    let d = length-drop m s in
    ended_apart low at n end (stretches_in (at + length (take m s)) 0 rest) h (omega arith)
    (λ x g. apart (drop m s) rest w x (at + length (take m s)) 0 end (omega arith) (omega arith))
apart _ _ (lost_one s r rest h' q w) low at n end h k =
    let d = length-drop 1 s in
    apart (drop 1 s) rest w low (at + 1) (n + 1) end (omega arith) (omega arith)

-- ---- places

places_more : (a n : ℕ) → places_from a (suc n) ≡ places_from a n ++ ((a + n) ∷ [])
unfolding places_from
places_more a zero = ap (λ x. x ∷ []) (sym (add-zero a))
places_more a (suc n) =
    let e : a + 1 + n ≡ a + suc n = omega arith in
    ap (λ l. a ∷ l) (places_more (a + 1) n ∙ ap (λ x. places_from (a + 1) n ++ (x ∷ [])) e)

places_ended : (at n : ℕ) (ts : List Stretch) → places_of (ended at n ++ ts) ≡ places_from (at - n) n ++ places_of ts
unfolding places_of places_from
places_ended at zero ts = refl
places_ended at (suc n) ts = refl

pub places : (at n : ℕ) (ts : List Step) → n ≤ at → places_of (stretches_in at n ts) ≡ places_from (at - n) n ++ dropped_at at ts
unfolding stretches_in dropped_at places_of places_from
places at n [] h = ap places_of (sym (ended-alone at n)) ∙ places_ended at n [] ∙ ap (λ l. places_from (at - n) n ++ l) nothing
  where
    nothing : places_of [] ≡ []
    nothing = refl
places at n (keep x ∷ ts) h =
    places_ended at n (stretches_in (at + length x) 0 ts)
    ∙ ap (λ l. places_from (at - n) n ++ l) (places (at + length x) 0 ts (omega arith))
places at n (lose ∷ ts) h =
    let e : at + 1 - (n + 1) ≡ at - n = omega arith in
    let f : at - n + n ≡ at = omega arith in
    places (at + 1) (n + 1) ts (omega arith)
    ∙ ap (λ k. places_from k (n + 1) ++ dropped_at (at + 1) ts) e
    ∙ ap (λ l. l ++ dropped_at (at + 1) ts) (ap (places_from (at - n)) (add-one n) ∙ places_more (at - n) n)
    ∙ append_assoc (places_from (at - n) n) ((at - n + n) ∷ []) (dropped_at (at + 1) ts)
    ∙ ap (λ k. places_from (at - n) n ++ (k ∷ dropped_at (at + 1) ts)) f

-- ---- a stretch that has begun is noted

pub begun : (at n : ℕ) (ts : List Step) → stretches_in at (suc n) ts ≡ [] → ⊥
unfolding stretches_in
begun at n [] e = let z : ◌≡◌ {A = ℕ} 0 1 = cc in omega arith
begun at n (keep x ∷ ts) e = let z : ◌≡◌ {A = ℕ} 0 1 = cc in omega arith
begun at n (lose ∷ ts) e = begun (at + 1) (suc n) ts (ap (λ k. stretches_in (at + 1) k ts) (sym (add-one (suc n))) ∙ e)

-- ---- how many there are

ended_few : (at n : ℕ) (ts : List Stretch) → (length (ended at n ++ ts) ≤ n + length ts) × (length (ended at n ++ ts) ≤ 1 + length ts)
ended_few at zero ts = (omega arith, omega arith)
ended_few at (suc n) ts = (omega arith, omega arith)

-- a stretch has a byte at least, and a sheet between two of them 17
pub few : (s : List ℕ) (ts : List Step) → Walked s ts → (at n : ℕ) → 18 * length (stretches_in at n ts) ≤ length s + n + 17
unfolding stretches_in
few _ _ at-end at n = let e = ended_few at n [] in let f = ap length (ended-alone at n) in omega arith
few _ _ (kept_one s es m rest q w) at n =
    let b = sheet_bounds s es m q in
    let r = few (drop m s) rest w (at + length (take m s)) 0 in
    let e = ended_few at n (stretches_in (at + length (take m s)) 0 rest) in
    omega (arith, length-drop m s)
few _ _ (lost_one s x rest h q w) at n =
    let r = few (drop 1 s) rest w (at + 1) (n + 1) in
    omega (arith, length-drop 1 s)

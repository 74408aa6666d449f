-- The sheet of a sound course keeps every rule that a reader asks of a sheet.
--   kept-sheet   the sheet is well formed: order and fields, entry by entry, judged by what came before
-- Why: the walk's entries are in order, alternate, and lie in the window (contacts), and seconds are stored plus
-- 10,800.
use Rattle.std.specs.Prelude.{◌≡◌, Bool, cond, ◌||◌, List, [], ◌∷◌, ◌++◌, map, ◌⊎◌, ℕ, ◌+◌, ◌≤◌, ◌<◌, eqb, ℤ, pos, neg_ℤ, ◌-ℤ◌, ◌≤ℤ◌}
use Rattle.std.proofs.Math.Path.{refl, subst, ap}
use Rattle.std.proofs.Common.{sym, ◌∙◌, append_assoc, inl, inr, arith, le-leb, eq-eqb}
use Rattle.std.proofs.Math.Bool.{true, false}
use Rattle.std.proofs.Math.IntN.{nat_abs}
use Rattle.rounding.specs.Parts.{pos_p, neg_p, sum}
use Rattle.rounding.specs.laws.Order.{zs, ≤-parts}
use Rattle.sheet_types.specs.declared.phases.Phase.{Phase}
use Rattle.sheet_types.specs.declared.phases.Phase.TheVariants.{Penumbra, Star}
use Rattle.sheet_types.specs.Phases.{eclipse, star, same, Listed}
use Rattle.sheet_types.specs.laws.PhaseLaws.{same-is}
use Rattle.requests.specs.Windows.{second_count}
use Rattle.requests.specs.WindowLaws.{last-is, second-in}
use Rattle.contacts.specs.declared.entries.Entry as Contact
use Rattle.contacts.specs.declared.entries.Entry.TheVariants as K
use Rattle.contacts.specs.Entries as CE
use Rattle.contacts.specs.Exact.{Turn, neither, entered, left, Alternate}
use Rattle.contacts.specs.laws.Ordered.{Ordered, ordered}
use Rattle.contacts.proofs.laws.Alternate.{alternate}
use Rattle.contacts.proofs.laws.WellFormed as CW
use Rattle.sheet_format.specs.declared.kinds.Entry.{Entry}
use Rattle.sheet_format.specs.declared.kinds.Stage.TheVariants as S
use Rattle.sheet_format.specs.declared.kinds.Crossing.{Crossing}
use Rattle.sheet_format.specs.declared.kinds.Crossing.TheVariants as C
use Rattle.sheet_rules.specs.Order.{repeats}
use Rattle.sheet_format.specs.FieldRules.{is_direction, greatestMagnitude}
use Rattle.rounding.specs.laws.Tests.{distinct}
use Rattle.sheet_rules.specs.Rules.{start}
use Rattle.sheet_format.specs.StoredSeconds.{stored}
use Rattle.sheet_format.specs.laws.StoredSecondLaws.{stored_is}
use Rattle.sheet_codec.specs.laws.WellFormed.{WellFormed, within}
use Rattle.sheet_codec.specs.laws.WellFormedLaws.{well_step, step-head, well_first, well_later, step-enter, step-leave, step-graze, step-open, well_closest, well_share}
use Rattle.local_circumstances.specs.laws.Lengths.{closing-shared, closing-plain}
use Rattle.local_circumstances.specs.Courses.{Course, second, states_of, entry_of, phaseEntries, entriesOf, headEntry, closestEntry, shareEntry, closingEntries, sheetOf}
use Rattle.local_circumstances.specs.Sound.{InOrder, Sound}
use Rattle.local_circumstances.specs.laws.CourseLaws.{states_length, first, stored_at}

pub eclipse_in_order : InOrder eclipse
eclipse_in_order = (refl, refl, tt)

pub star_in_order : InOrder star
star_in_order = tt

-- an eclipse has no star's phase
pub no_star_in_eclipse : Listed Star eclipse → ⊥
no_star_in_eclipse (inl e) = let z : ◌≡◌ {A = ℕ} 0 1 = cc in omega arith
no_star_in_eclipse (inr (inl e)) = let z : ◌≡◌ {A = ℕ} 0 1 = cc in omega arith
no_star_in_eclipse (inr (inr x)) = elim x [ ]

-- the last turn of contacts as a reader keeps it
abbrev crossing : Turn → Crossing
crossing neither = C.Neither
crossing entered = C.Enter
crossing left = C.Leave

not_enter : (t : Turn) → (t ≡ entered → ⊥) → repeats (crossing t) C.Enter ≡ false
not_enter neither h = refl
not_enter entered h = absurd (h refl)
not_enter left h = refl

not_leave : (t : Turn) → (t ≡ left → ⊥) → repeats (crossing t) C.Leave ≡ false
not_leave neither h = refl
not_leave entered h = refl
not_leave left h = absurd (h refl)

direction-holds : (d : ℕ) → (d ≤ 3599) ⊎ (d ≡ 65535) → is_direction d ≡ true
direction-holds d (inl h) = ap (λ (b : Bool). b || eqb d 65535) (le-leb d 3599 h)
direction-holds d (inr h) = rw h

or_second : (b c : Bool) → c ≡ true → (b || c) ≡ true
or_second true c e = refl
or_second false c e = e

module _ (c : Course) (s : Sound c) where
  abbrev n : ℕ
  n = second_count c.window

  abbrev f : ℕ
  f = first c s

  abbrev l : ℕ
  l = stored c.window.last

  last_stored : l + 1 ≡ f + n
  unfolding second_count
  last_stored =
      let b = nat_abs (c.window.last -ℤ c.window.first) in
      omega (arith, ap stored (last-is c.window s.window), stored_at c s b)

  -- a second of the window, stored
  module _ (k : ℕ) (h : k < n) where
    not-early : f ≤ stored (second c k)
    not-early = omega (arith, stored_at c s k)

    not_late : stored (second c k) ≤ l
    not_late = omega (arith, stored_at c s k, last_stored)

  -- ---- the entries of a phase, and what comes after them
  module _ (φ : Phase) (rest : List Entry) (go_on : (until : ℕ) (t : Crossing) → WellFormed (within φ f l until t) rest) where
    direction-kept : (τ : ℤ) → is_direction (c.direction τ) ≡ true
    direction-kept τ = direction-holds (c.direction τ) (s.direction τ)

    -- "from is the first second or to the last"
    at-end : (a b : ℕ) → (a ≡ 0) ⊎ (b + 1 ≡ n) → (eqb (stored (second c a)) f || eqb (stored (second c b)) l) ≡ true
    at-end a b (inl z) =
        ap (λ (t : Bool). t || eqb (stored (second c b)) l) (eq-eqb (stored (second c a)) f (omega (arith, stored_at c s a)))
    at-end a b (inr z) =
        or_second (eqb (stored (second c a)) f) (eqb (stored (second c b)) l) (eq-eqb (stored (second c b)) l (omega (arith, stored_at c s b, last_stored)))

    later : (x lo until : ℕ) → until ≤ f + lo → lo ≤ x → until ≤ stored (second c x)
    later x lo until h o = omega (arith, stored_at c s x)

    before : (x y : ℕ) → x < y → y < n → x < n
    before x y h k = omega arith

    ascends : (x y : ℕ) → x < y → stored (second c x) < stored (second c y)
    ascends x y h = omega (arith, stored_at c s x, stored_at c s y)

    at_most : (y : ℕ) → stored (second c y) ≤ f + y
    at_most y = omega (arith, stored_at c s y)

    kept-phase : (es : List Contact.Entry) (until lo : ℕ) (t : Turn) → until ≤ f + lo → Ordered lo es → Alternate t es → CE.All (CW.WellFormed n) es
        → WellFormed (within φ f l until (crossing t)) (map (entry_of c φ) es ++ rest)
    kept-phase [] until lo t h o a w = go_on until (crossing t)
    kept-phase (K.Enter x y ∷ es) until lo t h o a w =
        well_step (map (entry_of c φ) es ++ rest)
        (step-enter φ f l until (crossing t) (stored (second c x)) (stored (second c y)) (later x lo until h o.0) (not-early x (before x y w.0.0 w.0.1)) (not_late y w.0.1)
        (c.direction (second c y)) (not_enter t a.0) (ascends x y w.0.0) (direction-kept (second c y)))
        (kept-phase es (stored (second c y)) y entered (at_most y) o.1 a.1 w.1)
    kept-phase (K.Leave x y ∷ es) until lo t h o a w =
        well_step (map (entry_of c φ) es ++ rest)
        (step-leave φ f l until (crossing t) (stored (second c x)) (stored (second c y)) (later x lo until h o.0) (not-early x (before x y w.0.0 w.0.1)) (not_late y w.0.1)
        (c.direction (second c x)) (not_leave t a.0) (ascends x y w.0.0) (direction-kept (second c x)))
        (kept-phase es (stored (second c y)) y left (at_most y) o.1 a.1 w.1)
    kept-phase (K.Graze x y ∷ es) until lo t h o a w =
        well_step (map (entry_of c φ) es ++ rest)
        (step-graze φ f l until (crossing t) (stored (second c x)) (stored (second c y)) (later x lo until h o.0) (not-early x (before x y w.0.0 w.0.1)) (not_late y w.0.1)
        (ascends x y w.0.0))
        (kept-phase es (stored (second c y)) y t (at_most y) o.1 a w.1)
    kept-phase (K.Open x y ∷ es) until lo t h o a w =
        well_step (map (entry_of c φ) es ++ rest)
        (step-open φ f l until (crossing t) (stored (second c x)) (stored (second c y)) (later x lo until h o.0) (not-early x (omega (arith, w.0.0, w.0.1))) (not_late y w.0.1)
        (omega (arith, stored_at c s x, stored_at c s y, w.0.0)) (at-end x y w.0.2))
        (kept-phase es (stored (second c y)) y t (at_most y) o.1 a w.1)

    kept-entries : WellFormed (within φ f l 0 C.Neither) (phaseEntries c φ ++ rest)
    unfolding phaseEntries
    kept-entries =
        kept-phase (CE.entries (states_of c φ)) 0 0 neither (omega arith) (ordered (states_of c φ)) (alternate (states_of c φ))
        (subst (λ (j : ℕ). CE.All (CW.WellFormed j) (CE.entries (states_of c φ))) (states_length c φ) (CW.well_formed (states_of c φ)))

  -- ---- the phases in their order, and what closes the sheet
  abbrev tail : List Entry
  tail = closingEntries c

  abbrev least : ℕ
  least = c.closest

  module _ (φ : Phase) (listed : φ ≡ Star → Listed Star c.phases) where
    -- after a star's phase closest carries magnitude 0
    magnitude-kept : c.magnitude (second c least) ≤ greatestMagnitude (S.Phase φ)
    magnitude-kept = by (same φ Star) refl
      where
        by : (b : Bool) → same φ Star ≡ b → c.magnitude (second c least) ≤ cond b 0 1300000
        by true e = omega (arith, s.star-magnitude (listed (same-is φ Star e)))
        by false e = s.magnitude (second c least) (second-in c.window s.window least s.closest)

    -- and no share comes after it
    no_star : c.sharing ≡ true → same φ Star ≡ false
    no_star e = by (same φ Star) refl
      where
        by : (b : Bool) → same φ Star ≡ b → b ≡ false
        by true q = absurd (distinct (sym e ∙ s.star_unshared (listed (same-is φ Star q))))
        by false q = refl

    kept-closest : (until : ℕ) (t : Crossing) → WellFormed (within φ f l until t) tail
    unfolding closestEntry shareEntry
    kept-closest until t =
        let k = least in
        let inside = second-in c.window s.window k s.closest in
        elim c.sharing as (λ b. c.sharing ≡ b → WellFormed (within φ f l until t) tail) [
          | true ↦ λ e. subst (WellFormed (within φ f l until t)) (sym (closing-shared c e))
              (well_share φ f l until t (stored (second c k)) (c.magnitude (second c k)) (c.share (second c k)) (no_star e) (not-early k s.closest)
              (not_late k s.closest) (s.magnitude (second c k) inside) (s.share (second c k) inside))
          | false ↦ λ e. subst (WellFormed (within φ f l until t)) (sym (closing-plain c e))
              (well_closest φ f l until t (stored (second c k)) (c.magnitude (second c k)) (not-early k s.closest) (not_late k s.closest) magnitude-kept)
        ] refl

  -- each of some phases is one of the course's
  abbrev Among : List Phase → Type 0
  Among φs = (ψ : Phase) → Listed ψ φs → Listed ψ c.phases

  kept-phases : (φ : Phase) (φs : List Phase) → InOrder (φ ∷ φs) → Among (φ ∷ φs)
      → WellFormed (within φ f l 0 C.Neither) (phaseEntries c φ ++ (entriesOf c φs ++ tail))
  kept-phases φ [] o among = kept-entries φ tail (kept-closest φ (λ e. among Star (inl (sym e))))
  kept-phases φ (ψ ∷ φs) o among =
      kept-entries φ ((phaseEntries c ψ ++ entriesOf c φs) ++ tail)
      (λ until t. well_later φ ψ f l until t o.0 o.1 ((phaseEntries c ψ ++ entriesOf c φs) ++ tail)
      (rw (append_assoc (phaseEntries c ψ) (entriesOf c φs) tail) (kept-phases ψ φs o.2 (λ χ i. among χ (inr i)))))

  -- after the head
  kept-all : (φs : List Phase) → InOrder φs → Among φs → (ψ : Phase) × WellFormed (within ψ f l 0 C.Neither) (entriesOf c φs ++ tail)
  kept-all [] o among = (Penumbra, kept-closest Penumbra (λ e. let z : ◌≡◌ {A = ℕ} 0 1 = cc in absurd (omega arith)) 0 C.Neither)
  kept-all (φ ∷ φs) o among = (φ, rw (append_assoc (phaseEntries c φ) (entriesOf c φs) tail) (kept-phases φ φs o among))

  last-small : l ≤ 21600
  last-small =
      omega (arith, ap pos_p (stored_is c.window.last low), ap neg_p (stored_is c.window.last low), (sum c.window.last (pos 10800)).is, ≤-parts s.window.high)
    where
      low : neg_ℤ (pos 10800) ≤ℤ c.window.last
      low = omega (arith, zs, s.window.low, s.window.ordered)

  pub kept-sheet : WellFormed start (sheetOf c)
  unfolding sheetOf headEntry
  kept-sheet =
      let all = kept-all c.phases s.order (λ φ i. i) in
      well_step (entriesOf c c.phases ++ tail)
      (step-head c.station f l c.guard s.station.0 s.station.1 (omega (arith, last_stored, s.closest)) last-small s.guard.0 s.guard.1)
      (well_first all.0 f l (entriesOf c c.phases ++ tail) all.1)

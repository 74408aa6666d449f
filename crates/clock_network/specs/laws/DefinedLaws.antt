-- What the functions of `Defined` mean.
--     first-of       `first_of` of a test of P is the first place of P
--     steps-bound    no steps are more than the list is long: the stations on a chain are all different
--     steps-of-are   `steps_of` are the steps of the relation `Steps`, in list order
--     repeat-is, stray-is, lost-is, earliest-is, steps-is    what a search found is what the function says
use Rattle.std.specs.Prelude.{◌≡◌, Bool, true, false, cond, not, ◌&&◌, List, [], ◌∷◌, ltb, leb, length, get_or, set, replicate, ℤ, pos, negsuc}
use Rattle.std.proofs.Math.Path.{refl, ap}
use Rattle.std.proofs.Common.{sym, ◌∙◌, subst, arith, eqb-true, eq-eqb, ltb-true, ltb-false, lt-ltb, le-ltb, leb-true, le-leb, length-set}
use Prim.Native.Nat.{ℕ, zero, suc, ◌+◌, ◌<◌, ◌≤◌}
use Rattle.std.proofs.Math.Decide.{dec_lt, ℕ_discrete}
use Rattle.std.proofs.lemmas.List.{length-replicate}
use Rattle.clock_network.specs.laws.First.{First, first_one}
use Rattle.clock_network.specs.Steps.{At, Repeats, Distinct, Stray, Steps, antenna, follows, Lost, StepsAre, Smallest}
use Rattle.clock_network.specs.laws.Search.{Sound, zeros}
use Rattle.clock_network.specs.laws.Laws.{distinct_one, steps_place, steps-one, zeros-set, sound_set, at_set, all_zero, distinct_from, steps_are_one}
use Rattle.clock_network.specs.Defined.{eq_z, first_of, place_of, repeat_b, stray_b, more, chain, steps_at, tab, steps_of, lost_b, firstRepeat, firstStray, first_lost, noneBelow, smallest_b, earliestOf}

-- ---- equality of numbers, as a test
pub eq_z_true : (x y : ℤ) → eq_z x y ≡ true → x ≡ y
eq_z_true (pos m) (pos n) e = ap pos (eqb-true m n e)
eq_z_true (pos m) (negsuc n) e = let z : ◌≡◌ {A = ℕ} 0 1 = cc in absurd (omega arith)
eq_z_true (negsuc m) (pos n) e = let z : ◌≡◌ {A = ℕ} 0 1 = cc in absurd (omega arith)
eq_z_true (negsuc m) (negsuc n) e = ap negsuc (eqb-true m n e)

eq_z-same : (x : ℤ) → eq_z x x ≡ true
eq_z-same (pos m) = eq-eqb m m refl
eq_z-same (negsuc m) = eq-eqb m m refl

pub eq_z_yes : (x y : ℤ) → x ≡ y → eq_z x y ≡ true
eq_z_yes x y e = subst (λ (z : ℤ). eq_z x z ≡ true) e (eq_z-same x)

clash : {X : Type 0} {b : Bool} → b ≡ true → b ≡ false → X
clash p q = let z : ◌≡◌ {A = ℕ} 0 1 = cc in absurd (omega arith)

pub eq_z_no : (x y : ℤ) → (x ≡ y → ⊥) → eq_z x y ≡ false
eq_z_no x y n = go (eq_z x y) refl
  where
    go : (b : Bool) → eq_z x y ≡ b → b ≡ false
    go true e = absurd (n (eq_z_true x y e))
    go false e = refl

-- ---- the first place
module _ (P : ℕ → Type 0) (t : ℕ → Bool) (N : ℕ) (yes-P : (k : ℕ) → k < N → t k ≡ true → P k) (P-yes : (k : ℕ) → k < N → P k → t k ≡ true) where
  one_more : (n r : ℕ) (a b : Bool) → n < N → ltb r n ≡ a → t n ≡ b → First P n r → First P (suc n) (cond a r (cond b n (suc n)))
  one_more n r true b v e d p = let l : r < n = ltb-true r n e in record { within = omega arith; before = p.before; found = λ _. p.found l }
  one_more n r false true v e d p = let l : n ≤ r = ltb-false r n e in record { within = omega arith; before = λ k h. p.before k (omega arith); found = λ _. yes-P n v d }
  one_more n r false false v e d p = let l : n ≤ r = ltb-false r n e in record {
    within = omega arith;
    before = λ k h q. elim (dec_lt k n) [
      | yes g ↦ p.before k (omega arith) q
      | no g ↦ let i : k ≡ n = omega (arith, g) in clash (subst (λ (m : ℕ). t m ≡ true) i (P-yes k (omega arith) q)) d
    ];
    found = λ h. absurd (omega arith);
  }

  pub first-of : (n : ℕ) → n ≤ N → First P n (first_of t n)
  unfolding first_of
  first-of zero v = record { within = omega arith; before = λ k h. absurd (omega arith); found = λ h. absurd (omega arith) }
  first-of (suc n) v = one_more n (first_of t n) (ltb (first_of t n) n) (t n) (omega arith) refl refl (first-of n (omega arith))

pub place-of : (ns : List ℤ) (x : ℤ) → First (At ns x) (length ns) (place_of ns x)
place-of ns x = first-of (At ns x) (λ j. eq_z (get_or ns j (pos 0)) x) (length ns) (λ k _ e. eq_z_true (get_or ns k (pos 0)) x e) (λ k _ e. eq_z_yes (get_or ns k (pos 0)) x e) (length ns) (omega arith)

-- ---- the chain that is followed
module _ (ns cs : List ℤ) where
  abbrev leader : ℕ → ℕ
  leader i = place_of ns (get_or cs i (pos 0))

  sound-go : (i c : ℕ) (a b : Bool) → ltb i (length ns) ≡ a → eq_z (get_or cs i (pos 0)) (pos 0) ≡ b → ((c ≡ 0 → ⊥) → Steps ns cs (leader i) c)
      → (cond a (cond b 1 (more c)) 0 ≡ 0 → ⊥) → Steps ns cs i (cond a (cond b 1 (more c)) 0)
  sound-go i c false b e d s h = absurd (h refl)
  sound-go i c true true e d s h = antenna (ltb-true i (length ns) e) (eq_z_true (get_or cs i (pos 0)) (pos 0) d)
  sound-go i zero true false e d s h = absurd (h refl)
  sound-go i (suc m) true false e d s h =
      let t : Steps ns cs (leader i) (suc m) = s (λ z. omega arith) in
      follows (ltb-true i (length ns) e) (λ z. clash (eq_z_yes (get_or cs i (pos 0)) (pos 0) z) d) (steps_place t) ((place-of ns (get_or cs i (pos 0))).found (steps_place t)) t

  pub chain-sound : (k i : ℕ) → (chain ns cs k i ≡ 0 → ⊥) → Steps ns cs i (chain ns cs k i)
  unfolding chain
  chain-sound zero i h = absurd (h refl)
  chain-sound (suc k) i h = sound-go i (chain ns cs k (leader i)) (ltb i (length ns)) (eq_z (get_or cs i (pos 0)) (pos 0)) refl refl (chain-sound k (leader i)) h

  module _ (d : Distinct ns) where
    led : (i j : ℕ) → j < length ns → get_or ns j (pos 0) ≡ get_or cs i (pos 0) → leader i ≡ j
    led i j l e = first_one (place-of ns (get_or cs i (pos 0))) (record {
      within = omega arith;
      before = λ k h a. let q : k ≡ j = distinct_one ns k j d (omega arith) l (a ∙ sym e) in omega arith;
      found = λ _. e;
    })

    steps-some : {i n : ℕ} → Steps ns cs i n → n ≡ 0 → ⊥
    steps-some (antenna l e) z = omega arith
    steps-some (follows l z lj ej s) e = omega arith

    more-some : (n : ℕ) → (n ≡ 0 → ⊥) → more n ≡ suc n
    more-some zero h = absurd (h refl)
    more-some (suc n) h = refl

    pub chain-complete : {i n : ℕ} → Steps ns cs i n → (k : ℕ) → n ≤ k → chain ns cs k i ≡ n
    unfolding chain
    chain-complete (antenna l e) zero h = absurd (omega arith)
    chain-complete {i} (antenna l e) (suc k) h = rw (lt-ltb i (length ns) l, eq_z_yes (get_or cs i (pos 0)) (pos 0) e)
    chain-complete (follows l z lj ej s) zero h = absurd (omega arith)
    chain-complete {i} (follows {j = j} {n = n} l z lj ej s) (suc k) h =
        rw (lt-ltb i (length ns) l, eq_z_no (get_or cs i (pos 0)) (pos 0) z)
        (ap (λ (p : ℕ). more (chain ns cs k p)) (led i j lj ej) ∙ (ap more (chain-complete s k (omega arith)) ∙ more-some n (steps-some s)))

    -- ---- the stations on a chain are marked with their steps, one mark each
    record Marked (i n : ℕ) : Type 0 where
      st : List ℕ
      size : length st ≡ length ns
      sound : Sound ns cs st
      high : (k : ℕ) → get_or st k 0 ≤ n
      sum : zeros st + n ≡ length ns

    no-marks : (n : ℕ) → zeros (replicate n 0) ≡ n
    unfolding zeros
    no-marks zero = refl
    no-marks (suc n) = ap suc (no-marks n)

    -- one mark more, at a place that has none
    marked : (i n : ℕ) (l : List ℕ) → length l ≡ length ns → Sound ns cs l → ((k : ℕ) → get_or l k 0 ≤ n) → zeros l + n ≡ length ns → i < length ns → get_or l i 0 ≡ 0 → Steps ns cs i (suc n) → Marked i (suc n)
    marked i n l e f h z b o s =
        let g : i < length l = omega arith in
        let m : zeros (set l i (suc n)) + 1 ≡ zeros l = zeros-set l i (suc n) g o (λ q. omega arith) in record {
          st = set l i (suc n);
          size = length-set l i (suc n) ∙ e;
          sound = sound_set ns cs l i (suc n) g s f;
          high = at_set (λ k x. x ≤ suc n) l i (suc n) g (omega arith) (λ k. omega (arith, h k));
          sum = omega arith;
        }

    marks : {i n : ℕ} → Steps ns cs i n → Marked i n
    marks {i} (antenna l e) =
        marked i 0 (replicate (length ns) 0) (length-replicate (length ns) 0) (λ k h. absurd (h (all_zero (length ns) k))) (λ k. omega (arith, all_zero (length ns) k)) (omega (arith, no-marks (length ns))) l (all_zero (length ns) i) (antenna l e)
    marks {i} (follows {j = j} {n = n} l z lj ej s) =
        let m : Marked j n = marks s in
        marked i n m.st m.size m.sound m.high m.sum l
        (elim (ℕ_discrete (get_or m.st i 0) 0) [
          | yes q ↦ q
          | no q ↦ let a : get_or m.st i 0 ≡ suc n = steps-one d (m.sound i q) (follows l z lj ej s) in absurd (omega (arith, m.high i))
        ])
        (follows l z lj ej s)

    pub steps-bound : {i n : ℕ} → Steps ns cs i n → n ≤ length ns
    steps-bound s = omega (arith, (marks s).sum)

    pub steps-at : {i n : ℕ} → Steps ns cs i n → steps_at ns cs i ≡ n
    steps-at s = chain-complete s (length ns) (steps-bound s)

    pub lost-at : (i : ℕ) → steps_at ns cs i ≡ 0 → Lost ns cs i
    lost-at i e n s = steps-some s (sym (steps-at s) ∙ e)

-- ---- the 64 numbers
length-tab : (f : ℕ → ℕ) (n k : ℕ) → length (tab f n k) ≡ n
length-tab f zero k = refl
length-tab f (suc n) k = ap suc (length-tab f n (suc k))

get_d_tab : (f : ℕ → ℕ) (n k i : ℕ) → i < n → get_or (tab f n k) i 0 ≡ f (k + i)
get_d_tab f zero k i h = absurd (omega arith)
get_d_tab f (suc n) k zero h = ap f (omega arith)
get_d_tab f (suc n) k (suc i) h = get_d_tab f n (suc k) i (omega arith) ∙ ap f (omega arith)

get_d_past : (l : List ℕ) (i : ℕ) → length l ≤ i → get_or l i 0 ≡ 0
get_d_past [] i h = refl
get_d_past (x ∷ l) zero h = absurd (omega arith)
get_d_past (x ∷ l) (suc i) h = get_d_past l i (omega arith)

pub steps-length : (ns cs : List ℤ) → length (steps_of ns cs) ≡ 64
unfolding steps_of
steps-length ns cs = length-tab (steps_at ns cs) 64 0

module _ (ns cs : List ℤ) (d : Distinct ns) (room : length ns ≤ 64) where
  at_place : (i : ℕ) → i < 64 → get_or (steps_of ns cs) i 0 ≡ steps_at ns cs i
  unfolding steps_of
  at_place i h = get_d_tab (steps_at ns cs) 64 0 i h ∙ ap (steps_at ns cs) (omega arith)

  pub steps-of-are : StepsAre ns cs (steps_of ns cs)
  steps-of-are = record {
    size = steps-length ns cs;
    sound = λ i h. elim (dec_lt i 64) [
      | yes l ↦ subst (Steps ns cs i) (sym (at_place i l)) (chain-sound ns cs (length ns) i (λ e. h (at_place i l ∙ e)))
      | no l ↦ absurd (h (get_d_past (steps_of ns cs) i (omega (arith, steps-length ns cs, l))))
    ];
    lost = λ i e n s. let l : i < length ns = steps_place s in lost-at ns cs d i (sym (at_place i (omega arith)) ∙ e) n s;
  }

-- ---- 14, 15, 16
pub repeat_of : (ns : List ℤ) → First (Repeats ns) (length ns) (first_of (repeat_b ns) (length ns))
repeat_of ns = first-of (Repeats ns) (repeat_b ns) (length ns) yes-r r-yes (length ns) (omega arith)
  where
    at : ℕ → ℕ
    at i = place_of ns (get_or ns i (pos 0))

    p : (i : ℕ) → First (At ns (get_or ns i (pos 0))) (length ns) (at i)
    p i = place-of ns (get_or ns i (pos 0))

    yes-r : (i : ℕ) → i < length ns → repeat_b ns i ≡ true → Repeats ns i
    yes-r i b e = let l : at i < i = ltb-true (at i) i e in (at i, (l, (p i).found (omega arith)))

    r-yes : (i : ℕ) → i < length ns → Repeats ns i → repeat_b ns i ≡ true
    r-yes i b r = let l : r.0 < i = r.1.0 in elim (dec_lt r.0 (at i)) [ yes q ↦ absurd ((p i).before r.0 q r.1.1) | no q ↦ lt-ltb (at i) i (omega (arith, q)) ]

pub stray_of : (ns cs : List ℤ) → First (Stray ns cs) (length ns) (first_of (stray_b ns cs) (length ns))
stray_of ns cs = first-of (Stray ns cs) (stray_b ns cs) (length ns) yes-s s-yes (length ns) (omega arith)
  where
    at : ℕ → ℕ
    at i = place_of ns (get_or cs i (pos 0))

    p : (i : ℕ) → First (At ns (get_or cs i (pos 0))) (length ns) (at i)
    p i = place-of ns (get_or cs i (pos 0))

    go : (i : ℕ) (a b : Bool) → eq_z (get_or cs i (pos 0)) (pos 0) ≡ a → ltb (at i) (length ns) ≡ b → (not a && not b) ≡ true → Stray ns cs i
    go i true b e d h = clash h refl
    go i false true e d h = clash h refl
    go i false false e d h = let l : length ns ≤ at i = ltb-false (at i) (length ns) d in
        (λ z. clash (eq_z_yes (get_or cs i (pos 0)) (pos 0) z) e, λ k q a. (p i).before k (omega arith) a)

    yes-s : (i : ℕ) → i < length ns → stray_b ns cs i ≡ true → Stray ns cs i
    yes-s i b e = go i (eq_z (get_or cs i (pos 0)) (pos 0)) (ltb (at i) (length ns)) refl refl e

    s-yes : (i : ℕ) → i < length ns → Stray ns cs i → stray_b ns cs i ≡ true
    s-yes i b s =
        rw (eq_z_no (get_or cs i (pos 0)) (pos 0) s.0, le-ltb (at i) (length ns) (elim (dec_lt (at i) (length ns)) [ yes q ↦ absurd (s.1 (at i) q ((p i).found q)) | no q ↦ omega (arith, q) ]))

pub lost_of : (ns cs : List ℤ) → Distinct ns → First (Lost ns cs) (length ns) (first_of (lost_b ns cs) (length ns))
lost_of ns cs d = first-of (Lost ns cs) (lost_b ns cs) (length ns) (λ i _ e. lost-at ns cs d i (eqb-true (steps_at ns cs i) 0 e)) l-yes (length ns) (omega arith)
  where
    l-yes : (i : ℕ) → i < length ns → Lost ns cs i → lost_b ns cs i ≡ true
    l-yes i b l = elim (ℕ_discrete (steps_at ns cs i) 0) [ yes e ↦ eq-eqb (steps_at ns cs i) 0 e | no n ↦ absurd (l (steps_at ns cs i) (chain-sound ns cs (length ns) i n)) ]

-- ---- the smallest
none_below_yes : (x : ℕ) (ts : List ℕ) → noneBelow x ts ≡ true → (k : ℕ) → k < length ts → x ≤ get_or ts k 0
none_below_yes x [] e k l = absurd (omega arith)
none_below_yes x (t ∷ ts) e k l = go (leb x t) refl e (none_below_yes x ts) k l
  where
    go : (b : Bool) → leb x t ≡ b → (b && noneBelow x ts) ≡ true → (noneBelow x ts ≡ true → (k : ℕ) → k < length ts → x ≤ get_or ts k 0)
        → (k : ℕ) → k < length (t ∷ ts) → x ≤ get_or (t ∷ ts) k 0
    go true d h rest zero l = leb-true x t d
    go true d h rest (suc k) l = rest h k (omega arith)
    go false d h rest k l = clash h refl

yes_none_below : (x : ℕ) (ts : List ℕ) → ((k : ℕ) → k < length ts → x ≤ get_or ts k 0) → noneBelow x ts ≡ true
yes_none_below x [] f = refl
yes_none_below x (t ∷ ts) f = rw (le-leb x t (f 0 (omega arith))) (yes_none_below x ts (λ k l. f (suc k) (omega arith)))

pub earliest-of : (ts : List ℕ) (never : ℕ) → First (Smallest ts never) (length ts) (earliestOf ts never)
unfolding earliestOf
earliest-of ts never = first-of (Smallest ts never) (smallest_b ts never) (length ts) yes-s s-yes (length ts) (omega arith)
  where
    go : (i : ℕ) (b : Bool) → ltb (get_or ts i 0) never ≡ b → (b && noneBelow (get_or ts i 0) ts) ≡ true → Smallest ts never i
    go i true d h = (ltb-true (get_or ts i 0) never d, none_below_yes (get_or ts i 0) ts h)
    go i false d h = clash h refl

    yes-s : (i : ℕ) → i < length ts → smallest_b ts never i ≡ true → Smallest ts never i
    yes-s i b e = go i (ltb (get_or ts i 0) never) refl e

    s-yes : (i : ℕ) → i < length ts → Smallest ts never i → smallest_b ts never i ≡ true
    s-yes i b s = rw (lt-ltb (get_or ts i 0) never s.0) (yes_none_below (get_or ts i 0) ts s.1)

-- ---- what a search found
pub repeat-is : (ns : List ℤ) (r : ℕ) → First (Repeats ns) (length ns) r → r ≡ firstRepeat ns
unfolding firstRepeat
repeat-is ns r f = first_one f (repeat_of ns)

pub stray-is : (ns cs : List ℤ) (r : ℕ) → First (Stray ns cs) (length ns) r → r ≡ firstStray ns cs
unfolding firstStray
stray-is ns cs r f = first_one f (stray_of ns cs)

pub earliest-is : (ts : List ℕ) (never r : ℕ) → First (Smallest ts never) (length ts) r → r ≡ earliestOf ts never
earliest-is ts never r f = first_one f (earliest-of ts never)

pub first-repeat : (ns : List ℤ) → First (Repeats ns) (length ns) (firstRepeat ns)
unfolding firstRepeat
first-repeat ns = repeat_of ns

pub first-stray : (ns cs : List ℤ) → First (Stray ns cs) (length ns) (firstStray ns cs)
unfolding firstStray
first-stray ns cs = stray_of ns cs

-- no number is used twice
pub distinct : (ns : List ℤ) → firstRepeat ns ≡ length ns → Distinct ns
distinct ns e = distinct_from ns (subst (First (Repeats ns) (length ns)) e (first-repeat ns))

module _ (ns cs : List ℤ) (once : firstRepeat ns ≡ length ns) where
  pub first-lost : First (Lost ns cs) (length ns) (first_lost ns cs)
  unfolding first_lost
  first-lost = lost_of ns cs (distinct ns once)

  pub lost-is : (r : ℕ) → First (Lost ns cs) (length ns) r → r ≡ first_lost ns cs
  lost-is r f = first_one f first-lost

  pub steps-is : (st : List ℕ) → length ns ≤ 64 → StepsAre ns cs st → st ≡ steps_of ns cs
  steps-is st room a = steps_are_one ns cs st (steps_of ns cs) (distinct ns once) a (steps-of-are ns cs (distinct ns once) room)

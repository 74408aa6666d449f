-- What is found between two seconds: two hundredths between them, in order, of which the first has the state of the
-- first second and the last that of the last (`bracket-ends`); and where one second is outside and the other inside
-- they are found (`bracket-found`).
use Rattle.std.specs.Prelude.{◌≡◌, Bool, true, false, cond, ℕ, ◌+◌, ◌-◌, ◌≤◌, ◌<◌, eqb, ltb, ℤ, neg_ℤ, nat_abs, ◌+ℤ◌, ◌-ℤ◌, ◌*ℤ◌, ◌≤ℤ◌, ◌<ℤ◌, [], ◌∷◌, None, Some}
use Rattle.std.proofs.Math.Path.{refl, ap}
use Rattle.std.proofs.Common.{◌∙◌, sym, subst, arith, ⊎_elim}
use Rattle.std.proofs.Math.IntN.{pos}
use borrow.Author.Tests.{ltb-true, ltb-false, lt-ltb, le-ltb, eqb-true, eqb-false, eq-eqb, ne_eqb}
use Rattle.sheet_types.specs.States.{State, inside, outside, unsure, code}
use Rattle.rounding.specs.laws.Results.{some_parts}
use Rattle.rounding.specs.Parts.{sum, opposite}
use Rattle.rounding.specs.laws.Ring.{num, ◌⊕◌, ring, v0}
use Rattle.rounding.specs.laws.Order.{zs, <ℤ-≤, ≤ℤ_antisym, ≤ℤ_total, nonneg, minus_nonneg, nat_abs_parts}
use Rattle.contact_times.specs.declared.hundredths.Crossing.{Crossing}
use Rattle.contact_times.specs.Brackets.{state_at, side_of, side_at, last_below, narrowed, bracket_of}
use Rattle.contact_times.specs.laws.BracketLaws.{code_small, Last, halved_is}

-- the states of the bracket are those of the two seconds, one outside and one inside
pub record Ends (c : Crossing) (from to a b : ℤ) : Type 0 where
  pub least : (from *ℤ pos 100) ≤ℤ a
  pub order : a <ℤ b
  pub most : b ≤ℤ (to *ℤ pos 100)
  pub before : state_at c a ≡ state_at c (from *ℤ pos 100)
  pub after : state_at c b ≡ state_at c (to *ℤ pos 100)
  pub contact : code (state_at c (from *ℤ pos 100)) + code (state_at c (to *ℤ pos 100)) ≡ 1

code_one : (s t : State) → code s ≡ code t → s ≡ t
code_one inside inside e = refl
code_one inside outside e = absurd (omega arith)
code_one inside unsure e = absurd (omega arith)
code_one outside inside e = absurd (omega arith)
code_one outside outside e = refl
code_one outside unsure e = absurd (omega arith)
code_one unsure inside e = absurd (omega arith)
code_one unsure outside e = absurd (omega arith)
code_one unsure unsure e = refl

-- ---- sides
side_same : (k : ℕ) → side_of k k ≡ 0
unfolding side_of
side_same k = rw (eq-eqb k k refl) refl

side_other : (k s : ℕ) → k + s ≡ 1 → side_of k s ≡ 2
unfolding side_of
side_other k s e = rw (ne_eqb s k (λ f. omega arith), ne_eqb s 2 (λ f. omega arith)) refl

-- on the first side only that state, on the other only the other
side_0 : (k s : ℕ) → side_of k s < 1 → s ≡ k
unfolding side_of
side_0 k s h = go (eqb s k) (eqb s 2) refl h
  where
    go : (a b : Bool) → eqb s k ≡ a → cond a 0 (cond b 1 2) < 1 → s ≡ k
    go true b e i = eqb-true s k e
    go false true e i = absurd (omega arith)
    go false false e i = absurd (omega arith)

side_2 : (k s : ℕ) → s ≤ 2 → k ≤ 1 → 2 ≤ side_of k s → k + s ≡ 1
unfolding side_of
side_2 k s h l i = go (eqb s k) (eqb s 2) refl refl i
  where
    go : (a b : Bool) → eqb s k ≡ a → eqb s 2 ≡ b → 2 ≤ cond a 0 (cond b 1 2) → k + s ≡ 1
    go true b e f j = absurd (omega arith)
    go false true e f j = absurd (omega arith)
    go false false e f j = let n = eqb-false s k e in let m = eqb-false s 2 f in omega arith

-- first + n is last
module _ (x y : ℤ) (h : x <ℤ y) where
  pub apart : 0 < nat_abs (y -ℤ x)
  apart = omega (arith, zs, h, nat_abs_parts (y -ℤ x), (sum y (neg_ℤ x)).is, (opposite x).is, nonneg (minus_nonneg (<ℤ-≤ h)))

  pub reaches : x +ℤ pos (nat_abs (y -ℤ x)) ≡ y
  reaches =
      ≤ℤ_antisym
      (omega (arith, zs, nat_abs_parts (y -ℤ x), (sum x (pos (nat_abs (y -ℤ x)))).is, (sum y (neg_ℤ x)).is, (opposite x).is, nonneg (minus_nonneg (<ℤ-≤ h))))
      (omega (arith, zs, nat_abs_parts (y -ℤ x), (sum x (pos (nat_abs (y -ℤ x)))).is, (sum y (neg_ℤ x)).is, (opposite x).is, nonneg (minus_nonneg (<ℤ-≤ h))))

plus_zero : (x : ℤ) → x +ℤ pos 0 ≡ x
plus_zero x = ring (x ∷ []) (v0 ⊕ num 0) v0 tt

module _ (c : Crossing) (first : ℤ) (start n : ℕ) (some : 0 < n) (k : code (state_at c first) ≡ start) (e : start + code (state_at c (first +ℤ pos n)) ≡ 1) where
  abbrev f : ℕ → ℕ → Bool
  f bound i = ltb (side_at c first start i) bound

  side-first : side_at c first start 0 ≡ 0
  unfolding side_at
  side-first = ap (λ (z : ℤ). side_of start (code (state_at c z))) (plus_zero first) ∙ ap (λ (i : ℕ). side_of start i) k ∙ side_same start

  side-last : side_at c first start n ≡ 2
  unfolding side_at
  side-last = side_other start (code (state_at c (first +ℤ pos n))) e

  abbrev low : ℕ
  low = last_below c first start 1 0 n

  abbrev high : ℕ
  high = last_below c first start 2 low n

  low-is : Last (f 1) 0 n low
  unfolding last_below
  low-is =
      halved_is (f 1) (n - 0) 0 n some (omega arith) (lt-ltb (side_at c first start 0) 1 (omega (arith, side-first)))
      (le-ltb (side_at c first start n) 1 (omega (arith, side-last)))

  high_is : Last (f 2) low n high
  unfolding last_below
  high_is =
      halved_is (f 2) (n - low) low n low-is.most (omega (arith, low-is.most))
      (lt-ltb (side_at c first start low) 2 (omega (arith, ltb-true (side_at c first start low) 1 low-is.holds)))
      (le-ltb (side_at c first start n) 2 (omega (arith, side-last)))

  low-state : code (state_at c (first +ℤ pos low)) ≡ start
  unfolding side_at
  low-state = side_0 start (code (state_at c (first +ℤ pos low))) (ltb-true (side_at c first start low) 1 low-is.holds)

  high-state : start + code (state_at c (first +ℤ pos (high + 1))) ≡ 1
  unfolding side_at
  high-state =
      side_2 start (code (state_at c (first +ℤ pos (high + 1)))) (code_small (state_at c (first +ℤ pos (high + 1)))) (omega arith)
      (ltb-false (side_at c first start (high + 1)) 2 high_is.next)

-- ---- where something is found, one second is outside and the other inside, so they are two
module _ (c : Crossing) (from to : ℤ) where
  none : eqb (code (state_at c (from *ℤ pos 100)) + code (state_at c (to *ℤ pos 100))) 1 ≡ false → bracket_of c from to ≡ None
  unfolding bracket_of
  none e = rw e refl

  pub bracket-contact : (p q : ℤ) → bracket_of c from to ≡ Some (p, q) → code (state_at c (from *ℤ pos 100)) + code (state_at c (to *ℤ pos 100)) ≡ 1
  bracket-contact p q g = go (eqb (code (state_at c (from *ℤ pos 100)) + code (state_at c (to *ℤ pos 100))) 1) refl
    where
      go : (t : Bool) → eqb (code (state_at c (from *ℤ pos 100)) + code (state_at c (to *ℤ pos 100))) 1 ≡ t
          → code (state_at c (from *ℤ pos 100)) + code (state_at c (to *ℤ pos 100)) ≡ 1
      go true e = eqb-true (code (state_at c (from *ℤ pos 100)) + code (state_at c (to *ℤ pos 100))) 1 e
      go false e =
          let f = none e in
          let z : ◌≡◌ {A = ℕ} 0 1 = cc in absurd (omega arith)

  pub contact-order : code (state_at c (from *ℤ pos 100)) + code (state_at c (to *ℤ pos 100)) ≡ 1 → from ≤ℤ to → from <ℤ to
  contact-order e h =
      ⊎_elim
      (λ (k : to ≤ℤ from). absurd (omega (arith, e, ap (λ (z : ℤ). code (state_at c (z *ℤ pos 100))) (≤ℤ_antisym h k))))
      (λ k. k)
      (≤ℤ_total to from)

module _ (c : Crossing) (from to : ℤ) (order : (from *ℤ pos 100) <ℤ (to *ℤ pos 100)) where
  abbrev x : ℤ
  x = from *ℤ pos 100

  abbrev y : ℤ
  y = to *ℤ pos 100

  abbrev n : ℕ
  n = nat_abs (y -ℤ x)

  abbrev start : ℕ
  start = code (state_at c x)

  module _ (e : start + code (state_at c y) ≡ 1) where
    e-last : start + code (state_at c (x +ℤ pos n)) ≡ 1
    e-last = rw (reaches x y order) e

    abbrev a : ℕ
    a = last_below c x start 1 0 n

    abbrev b : ℕ
    b = last_below c x start 2 a n

    found : Ends c from to (x +ℤ pos a) (x +ℤ pos (b + 1))
    found =
        let some = apart x y order in
        let l = low-is c x start n some refl e-last in
        let h = high_is c x start n some refl e-last in
        record {
          least = omega (arith, zs, (sum x (pos a)).is);
          order = omega (arith, zs, (sum x (pos a)).is, (sum x (pos (b + 1))).is, h.least);
          most = subst (λ (z : ℤ). (x +ℤ pos (b + 1)) ≤ℤ z) (reaches x y order) (omega (arith, zs, (sum x (pos n)).is, (sum x (pos (b + 1))).is, h.most));
          before = code_one (state_at c (x +ℤ pos a)) (state_at c x) (low-state c x start n some refl e-last);
          after = code_one (state_at c (x +ℤ pos (b + 1))) (state_at c y) (omega (arith, e, high-state c x start n some refl e-last));
          contact = e;
        }

    -- where one second is outside and the other inside, they are found
    pub bracket-found : bracket_of c from to ≡ Some ((x +ℤ pos a), (x +ℤ pos (b + 1)))
    unfolding bracket_of narrowed
    bracket-found = rw (eq-eqb (start + code (state_at c y)) 1 e) refl

  -- and what is found are such
  pub bracket-ends : (p q : ℤ) → bracket_of c from to ≡ Some (p, q) → Ends c from to p q
  bracket-ends p q g = let s = bracket-contact c from to p q g in by-found (x +ℤ pos (a s)) (x +ℤ pos (b s + 1)) (bracket-found s) (found s)
    where
      by-found : (u v : ℤ) → bracket_of c from to ≡ Some (u, v) → Ends c from to u v → Ends c from to p q
      by-found u v f h =
          let same = some_parts (sym f ∙ g) in
          subst (λ (z : ℤ). Ends c from to p z) same.1 (subst (λ (z : ℤ). Ends c from to z v) same.0 h)

-- The walk's entries are those that document 01 calls for: each is one, and each one is there.
use Rattle.std.specs.Prelude.{ℕ, ◌+◌, ◌-◌, ◌≤◌, ◌<◌, ◌≡◌, refl, Bool, true, false, ltb, length}
use Rattle.std.proofs.Common.{sym, ap, ◌∙◌, inl, inr, arith, ltb-true, lt-ltb}
use mathlib.Core.List.Memᴰ
use mathlib.Core.List.{List, ◌++◌, Memᴰ}
use Rattle.std.proofs.Math.Decide.{dec_lt, ℕ_discrete}
use Rattle.contacts.specs.declared.entries.Entry.{Entry}
use Rattle.contacts.specs.declared.entries.Entry.TheVariants.{Enter, Leave, Graze, Open}
use Rattle.contacts.specs.Entries.{State, sure, unsure, Last, none, last, state_at, if-so, between, at_second, at_end, entries, All, some_between}
use Rattle.contacts.specs.laws.AllLaws.{all_if, all-last}
use Rattle.contacts.specs.laws.BetweenLaws.{some-between, between-some}
use Rattle.contacts.specs.CalledFor.{OnlyUnsure, Pair, CalledFor}
use Rattle.contacts.specs.laws.Induction.{Known, along-walk}

abbrev pub EachCalledFor : Type 0
EachCalledFor = (s : List ℕ) → All (CalledFor s) (entries s)

abbrev pub EachThere : Type 0
EachThere = (s : List ℕ) (e : Entry) → CalledFor s e → Memᴰ e (entries s)

-- Why each is called for: when a sure second adds an entry, the last sure second and all since are known.
module _ (s : List ℕ) where
  called-between : (a b : Bool) (f t : ℕ) (es : List Entry) → Pair s f t → state_at s f ≡ sure a → state_at s t ≡ sure b
      → All (CalledFor s) es → All (CalledFor s) (between a b f t ++ es)
  called-between false true f t es g p q c = ((g, p, q), c)
  called-between true false f t es g p q c = ((g, p, q), c)
  called-between false false f t es g p q c = all_if (CalledFor s) (some_between f t) (Graze f t) es (λ w. (g, some-between f t w, (false, p, q))) c
  called-between true true f t es g p q c = all_if (CalledFor s) (some_between f t) (Graze f t) es (λ w. (g, some-between f t w, (true, p, q))) c

  called-end : (l : Last) (i : ℕ) → i ≡ length s → Known s l i → All (CalledFor s) (at_end l i)
  called-end none i e g =
      all-last (CalledFor s) (ltb 0 i) (Open 0 (i - 1))
      (λ w. let v = ltb-true 0 i w in inr (inr (refl, omega arith, rw e at g)))
  called-end (last a f) i e g =
      all-last (CalledFor s) (some_between f i) (Open f (i - 1))
      (λ w. let v = some-between f i w in inr (inl (omega arith, omega arith, (a, g.1), rw e at g.2)))

  called-second : (l : Last) (m : State) (i : ℕ) (es : List Entry) → i < length s → m ≡ state_at s i → Known s l i
      → All (CalledFor s) es → All (CalledFor s) (at_second l m i ++ es)
  called-second l unsure i es h e g c = c
  called-second none (sure b) i es h e g c =
      all_if (CalledFor s) (ltb 0 i) (Open 0 i) es (λ w. inl (refl, ltb-true 0 i w, h, (b, sym e), g)) c
  called-second (last a f) (sure b) i es h e g c = called-between a b f i es (g.0, h, g.2) g.1 (sym e) c

pub each_called_for : EachCalledFor
each_called_for s = along-walk s (λ l i es. All (CalledFor s) es) (called-end s) (called-second s)

-- Why each is there: the walk meets the second that ends it, and there the last sure second can only be the one that
-- starts it.
sure_not : {b : Bool} → sure b ≡ unsure → ⊥
sure_not e = let z : ◌≡◌ {A = ℕ} 0 1 = cc in omega arith

there_if : (b : Bool) (e : Entry) → b ≡ true → Memᴰ e (if-so b e)
there_if b e p = rw p (Memᴰ.head refl)

module _ (s : List ℕ) where
  -- the last sure second before t, where all from f + 1 on are unsure, is f; and none, where all are
  last-is : (l : Last) (a : Bool) (f t : ℕ) → Known s l t → f < t → state_at s f ≡ sure a → OnlyUnsure s (f + 1) t → l ≡ last a f
  last-is none a f t g h p u = absurd (sure_not (sym p ∙ g f (omega arith) h))
  last-is (last b j) a f t g h p u =
      elim (ℕ_discrete j f) [
        | yes e ↦ (let w : sure b ≡ sure a = sym g.1 ∙ ap (state_at s) e ∙ p in let v : b ≡ a = cc in rw (v, e))
        | no n ↦ elim (dec_lt j f) [
          | yes y ↦ absurd (sure_not (sym p ∙ g.2 f (omega arith) h))
          | no m ↦ absurd (sure_not (sym g.1 ∙ u j (omega arith) g.0))
        ]
      ]

  none_is : (l : Last) (t : ℕ) → Known s l t → OnlyUnsure s 0 t → l ≡ none
  none_is none t g u = refl
  none_is (last a f) t g u = absurd (sure_not (sym g.1 ∙ u f (omega arith) g.0))

  -- an entry that second t adds, and one that the window's end adds
  added : (e : Entry) (t : ℕ) → t < length s
      → ((l : Last) → Known s l t → Memᴰ e (at_second l (state_at s t) t)) → Memᴰ e (entries s)
  added e t h make =
      along-walk s (λ l i es. i ≤ t → Memᴰ e es) (λ l i z g p. absurd (omega arith))
      (λ l m i es q z g r p. elim (ℕ_discrete i t) [
        | yes w ↦ Memᴰ.append_left {s = at_second l m i} es (rw (z, w) (make l (rw w at g)))
        | no n ↦ Memᴰ.append_right (at_second l m i) (r (omega arith))
      ])
      (omega arith)

  ended : (e : Entry) → ((l : Last) → Known s l (length s) → Memᴰ e (at_end l (length s))) → Memᴰ e (entries s)
  ended e make =
      along-walk s (λ l i es. Memᴰ e es) (λ l i z g. rw z (make l (rw z at g)))
      (λ l m i es q z g r. Memᴰ.append_right (at_second l m i) r)

  paired : (a b : Bool) (f t : ℕ) (e : Entry) → Pair s f t → state_at s f ≡ sure a → state_at s t ≡ sure b
      → Memᴰ e (between a b f t) → Memᴰ e (entries s)
  paired a b f t e g p q r =
      added e t g.1 (λ l k. rw (q, last-is l a f t k g.0 p g.2) r)

  grazed : (a : Bool) (f t : ℕ) → f + 1 < t → Memᴰ (Graze f t) (between a a f t)
  grazed false f t h = there_if (some_between f t) (Graze f t) (between-some f t h)
  grazed true f t h = there_if (some_between f t) (Graze f t) (between-some f t h)

pub each_there : EachThere
each_there s (Enter f t) c = paired s false true f t (Enter f t) c.0 c.1 c.2 (Memᴰ.head refl)
each_there s (Leave f t) c = paired s true false f t (Leave f t) c.0 c.1 c.2 (Memᴰ.head refl)
each_there s (Graze f t) c =
    let b = c.2.0 in
    paired s b b f t (Graze f t) c.0 c.2.1 c.2.2 (grazed s b f t c.1)
each_there s (Open f t) (inl o) =
    rw o.0 (added s (Open 0 t) t o.2
    (λ l k. rw (o.3.1, none_is s l t k o.4) (there_if (ltb 0 t) (Open 0 t) (lt-ltb 0 t o.1))))
each_there s (Open f t) (inr (inl o)) =
    let z : length s - 1 ≡ t = omega (arith, o.1) in
    ended s (Open f t)
    (λ l k. rw (last-is s l o.2.0 f (length s) k (omega (arith, o.0, o.1)) o.2.1 o.3, z)
    (there_if (some_between f (length s)) (Open f t) (between-some f (length s) (omega (arith, o.0, o.1)))))
each_there s (Open f t) (inr (inr o)) =
    let z : length s - 1 ≡ t = omega (arith, o.1) in
    ended s (Open f t)
    (λ l k. rw (none_is s l (length s) k o.2, z, o.0)
    (there_if (ltb 0 (length s)) (Open 0 t) (lt-ltb 0 (length s) (omega (arith, o.1)))))

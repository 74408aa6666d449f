-- Laws by which a list of entries is shown well formed, piece by piece: a head, the entries of the phases in their
-- order, closest, the share if there is one, and end.
use Rattle.std.specs.Prelude.{ℕ, ◌≤◌, ◌<◌, ◌≡◌, List, [], ◌∷◌, Bool, true, false, cond, ◌&&◌, ◌||◌, leb, eqb}
use Rattle.std.proofs.Math.Path.{refl}
use Rattle.std.proofs.Common.{sym, arith}
use borrow.Author.Tests.{leb-true, le-leb, lt-ltb}
use Rattle.sheet_types.specs.declared.phases.Phase.{Phase}
use Rattle.sheet_types.specs.declared.phases.Phase.TheVariants.{Penumbra, Central, Star}
use Rattle.sheet_types.specs.Phases.{same}
use Rattle.sheet_types.specs.laws.PhaseLaws.{same-own}
use Rattle.sheet_format.specs.declared.kinds.Kind.{Kind}
use Rattle.sheet_format.specs.declared.kinds.Kind.TheVariants as K
use Rattle.sheet_format.specs.declared.kinds.Entry.{Entry}
use Rattle.sheet_format.specs.declared.kinds.Stage.TheVariants as S
use Rattle.sheet_format.specs.declared.kinds.Crossing.{Crossing}
use Rattle.sheet_format.specs.declared.kinds.Crossing.TheVariants as C
use Rattle.sheet_format.specs.declared.kinds.Progress.{Progress}
use Rattle.sheet_format.specs.Kinds.{is_end, plain}
use Rattle.sheet_format.specs.Entries.{head, enter, leave, graze, opened, closest, share, end}
use Rattle.rounding.specs.laws.Tests.{both, distinct}
use Rattle.sheet_rules.specs.Order.{phase_follows, repeats}
use Rattle.sheet_format.specs.FieldRules.{in_window, is_direction, span_holds, greatestMagnitude}
use Rattle.sheet_rules.specs.laws.OrderLaws.{own_phase, end_may_come}
use Rattle.sheet_rules.specs.Rules.{start, reached, phase_in_order, kind_in_order, inOrder, fields_hold, after_of}
use Rattle.sheet_codec.specs.laws.WellFormed.{WellFormed, within, Step}

pub well_step : {p q : Progress} {e : Entry} (es : List Entry) → Step p e q → WellFormed q es → WellFormed p (e ∷ es)
unfolding WellFormed
well_step es s w = (s.order, s.fields, rw (s.goes_on, s.comes_to) w)

-- the head opens the sheet
pub step-head : (s f l g : ℕ) → 1 ≤ s → s ≤ 999 → f ≤ l → l ≤ 21600 → 16 ≤ g → g ≤ 1000 → Step start (head s f l g) (reached S.Head f l)
unfolding plain
step-head s f l g a b c d m n =
    record {
      order = refl;
      fields = rw (le-leb 1 s a, le-leb s 999 b, le-leb f l c, le-leb l 21600 d, le-leb 16 g m, le-leb g 1000 n);
      goes_on = refl;
      comes_to = refl;
    }

module _ (φ : Phase) (f l u : ℕ) (t : Crossing) (a b : ℕ) (time : u ≤ a) (low : f ≤ a) (high : b ≤ l) where
  in-phase : (crossing : Crossing) → repeats t crossing ≡ false → phase_in_order (within φ f l u t) φ crossing a ≡ true
  in-phase crossing r = rw (own_phase φ, same-own φ, le-leb u a time, r)

  span : a < b → span_holds (within φ f l u t) a b ≡ true
  span h =
      rw (le-leb f a low, le-leb a l (omega arith), le-leb f b (omega arith), le-leb b l high, lt-ltb a b h)

  -- an enter, where the phase's last crossing is no enter
  pub step-enter : (d : ℕ) → repeats t C.Enter ≡ false → a < b → is_direction d ≡ true → Step (within φ f l u t) (enter φ a b d) (within φ f l b C.Enter)
  unfolding plain
  step-enter d n h g =
      record { order = in-phase C.Enter n; fields = rw (span h) g; goes_on = refl; comes_to = refl }

  -- a leave, where the phase's last crossing is no leave
  pub step-leave : (d : ℕ) → repeats t C.Leave ≡ false → a < b → is_direction d ≡ true → Step (within φ f l u t) (leave φ a b d) (within φ f l b C.Leave)
  unfolding plain
  step-leave d n h g =
      record { order = in-phase C.Leave n; fields = rw (span h) g; goes_on = refl; comes_to = refl }

  pub step-graze : a < b → Step (within φ f l u t) (graze φ a b) (within φ f l b t)
  unfolding plain
  step-graze h = record { order = in-phase C.Neither refl; fields = span h; goes_on = refl; comes_to = rw (same-own φ) }

  pub step-open : a ≤ b → (eqb a f || eqb b l) ≡ true → Step (within φ f l u t) (opened φ a b) (within φ f l b t)
  unfolding plain
  step-open h g =
      record {
        order = in-phase C.Neither refl;
        fields = rw (le-leb f a low, le-leb a l (omega arith), le-leb f b (omega arith), le-leb b l high, le-leb a b h) g;
        goes_on = refl;
        comes_to = rw (same-own φ);
      }

-- ---- where a phase begins

-- an entry that may come at q may come at p too, and there too what comes after it
abbrev Comes : Progress → Progress → Entry → Type 0
Comes p q e = inOrder q e ≡ true
    → (inOrder p e ≡ true) × (fields_hold q e ≡ true → fields_hold p e ≡ true) × ((es : List Entry) → WellFormed (after_of q e) es → WellFormed (after_of p e) es)

-- any that may come where nothing of the phase ψ came yet
abbrev Before : Progress → Phase → ℕ → ℕ → Type 0
Before p ψ f l = (k : Kind) (a b c d : ℕ) → Comes p (within ψ f l 0 C.Neither) (record { kind = k; a = a; b = b; c = c; d = d })

well_before : (p : Progress) (ψ : Phase) (f l : ℕ) → Before p ψ f l → (es : List Entry) → WellFormed (within ψ f l 0 C.Neither) es → WellFormed p es
unfolding WellFormed
well_before p ψ f l h [] w = w
well_before p ψ f l h (e ∷ es) w =
    let x = h e.kind e.a e.b e.c e.d w.0 in
    (x.0, x.1 w.1, rest (is_end e.kind) w.2)
  where
    rest : (b : Bool) → cond b (es ≡ []) (WellFormed (after_of (within ψ f l 0 C.Neither) e) es) → cond b (es ≡ []) (WellFormed (after_of p e) es)
    rest true v = v
    rest false v = (h e.kind e.a e.b e.c e.d w.0).2 es v

-- a graze or an open keeps the crossing of its phase: there is none yet
no_crossing : (b : Bool) → cond b C.Neither C.Neither ≡ C.Neither
no_crossing true = refl
no_crossing false = refl

-- after a star's closest only end may come
pub star-end : (f l : ℕ) (e : Entry) → inOrder (reached S.StarClosest f l) e ≡ true → e.kind ≡ K.End
star-end f l e o = by e.kind o
  where
    by : (k : Kind) → kind_in_order (reached S.StarClosest f l) e k ≡ true → k ≡ K.End
    by K.Head o = absurd (distinct (sym o))
    by (K.Enter φ) o = absurd (distinct (sym o))
    by (K.Leave φ) o = absurd (distinct (sym o))
    by (K.Graze φ) o = absurd (distinct (sym o))
    by (K.Open φ) o = absurd (distinct (sym o))
    by K.Closest o = absurd (distinct (sym o))
    by K.Share o = absurd (distinct (sym o))
    by K.End o = refl

-- what closes a sheet after a star's closest closes it after any
star_closed : (f l : ℕ) (es : List Entry) → WellFormed (reached S.StarClosest f l) es → WellFormed (reached S.Closest f l) es
unfolding WellFormed
star_closed f l [] w = w
star_closed f l (e ∷ es) w = let q = star-end f l e w.0 in rw q (rw q at w)

-- closest may come right after the head, and there its magnitude may be larger
closest-first : (ψ : Phase) (f l a b c d : ℕ) → Comes (reached S.Head f l) (within ψ f l 0 C.Neither) (record { kind = K.Closest; a = a; b = b; c = c; d = d })
closest-first Penumbra f l a b c d o = (refl, λ h. h, λ es v. v)
closest-first Central f l a b c d o = (refl, λ h. h, λ es v. v)
closest-first Star f l a b c d o =
    let e : Entry = record { kind = K.Closest; a = a; b = b; c = c; d = d } in
    (refl, larger (plain e) (in_window (reached S.Head f l) a), star_closed f l)
  where
    larger : (x y : Bool) → (x && (y && leb b 0)) ≡ true → (x && (y && leb b 1300000)) ≡ true
    larger x y h =
        let u = both x (y && leb b 0) h in
        let v = both y (leb b 0) u.1 in
        let z = leb-true b 0 v.1 in
        rw (u.0, v.0, le-leb b 1300000 (omega arith))

-- after the head any phase may begin
pub well_first : (ψ : Phase) (f l : ℕ) (es : List Entry) → WellFormed (within ψ f l 0 C.Neither) es → WellFormed (reached S.Head f l) es
well_first ψ f l es w = well_before (reached S.Head f l) ψ f l before es w
  where
    before : Before (reached S.Head f l) ψ f l
    before K.Head a b c d o = absurd (distinct (sym o))
    before (K.Enter φ) a b c d o = (refl, λ h. h, λ es v. v)
    before (K.Leave φ) a b c d o = (refl, λ h. h, λ es v. v)
    before (K.Graze φ) a b c d o = (refl, λ h. h, λ es v. rw (no_crossing (same ψ φ)) at v)
    before (K.Open φ) a b c d o = (refl, λ h. h, λ es v. rw (no_crossing (same ψ φ)) at v)
    before K.Closest a b c d o = closest-first ψ f l a b c d o
    before K.Share a b c d o = absurd (distinct (sym o))
    before K.End a b c d o = absurd (distinct (sym o))

-- after a phase a later one may begin, whatever came there
pub well_later : (φ ψ : Phase) (f l u : ℕ) (t : Crossing) → phase_follows φ ψ ≡ true → same φ ψ ≡ false → (es : List Entry)
    → WellFormed (within ψ f l 0 C.Neither) es → WellFormed (within φ f l u t) es
well_later Penumbra Penumbra f l u t m n es w = absurd (distinct n)
well_later Penumbra Star f l u t m n es w = absurd (distinct (sym m))
well_later Central Penumbra f l u t m n es w = absurd (distinct (sym m))
well_later Central Central f l u t m n es w = absurd (distinct n)
well_later Central Star f l u t m n es w = absurd (distinct (sym m))
well_later Star Penumbra f l u t m n es w = absurd (distinct (sym m))
well_later Star Central f l u t m n es w = absurd (distinct (sym m))
well_later Star Star f l u t m n es w = absurd (distinct n)
well_later Penumbra Central f l u t m n es w = well_before (within Penumbra f l u t) Central f l before es w
  where
    before : Before (within Penumbra f l u t) Central f l
    before K.Head a b c d o = absurd (distinct (sym o))
    before (K.Enter Penumbra) a b c d o = absurd (distinct (sym o))
    before (K.Enter Central) a b c d o = (refl, λ h. h, λ es v. v)
    before (K.Enter Star) a b c d o = absurd (distinct (sym o))
    before (K.Leave Penumbra) a b c d o = absurd (distinct (sym o))
    before (K.Leave Central) a b c d o = (refl, λ h. h, λ es v. v)
    before (K.Leave Star) a b c d o = absurd (distinct (sym o))
    before (K.Graze Penumbra) a b c d o = absurd (distinct (sym o))
    before (K.Graze Central) a b c d o = (refl, λ h. h, λ es v. v)
    before (K.Graze Star) a b c d o = absurd (distinct (sym o))
    before (K.Open Penumbra) a b c d o = absurd (distinct (sym o))
    before (K.Open Central) a b c d o = (refl, λ h. h, λ es v. v)
    before (K.Open Star) a b c d o = absurd (distinct (sym o))
    before K.Closest a b c d o = (refl, λ h. h, λ es v. v)
    before K.Share a b c d o = absurd (distinct (sym o))
    before K.End a b c d o = absurd (distinct (sym o))

-- closest, the share if there is one, and end close it; after a star's entry the magnitude is 0, and there is no share
pub well_closest : (φ : Phase) (f l u : ℕ) (t : Crossing) (s g : ℕ) → f ≤ s → s ≤ l → g ≤ greatestMagnitude (S.Phase φ)
    → WellFormed (within φ f l u t) (closest s g ∷ end ∷ [])
unfolding WellFormed plain
well_closest φ f l u t s g a b c = (refl, rw (le-leb f s a, le-leb s l b, le-leb g (greatestMagnitude (S.Phase φ)) c), (end_may_come φ, refl, refl))

pub well_share : (φ : Phase) (f l u : ℕ) (t : Crossing) (s g covered : ℕ) → same φ Star ≡ false → f ≤ s → s ≤ l → g ≤ 1300000 → covered ≤ 1000000
    → WellFormed (within φ f l u t) (closest s g ∷ share covered ∷ end ∷ [])
unfolding WellFormed plain
well_share φ f l u t s g covered n a b c d =
    rw n (refl, rw (le-leb f s a, le-leb s l b, le-leb g 1300000 c), (refl, rw (le-leb covered 1000000 d), (refl, refl, refl)))

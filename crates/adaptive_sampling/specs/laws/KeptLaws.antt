-- The seconds so far, with more at a time.
--   kept-start   second 0
--   kept_more    the seconds after i up to j
--   kept-nearer  the same seconds, with a distance that some second reaches
use Rattle.std.specs.Prelude.{◌≡◌, refl, List, [], ◌∷◌, ◌++◌, ℕ, zero, suc, ◌+◌, ◌-◌, ◌≤◌, ◌<◌, ℤ, pos, nat_abs, ◌*ℤ◌, replicate, ◌≤ℤ◌, ◌<ℤ◌}
use Rattle.std.proofs.Math.Path.{sym, ap}
use Rattle.std.proofs.Common.{ap₂, subst, ◌∙◌, ⊎_elim, arith, eq-or-lt_of_le, mul-le-mul}
use Rattle.rounding.specs.laws.Order.{zs, parts-≤}
use Rattle.sheet_types.specs.States.{code}
use Rattle.elements.specs.Stars.{axis_of}
use Rattle.station.specs.Place.{place_of}
use Rattle.shadow_geometry.specs.Shadow.{moment_of, state, M}
use Rattle.shadow.specs.declared.Sample.{Sample}
use Rattle.shadow.specs.Second.{phase_in, radius_in}
use Rattle.shadow.specs.laws.SecondLaws.{state-at, edge-size}
use Rattle.requests.specs.declared.Occultation.{Occultation}
use Rattle.requests.specs.Windows.{nth_second, second_count, list_of}
use Rattle.requests.specs.WindowLaws.{second-size}
use Rattle.requests.specs.RequestLaws.{InLimits}
use Rattle.run_length.specs.Runs.{state_in, none}
use Rattle.run_length.specs.laws.RunsLaws.{decoded-none}
use Rattle.seconds.specs.Seconds.{state_at}
use Rattle.seconds.proofs.laws.SecondLaws.{placed}
use Rattle.exclusion_test.specs.Samples.{IsAt, byte_at, square_at, size}
use Rattle.exclusion_test.specs.laws.Gaps.{Gap, sample_sizes}
use Rattle.adaptive_sampling.specs.declared.partial.Tally.{Tally}
use Rattle.adaptive_sampling.specs.Nearest.{nearest-start, nearest-new, nearest-same, nearest-lower}
use Rattle.adaptive_sampling.specs.Reach.{Reached}
use Rattle.adaptive_sampling.specs.laws.ReachLaws.{reached_far}
use Rattle.adaptive_sampling.specs.Kept.{IsPair, Closer, Stored, Approached, Kept}

-- ---- one computed second
module _ (o : Occultation) (lim : InLimits o) (n : ℕ) (h : n < second_count o.window) (s : Sample) (i : IsAt o n s) where
  pub byte-is : (k : ℕ) → k < 2 → code (state o.guard (size (radius_in s k)) s.m) ≡ byte_at o k n
  unfolding byte_at state_at
  byte-is k few =
      let φ = phase_in o.body k in
      let τ = nth_second o.window n in
      let m = moment_of (axis_of o.body) (place_of o.station) τ in
      ap code
      (ap₂ (λ (l x : ℤ). state o.guard (size l) x) (i.radius k few).value i.m.value
      ∙ ap (λ (z : ℤ). state o.guard z (M m)) (sym (edge-size o.body lim.body (place_of o.station) (placed o lim) τ (second-size o.window lim.window n h) φ))
      ∙ sym (state-at o.guard o.body (place_of o.station) φ τ))

  pub square-is : s.m ≡ square_at o n
  unfolding square_at
  square-is = i.m.value

-- ---- a list of bytes, with the same byte some more times
same-list : (f : ℕ → ℕ) (n x : ℕ) → ((τ : ℕ) → τ < n → f τ ≡ x) → replicate n x ≡ list_of f n
same-list f zero x h = refl
same-list f (suc n) x h = ap₂ (λ (y : ℕ) (l : List ℕ). y ∷ l) (sym (h 0 (omega arith))) (same-list (λ k. f (suc k)) n x (λ τ l. h (suc τ) (omega arith)))

list_more : (f : ℕ → ℕ) (i n x : ℕ) → ((τ : ℕ) → i ≤ τ → τ < i + n → f τ ≡ x) → list_of f i ++ replicate n x ≡ list_of f (i + n)
list_more f zero n x h = let e : 0 + n ≡ n = omega arith in rw e (same-list f n x (λ τ l. h τ (omega arith) (omega arith)))
list_more f (suc i) n x h =
    let e : suc i + n ≡ suc (i + n) = omega arith in
    rw e (ap (λ (l : List ℕ). f 0 ∷ l) (list_more (λ k. f (suc k)) i n x (λ τ a b. h (suc τ) (omega arith) (omega arith))))

-- ---- the closest so far
closer-size : {t : Tally} {j : ℕ} {m : ℤ} {r : Tally} → Closer t j m r → nat_abs t.least ≤ 1000000000000000000 → nat_abs m ≤ 1000000000000000000
    → nat_abs r.least ≤ 1000000000000000000
closer-size {t} {j} {m} {r} c h l =
    ⊎_elim (λ (w : (m <ℤ t.least) × (r.best ≡ j) × (r.least ≡ m)). omega (arith, ap nat_abs w.2))
    (λ (w : (t.least ≤ℤ m) × (r.best ≡ t.best) × (r.least ≡ t.least)). omega (arith, ap nat_abs w.2)) c.which

module _ (o : Occultation) (lim : InLimits o) where
  -- second 0
  pub kept-start : (s : Sample) → IsAt o 0 s → 0 < second_count o.window → (runs : List ℕ) (pair : ℕ) → IsPair o.guard s pair
      → (t : Tally) → t.filled ≡ record { count = 0; pair = pair; seconds = 1 } → t.best ≡ 0 → t.least ≡ s.m → t.near ≡ 1000000000 → Kept o 0 runs t
  kept-start s i v runs pair is t ef eb el en =
      record {
        ends = rw ef (record { whole = none; pair = is.small; some = omega arith; most = omega arith });
        few = rw ef (omega arith);
        states = λ k f. rw (ef, decoded-none k) (ap (λ (x : ℕ). x ∷ []) (is.states k f ∙ byte-is o lim 0 v s i k f));
        nearest = rw eb (nearest-start (square_at o) (pos t.near *ℤ pos t.near) t.least (el ∙ square-is o lim 0 v s i));
        size = omega (arith, ap nat_abs el, (sample_sizes o 0 i).m);
        reached = subst (Reached o (second_count o.window)) (sym en) (reached_far o (second_count o.window) v s i);
      }

  -- the seconds after i up to j
  module _ {i : ℕ} {old : List ℕ} {t : Tally} (g : Kept o i old t) (j : ℕ) (h : i < j) (v : j < second_count o.window) (gap : Gap o t.near i j)
      (s : Sample) (is : IsAt o j s) {n : ℕ} (long : n ≡ j - i) {new : List ℕ} {r : Tally} (st : Stored o.guard s n j old t new r) where
    alike : (k : ℕ) → k < 2 → (τ : ℕ) → i + 1 ≤ τ → τ < i + 1 + n → byte_at o k τ ≡ byte_at o k j
    alike k f τ a b =
        ⊎_elim (λ (e : τ ≡ j). ap (byte_at o k) e) (λ (l : τ < j). gap.alike k f τ (omega arith) l) (eq-or-lt_of_le below)
      where
        below : τ ≤ j
        below = omega arith

    pub kept_more : Kept o j new r
    kept_more =
        let z = sample_sizes o j is in
        record {
          ends = st.pushed.ends;
          few = omega (arith, g.few, st.pushed.short);
          states = λ k f.
              let x : state_in k st.pair ≡ byte_at o k j = st.is.states k f ∙ byte-is o lim j v s is k f in
              let e : i + 1 + n ≡ j + 1 = omega arith in
              st.pushed.states k
              ∙ ap₂ (λ (l : List ℕ) (y : ℕ). l ++ replicate n y) (g.states k f) x
              ∙ list_more (byte_at o k) (i + 1) n (byte_at o k j) (alike k f)
              ∙ ap (list_of (byte_at o k)) e;
          nearest = ⊎_elim
              (λ (w : (s.m <ℤ t.least) × (r.best ≡ j) × (r.least ≡ s.m)).
              rw (w.1, w.2, st.near) (nearest-new (square_at o) (pos t.near *ℤ pos t.near) g.nearest j h gap.later s.m (square-is o lim j v s is) w.0))
              (λ (w : (t.least ≤ℤ s.m) × (r.best ≡ t.best) × (r.least ≡ t.least)).
              rw (w.1, w.2, st.near) (nearest-same (square_at o) (pos t.near *ℤ pos t.near) g.nearest j h gap.later (subst (λ (y : ℤ). t.least ≤ℤ y) (square-is o lim j v s is) w.0)))
              st.closer.which;
          size = closer-size st.closer g.size z.m;
          reached = subst (Reached o (second_count o.window)) (sym st.near) g.reached;
        }

  -- the same seconds; second k, whose M is m, may be nearer
  kept_near : {i : ℕ} {runs : List ℕ} {t : Tally} → Kept o i runs t → (r : Tally) → r.filled ≡ t.filled → r.best ≡ t.best → r.least ≡ t.least
      → (pos r.near *ℤ pos r.near) ≤ℤ (pos t.near *ℤ pos t.near) → Reached o (second_count o.window) r.near → Kept o i runs r
  kept_near {i} {runs} {t} g r ef eb el lower reached =
      record {
        ends = rw ef g.ends;
        few = rw ef g.few;
        states = λ k f. rw ef (g.states k f);
        nearest = rw (eb, el) (nearest-lower (square_at o) (pos t.near *ℤ pos t.near) (pos r.near *ℤ pos r.near) lower g.nearest);
        size = omega (arith, ap nat_abs el, g.size);
        reached = reached;
      }

  pub kept-nearer : {i : ℕ} {runs : List ℕ} {t : Tally} → Kept o i runs t → (k : ℕ) → k < second_count o.window → (m : ℤ) → m ≡ square_at o k
      → (r : Tally) → Approached t m r → Kept o i runs r
  kept-nearer {i} {runs} {t} g k h m e r a =
      ⊎_elim
      (λ (n : r.near ≡ t.near).
      kept_near g r a.filled a.best a.least (rw n (omega (arith, zs))) (subst (Reached o (second_count o.window)) (sym n) g.reached))
      (λ (n : (r.near ≤ t.near) × (m ≤ℤ (pos r.near *ℤ pos r.near))).
      kept_near g r a.filled a.best a.least (parts-≤ (omega (arith, mul-le-mul n.0 n.0)))
      (record { few = omega (arith, n.0, g.reached.few); second = k; small = h; reached = subst (λ (z : ℤ). z ≤ℤ (pos r.near *ℤ pos r.near)) e n.1 }))
      a.which

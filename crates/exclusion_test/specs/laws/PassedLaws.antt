-- Where the test passed, each second between has the states of the later end, and M is more than near².
use Rattle.std.specs.Prelude.{◌≡◌, refl, [], ◌∷◌, ◌⊎◌, ℕ, ◌+◌, ◌-◌, ◌≤◌, ◌<◌, ℤ, nat_abs, ◌+ℤ◌, ◌-ℤ◌, ◌*ℤ◌, ◌≤ℤ◌, ◌<ℤ◌}
use Rattle.std.proofs.Common.{sym, ap₂, ◌∙◌, inl, inr, ⊎_elim, lit≤}
use Rattle.std.proofs.Math.Path.{ap, subst}
use native.Mathlib.Omega.{arith}
use Rattle.std.proofs.Math.IntN.{pos, +ℤ_assoc}
use Rattle.std.specs.Int.Signed.{le_z_yes}
use Rattle.sheet_types.specs.States.{State, inside, outside, code}
use Rattle.sheet_types.specs.declared.phases.Phase.{Phase}
use Rattle.sheet_types.specs.declared.phases.Phase.TheVariants.{Penumbra, Central, Star}
use Rattle.rounding.specs.laws.Order.{parts-≤, ≤ℤ_trans, nat_abs_between}
use Rattle.rounding.specs.laws.Ring.{num, ◌⊕◌, ◌⊖◌, ◌⊗◌, ring, v0, v1, v2, v3, v4, v5, v6}
use Rattle.rounding.specs.laws.Cert.{leq, less, lit, ◌⊞◌, certify, certify-<}
use Rattle.elements.specs.declared.Body.{Body}
use Rattle.elements.specs.declared.Body.TheVariants as B
use Rattle.elements.specs.Sizes.{ConeSizes, wider_cone}
use Rattle.elements.specs.Stars.{axis_of}
use Rattle.elements.specs.StarLaws.{BodySizes, axis_sizes}
use Rattle.station.specs.Place.{place_of}
use Rattle.shadow_geometry.specs.Shadow.{Moment, moment_of, ◌², cone, u, v, L, M, state}
use Rattle.shadow.specs.declared.Sample.{Sample}
use Rattle.shadow.specs.Second.{phase_in, radius_in, IsSample}
use Rattle.shadow.specs.Second as Shadow
use Rattle.shadow.specs.laws.SecondLaws.{state-at, edge-size}
use Rattle.requests.specs.declared.Occultation.{Occultation}
use Rattle.requests.specs.Windows.{nth_second, second_count}
use Rattle.requests.specs.WindowLaws.{second-size}
use Rattle.requests.specs.RequestLaws.{InLimits}
use Rattle.seconds.specs.Seconds.{state_at}
use Rattle.seconds.proofs.laws.SecondLaws.{placed}
use Rattle.chord_bounds.specs.Margins.{slack, Spans, OneSign}
use Rattle.chord_bounds.proofs.laws.Skip as Skip
use Rattle.chord_bounds.proofs.laws.Skip.{Spanned, Outward, Inward, Out}
use Rattle.exclusion_test.specs.Samples.{IsAt, byte_at, square_at, size}
use Rattle.exclusion_test.specs.Passed.{Bend, Part, Distance, Spanning, In, Shows, PassedFrom, Passed}

-- ---- what the test shows, as the theorems ask for it

spanned : {h : ℕ} {α β α' β' q : ℤ} → Bend h q → α ≡ α' → β ≡ β' → Spanning α β q → Spanned (pos h) α' β'
spanned {h} {α} {β} {α'} {β'} {q} b ea eb s =
    let t = subst (λ (z : ℤ). Spanning z β' q) ea (subst (λ (z : ℤ). Spanning α z q) eb s) in
    record { Q = q; enough = b.enough; first = t.first; second = t.second; spans = t.spans }

-- k and l are how far out the ends are; r and s are the radii and g is the guard
outward : (G : ℤ) (c o : Sample) {h : ℕ} {q k l : ℤ} → Distance c.m k → Part (c.u *ℤ o.u +ℤ c.v *ℤ o.v) (k +ℤ pos 1) l → Bend h q
    → c.m ≡ c.u ² +ℤ c.v ² → (r s g : ℤ) → g ≡ G +ℤ pos slack → Spanning (k -ℤ r -ℤ g) (l -ℤ s -ℤ g) q → Outward G (pos h) r s c.u c.v o.u o.v
outward G c o {h} {q} {k} {l} d p b e r s g eg t =
    let env = k ∷ l ∷ r ∷ s ∷ G ∷ [] in
    let back : k ≡ (k -ℤ r -ℤ (G +ℤ pos slack)) +ℤ r +ℤ G +ℤ pos slack = ring env v0 (v0 ⊖ v2 ⊖ (v4 ⊕ num slack) ⊕ v2 ⊕ v4 ⊕ num slack) tt in
    let back' : l ≡ (l -ℤ s -ℤ (G +ℤ pos slack)) +ℤ s +ℤ G +ℤ pos slack = ring env v1 (v1 ⊖ v3 ⊖ (v4 ⊕ num slack) ⊕ v3 ⊕ v4 ⊕ num slack) tt in
    record {
      α = k -ℤ r -ℤ (G +ℤ pos slack);
      β = l -ℤ s -ℤ (G +ℤ pos slack);
      spanned = spanned b (ap (λ (z : ℤ). k -ℤ r -ℤ z) eg) (ap (λ (z : ℤ). l -ℤ s -ℤ z) eg) t;
      n = k +ℤ pos 1;
      nonneg = certify 0 (k ∷ []) (num 0) (v0 ⊕ num 1) (leq (num 0) v0 d.nonneg ⊞ lit 1) tt;
      out = subst (λ (z : ℤ). (z ²) ≤ℤ (c.u ² +ℤ c.v ²)) back (subst (λ (z : ℤ). (k ²) ≤ℤ z) e d.low);
      longer = subst (λ (z : ℤ). z ≤ℤ ((k +ℤ pos 1) ²)) e d.high;
      along = subst (λ (z : ℤ). (z *ℤ (k +ℤ pos 1)) ≤ℤ (c.u *ℤ o.u +ℤ c.v *ℤ o.v)) back' p.low;
    }

inward : (G : ℤ) {h : ℕ} {q r m s o g : ℤ} → Bend h q → g ≡ G +ℤ pos slack → In r m s o g q → Inward G (pos h) r s m o
inward G {h} {q} {r} {m} {s} {o} {g} b eg i =
    let k = i.k in
    let n = i.n in
    let env = k ∷ n ∷ r ∷ s ∷ m ∷ o ∷ G ∷ [] in
    let e = v0 ⊖ (v6 ⊕ num slack) ⊕ v6 ⊕ num slack in
    let f = v1 ⊖ (v6 ⊕ num slack) ⊕ v6 ⊕ num slack in
    record {
      α = k -ℤ (G +ℤ pos slack);
      β = n -ℤ (G +ℤ pos slack);
      spanned = spanned b (ap (λ (z : ℤ). k -ℤ z) eg) (ap (λ (z : ℤ). n -ℤ z) eg) i.spanning;
      first = i.first;
      second = i.second;
      start = certify 0 env (num 2 ⊗ (v2 ⊗ e)) (v2 ⊗ v2 ⊖ v4) (leq (v0 ⊗ (num 2 ⊗ v2)) (v2 ⊗ v2 ⊖ v4) i.start) tt;
      end = certify 0 env (num 2 ⊗ (v3 ⊗ f)) (v3 ⊗ v3 ⊖ v5) (leq (v1 ⊗ (num 2 ⊗ v3)) (v3 ⊗ v3 ⊖ v5) i.end) tt;
    }

-- seen from the other end
spans_back : (α β q : ℤ) → Spans α β q → Spans β α q
spans_back α β q =
    let e = α ∷ β ∷ q ∷ [] in
    ⊎_elim
    (λ (h : q ≤ℤ (α +ℤ β)). inl (certify 0 e v2 (v1 ⊕ v0) (leq v2 (v0 ⊕ v1) h) tt))
    (λ (h : ((q -ℤ α -ℤ β) ²) <ℤ (pos 4 *ℤ (α *ℤ β))).
    inr (certify-< 0 e ((v2 ⊖ v1 ⊖ v0) ⊗ (v2 ⊖ v1 ⊖ v0)) (num 4 ⊗ (v1 ⊗ v0)) (less ((v2 ⊖ v0 ⊖ v1) ⊗ (v2 ⊖ v0 ⊖ v1)) (num 4 ⊗ (v0 ⊗ v1)) h) tt))

inward_back : {G h r s m o : ℤ} → Inward G h r s m o → Inward G h s r o m
inward_back i =
    let t = i.spanned in
    record {
      α = i.β;
      β = i.α;
      spanned = record { Q = t.Q; enough = t.enough; first = t.second; second = t.first; spans = spans_back i.α i.β t.Q t.spans };
      first = i.second;
      second = i.first;
      start = i.end;
      end = i.start;
    }

signs_back : (k n : ℤ) → OneSign k n → OneSign n k
signs_back k n =
    ⊎_elim (λ (h : (pos 0 ≤ℤ k) × (pos 0 ≤ℤ n)). inl (h.1, h.0)) (λ (h : (k ≤ℤ pos 0) × (n ≤ℤ pos 0)). inr (h.1, h.0))

signs_moved : {k n k' n' : ℤ} → k ≡ k' → n ≡ n' → OneSign k n → OneSign k' n'
signs_moved {k} {n} {k'} {n'} p q o = subst (λ (z : ℤ). OneSign z n') p (subst (λ (z : ℤ). OneSign k z) q o)

-- the state that a passed test shows
abbrev shown : {A B : Type 0} → A ⊎ B → State
shown (inl x) = outside
shown (inr x) = inside

-- what a passed test shows of a phase
abbrev shown_by : {guard : ℤ} {near h : ℕ} {a b : Sample} → Passed guard near h a b → (n : ℕ) → n < 2 → State
shown_by (inl x) n few = shown (x.phase n few)
shown_by (inr x) n few = shown (x.phase n few)

-- the cone of each phase of either body
cone_sizes : (b : Body) → BodySizes b → (φ : Phase) → ConeSizes 60000000 (cone b φ)
cone_sizes (B.Sun e) z Penumbra = z.penumbra
cone_sizes (B.Sun e) z Central = wider_cone z.central (lit≤ tt)
cone_sizes (B.Sun e) z Star = z.penumbra
cone_sizes (B.Star s) z φ =
    record {
      l = record { c0 = omega (arith, nat_abs_between s.radius 27200000 z.low z.high); c1 = lit≤ tt; c2 = lit≤ tt };
      tanf = lit≤ tt;
    }

-- ---- second k of h = k + j after σ
module _ (o : Occultation) (i : InLimits o) (σ : ℤ) (k j : ℕ) (some : 0 < k + j) (first : nat_abs σ ≤ 10800) (last : nat_abs (σ +ℤ pos (k + j)) ≤ 10800)
    (near h : ℕ) (long : k + j ≡ h) (a b : Sample)
    (ia : IsSample o.body (place_of o.station) (σ +ℤ pos 0) a)
    (ib : IsSample o.body (place_of o.station) (σ +ℤ pos (k + j)) b)
    (p : Passed o.guard near h a b) where
  abbrev at : ℕ → Moment
  at n = moment_of (axis_of o.body) (place_of o.station) (σ +ℤ pos n)

  guarded : pos 0 ≤ℤ o.guard
  guarded = ≤ℤ_trans (le_z_yes tt) i.guard.low

  apart : pos h ≡ pos k +ℤ pos j
  apart = ap pos (sym long)

  -- the numbers of the shadows as those of the moments
  moved : {G r s : ℤ} → Out G (pos h) r s a.u a.v b.u b.v → Out G (pos k +ℤ pos j) r s (u (at 0)) (v (at 0)) (u (at (k + j))) (v (at (k + j)))
  moved {G} {r} {s} x =
      subst (λ (z : ℤ). Out G z r s (u (at 0)) (v (at 0)) (u (at (k + j))) (v (at (k + j)))) apart
      (subst (λ (z : ℤ). Out G (pos h) r s z (v (at 0)) (u (at (k + j))) (v (at (k + j)))) ia.u.value
      (subst (λ (z : ℤ). Out G (pos h) r s a.u z (u (at (k + j))) (v (at (k + j)))) ia.v.value
      (subst (λ (z : ℤ). Out G (pos h) r s a.u a.v z (v (at (k + j)))) ib.u.value
      (subst (λ (z : ℤ). Out G (pos h) r s a.u a.v b.u z) ib.v.value x))))

  square-a : a.m ≡ a.u ² +ℤ a.v ²
  square-a = ia.m.value ∙ sym (ap₂ (λ (x y : ℤ). x ² +ℤ y ²) ia.u.value ia.v.value)

  square-b : b.m ≡ b.u ² +ℤ b.v ²
  square-b = ib.m.value ∙ sym (ap₂ (λ (x y : ℤ). x ² +ℤ y ²) ib.u.value ib.v.value)

  slack-is : pos slack ≡ pos 0 +ℤ pos slack
  slack-is = refl

  out-late : Passed o.guard near h a b → Out (pos 0) (pos h) (pos near) (pos near) a.u a.v b.u b.v
  out-late =
      ⊎_elim (λ (x : PassedFrom o.guard near h a b). inl (outward (pos 0) a b x.distance x.along x.bend square-a (pos near) (pos near) (pos slack) slack-is x.late))
      (λ (x : PassedFrom o.guard near h b a). inr (outward (pos 0) b a x.distance x.along x.bend square-b (pos near) (pos near) (pos slack) slack-is x.late))

  later-at : (pos near *ℤ pos near) <ℤ M (at k)
  later-at =
      Skip.later o.guard guarded (axis_of o.body) (axis_sizes o.body i.body) (place_of o.station) (placed o i) σ k j some first last (pos near)
      (parts-≤ (omega arith)) (moved (out-late p))

  module _ (n : ℕ) (few : n < 2) where
    abbrev φ : Phase
    φ = phase_in o.body n

    abbrev r : ℤ
    r = size (radius_in a n)

    abbrev s : ℤ
    s = size (radius_in b n)

    is-outside : Out o.guard (pos h) r s a.u a.v b.u b.v → state o.guard (size (L (at k) (cone o.body φ))) (M (at k)) ≡ outside
    is-outside x =
        Skip.outside o.guard guarded (axis_of o.body) (axis_sizes o.body i.body) (place_of o.station) (placed o i) σ k j some first last
        (cone o.body φ) (cone_sizes o.body i.body φ)
        (moved (subst (λ (z : ℤ). Out o.guard (pos h) z (size (L (at (k + j)) (cone o.body φ))) a.u a.v b.u b.v) (ap size (ia.radius n few).value)
        (subst (λ (z : ℤ). Out o.guard (pos h) r z a.u a.v b.u b.v) (ap size (ib.radius n few).value) x)))

    is-inside : OneSign (radius_in a n) (radius_in b n) → Inward o.guard (pos h) r s a.m b.m → state o.guard (size (L (at k) (cone o.body φ))) (M (at k)) ≡ inside
    is-inside sign x =
        Skip.inside o.guard guarded (axis_of o.body) (axis_sizes o.body i.body) (place_of o.station) (placed o i) σ k j some first last
        (cone o.body φ) (cone_sizes o.body i.body φ)
        (signs_moved (ia.radius n few).value (ib.radius n few).value sign)
        (subst (λ (z : ℤ). Inward o.guard z (size (L (at 0) (cone o.body φ))) (size (L (at (k + j)) (cone o.body φ))) (M (at 0)) (M (at (k + j)))) apart
        (subst (λ (z : ℤ). Inward o.guard (pos h) z (size (L (at (k + j)) (cone o.body φ))) (M (at 0)) (M (at (k + j)))) (ap size (ia.radius n few).value)
        (subst (λ (z : ℤ). Inward o.guard (pos h) r z (M (at 0)) (M (at (k + j)))) (ap size (ib.radius n few).value)
        (subst (λ (z : ℤ). Inward o.guard (pos h) r s z (M (at (k + j)))) ia.m.value
        (subst (λ (z : ℤ). Inward o.guard (pos h) r s a.m z) ib.m.value x)))))

    from_start : (x : PassedFrom o.guard near h a b)
        → (t : Shows x.k x.l (radius_in a n) a.m (radius_in b n) b.m (o.guard +ℤ pos slack) x.q)
        → state o.guard (size (L (at k) (cone o.body φ))) (M (at k)) ≡ shown t
    from_start x (inl y) = is-outside (inl (outward o.guard a b x.distance x.along x.bend square-a r s (o.guard +ℤ pos slack) refl y))
    from_start x (inr y) = is-inside y.0 (inward o.guard x.bend refl y.1)

    from_end : (x : PassedFrom o.guard near h b a)
        → (t : Shows x.k x.l (radius_in b n) b.m (radius_in a n) a.m (o.guard +ℤ pos slack) x.q)
        → state o.guard (size (L (at k) (cone o.body φ))) (M (at k)) ≡ shown t
    from_end x (inl y) = is-outside (inr (outward o.guard b a x.distance x.along x.bend square-b s r (o.guard +ℤ pos slack) refl y))
    from_end x (inr y) = is-inside (signs_back (radius_in b n) (radius_in a n) y.0) (inward_back (inward o.guard x.bend refl y.1))

    state-is : (x : Passed o.guard near h a b) → state o.guard (size (L (at k) (cone o.body φ))) (M (at k)) ≡ shown_by x n few
    state-is (inl x) = from_start x (x.phase n few)
    state-is (inr x) = from_end x (x.phase n few)

-- ---- in the window: the seconds from i to j
module _ (o : Occultation) (lim : InLimits o) (near i j : ℕ) (rise : i < j) (end : j < second_count o.window)
    (a b : Sample) (ia : IsAt o i a) (ib : IsAt o j b) (p : Passed o.guard near (j - i) a b) where
  abbrev σ : ℤ
  σ = nth_second o.window i

  -- second i + n
  on : (n : ℕ) → σ +ℤ pos n ≡ nth_second o.window (i + n)
  on n = +ℤ_assoc o.window.first (pos i) (pos n)

  on-start : σ +ℤ pos 0 ≡ σ
  on-start = on 0 ∙ ap (nth_second o.window) (omega arith)

  on-end : (k l : ℕ) → k + l ≡ j - i → σ +ℤ pos (k + l) ≡ nth_second o.window j
  on-end k l e = on (k + l) ∙ ap (nth_second o.window) (omega arith)

  start-in : nat_abs σ ≤ 10800
  start-in = second-size o.window lim.window i (omega arith)

  end-in : (k l : ℕ) → k + l ≡ j - i → nat_abs (σ +ℤ pos (k + l)) ≤ 10800
  end-in k l e = subst (λ (z : ℤ). nat_abs z ≤ 10800) (sym (on-end k l e)) (second-size o.window lim.window j end)

  starts : IsSample o.body (place_of o.station) (σ +ℤ pos 0) a
  starts = subst (λ (z : ℤ). IsSample o.body (place_of o.station) z a) (sym on-start) ia

  ends : (k l : ℕ) → k + l ≡ j - i → IsSample o.body (place_of o.station) (σ +ℤ pos (k + l)) b
  ends k l e = subst (λ (z : ℤ). IsSample o.body (place_of o.station) z b) (sym (on-end k l e)) ib

  some_of : (k l : ℕ) → k + l ≡ j - i → 0 < k + l
  some_of k l e = omega arith

  pub passed_later : (τ : ℕ) → i < τ → τ < j → (pos near *ℤ pos near) <ℤ square_at o τ
  unfolding square_at
  passed_later τ h m =
      let k = τ - i in
      let l = j - τ in
      let e : k + l ≡ j - i = omega arith in
      let z : i + k ≡ τ = omega arith in
      subst (λ (y : ℤ). (pos near *ℤ pos near) <ℤ M (moment_of (axis_of o.body) (place_of o.station) y)) (on k ∙ ap (nth_second o.window) z)
      (later-at o lim σ k l (some_of k l e) start-in (end-in k l e) near (j - i) e a b starts (ends k l e) p)

  module _ (n : ℕ) (few : n < 2) where
    state-by : (k l : ℕ) → k + l ≡ j - i → Shadow.state_at o.guard o.body (place_of o.station) (phase_in o.body n) (σ +ℤ pos k) ≡ shown_by p n few
    state-by k l e =
        let φ = phase_in o.body n in
        let m = moment_of (axis_of o.body) (place_of o.station) (σ +ℤ pos k) in
        let inside-window : nat_abs (σ +ℤ pos k) ≤ 10800
        = subst (λ (z : ℤ). nat_abs z ≤ 10800) (sym (on k)) (second-size o.window lim.window (i + k) (omega arith)) in
        state-at o.guard o.body (place_of o.station) φ (σ +ℤ pos k)
        ∙ ap (λ (z : ℤ). state o.guard z (M m)) (edge-size o.body lim.body (place_of o.station) (placed o lim) (σ +ℤ pos k) inside-window φ)
        ∙ state-is o lim σ k l (some_of k l e) start-in (end-in k l e) near (j - i) e a b starts (ends k l e) p n few p

    byte-by : (τ : ℕ) → i ≤ τ → τ ≤ j → byte_at o n τ ≡ code (shown_by p n few)
    unfolding byte_at state_at
    byte-by τ h m =
        let z : i + (τ - i) ≡ τ = omega arith in
        ap code
        (ap (λ (y : ℤ). Shadow.state_at o.guard o.body (place_of o.station) (phase_in o.body n) y) (sym (on (τ - i) ∙ ap (nth_second o.window) z))
        ∙ state-by (τ - i) (j - τ) (omega arith))

    pub passed-alike : (τ : ℕ) → i < τ → τ < j → byte_at o n τ ≡ byte_at o n j
    passed-alike τ h m = byte-by τ (omega arith) (omega arith) ∙ sym (byte-by j (omega arith) (omega arith))

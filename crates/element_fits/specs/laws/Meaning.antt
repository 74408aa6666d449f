-- Elements are made exactly where nothing is refused (`made-only`, `made-if`), and at each of the seven hours their values
-- by document 01's rule are within the misfits of the rows' own (`at-hours`). Why the second: at whole hours the rule
-- rounds nothing (`fits`, WholeHours), and a misfit is the largest of seven differences.
use Rattle.std.specs.Prelude.{◌≡◌, Bool, true, false, cond, List, [], ◌∷◌, ℕ, ◌+◌, ◌-◌, ◌/◌, ◌%◌, ◌≤◌, ◌<◌, leb, ℤ, negsuc, neg_ℤ, nat_abs, ◌+ℤ◌, ◌-ℤ◌, ◌*ℤ◌, ◌≤ℤ◌, length, Option, None, Ok, Some, Result, Err}
use Rattle.std.proofs.Math.Path.{refl, sym, ap, subst}
use Rattle.std.proofs.Common.{◌∙◌, arith, leb-true, leb-false, le-leb}
use Rattle.std.proofs.Math.IntN.{pos}
use Rattle.sheet_types.specs.declared.refusals.Refusal.{Refusal}
use Rattle.rounding.specs.Limits.{first_out_of_range}
use Rattle.rounding.specs.Parts.{same, sum, opposite, product}
use Rattle.rounding.specs.laws.LimitsLaws.{each_in_range}
use Rattle.rounding.specs.laws.Order.{zs}
use Rattle.rounding.specs.laws.Ring.{num, ◌⊕◌, ◌⊖◌, ◌⊗◌, ring, v0, v1, v2, v3, v4, v5, v6, v7, v8}
use Rattle.sheet_types.specs.Refusals.{refusal, of_limits, andThen}
use Rattle.sheet_types.specs.laws.RefusalLaws.{of_limits_within, both-within, then_within}
use Rattle.sine.specs.Sine.{reduced}
use Rattle.elements.specs.declared.Cubic.{Cubic}
use Rattle.elements.specs.declared.Quadratic.{Quadratic}
use Rattle.elements.specs.Elements.{elements_checked}
use Rattle.elements.specs.Polynomial.{quadratic_at, cubic_at}
use Rattle.requests.specs.Admission.{room_checked}
use Rattle.fits.specs.Fits.{second}
use Rattle.fits.specs.laws.RangeLaws.{none_out}
use Rattle.fits.specs.laws.WholeHours.{whole-hours, quadratic-hours}
use Rattle.besselian_rows.specs.Exact.{accepted}
use Rattle.besselian_rows.specs.Tables.{rowAt, first_refused}
use Rattle.besselian_rows.proofs.laws.TablesLaws.{passed_here, none_left, accepted-at}
use Rattle.element_fits.specs.declared.least_squares.Hourly.{Hourly}
use Rattle.element_fits.specs.LeastSquares.{cubic, quadratic}
use Rattle.element_fits.specs.Exact.{cubic_at_hour}
use Rattle.element_fits.specs.declared.Columns.{Columns}
use Rattle.element_fits.specs.declared.Hours.{Hours}
use Rattle.element_fits.specs.declared.Fitting.{Fitting}
use Rattle.element_fits.specs.declared.Fits.{Fits}
use Rattle.element_fits.specs.FromTables.{hours_of, each_x, each_y, each_d, each_l1, each_l2, each_ascension, turn, offset, hour_angles, hour_angle, middleOf, columnsOf, fitted, fitting_of}
use Rattle.element_fits.specs.Answers.{off, larger, misfit, raised, misfits_of, unless, close, missed, first_missed, of_missed, of_checked, judged}
use Rattle.element_fits.specs.Numbers.{rows_of, hourly_of, radii_of, tolerance_ranges, given_ranges, of_rows, given_checked, admitted, fits_asked, in_rooms, of_admitted, answer_to}
use Rattle.element_fits.specs.laws.Conditions.{AllClose, Acceptable, Within, TurnsApart, WithinTurns, AtHours}
use Rattle.element_fits.specs.laws.AnswersLaws.{nothing_found, judged-made}
use Rattle.element_fits.specs.laws.NumbersLaws.{given-lengths, given-checks, given-within, rows-within, rooms-fit, rooms-whole, answer-asked}

-- ---- the largest of seven

larger_left : (a b : ℕ) → a ≤ larger a b
unfolding larger
larger_left a b = go (leb b a) refl
  where
    go : (t : Bool) → leb b a ≡ t → a ≤ cond t a b
    go true e = omega arith
    go false e = omega (arith, leb-false b a e)

larger_right : (a b : ℕ) → b ≤ larger a b
unfolding larger
larger_right a b = go (leb b a) refl
  where
    go : (t : Bool) → leb b a ≡ t → b ≤ cond t a b
    go true e = leb-true b a e
    go false e = omega arith

larger_most : (a b m : ℕ) → a ≤ m → b ≤ m → larger a b ≤ m
unfolding larger
larger_most a b m h k = go (leb b a)
  where
    go : (t : Bool) → cond t a b ≤ m
    go true = h
    go false = k

-- each difference is at most m
record Each (m : ℕ) (c : Cubic) (v : Hourly) : Type 0 where
  v0 : off c (negsuc 2) v.v0 ≤ m
  v1 : off c (negsuc 1) v.v1 ≤ m
  v2 : off c (negsuc 0) v.v2 ≤ m
  v3 : off c (pos 0) v.v3 ≤ m
  v4 : off c (pos 1) v.v4 ≤ m
  v5 : off c (pos 2) v.v5 ≤ m
  v6 : off c (pos 3) v.v6 ≤ m

misfit_each : (c : Cubic) (v : Hourly) → Each (misfit c v) c v
unfolding misfit
misfit_each c v =
    let m1 = larger (off c (negsuc 2) v.v0) (off c (negsuc 1) v.v1) in
    let m2 = larger m1 (off c (negsuc 0) v.v2) in
    let m3 = larger m2 (off c (pos 0) v.v3) in
    let m4 = larger m3 (off c (pos 1) v.v4) in
    let m5 = larger m4 (off c (pos 2) v.v5) in
    let m6 = larger m5 (off c (pos 3) v.v6) in
    let l6 = larger_left m5 (off c (pos 3) v.v6) in
    let r6 = larger_right m5 (off c (pos 3) v.v6) in
    let l5 = larger_left m4 (off c (pos 2) v.v5) in
    let r5 = larger_right m4 (off c (pos 2) v.v5) in
    let l4 = larger_left m3 (off c (pos 1) v.v4) in
    let r4 = larger_right m3 (off c (pos 1) v.v4) in
    let l3 = larger_left m2 (off c (pos 0) v.v3) in
    let r3 = larger_right m2 (off c (pos 0) v.v3) in
    let l2 = larger_left m1 (off c (negsuc 0) v.v2) in
    let r2 = larger_right m1 (off c (negsuc 0) v.v2) in
    let l1 = larger_left (off c (negsuc 2) v.v0) (off c (negsuc 1) v.v1) in
    let r1 = larger_right (off c (negsuc 2) v.v0) (off c (negsuc 1) v.v1) in
    record {
      v0 = omega (arith, l1, l2, l3, l4, l5, l6);
      v1 = omega (arith, r1, l2, l3, l4, l5, l6);
      v2 = omega (arith, r2, l3, l4, l5, l6);
      v3 = omega (arith, r3, l4, l5, l6);
      v4 = omega (arith, r4, l5, l6);
      v5 = omega (arith, r5, l6);
      v6 = omega (arith, r6);
    }

each_misfit : {m : ℕ} (c : Cubic) (v : Hourly) → Each m c v → misfit c v ≤ m
unfolding misfit
each_misfit {m} c v h =
    let p1 = larger_most (off c (negsuc 2) v.v0) (off c (negsuc 1) v.v1) m h.v0 h.v1 in
    let p2 = larger_most (larger (off c (negsuc 2) v.v0) (off c (negsuc 1) v.v1)) (off c (negsuc 0) v.v2) m p1 h.v2 in
    let p3 = larger_most (larger (larger (off c (negsuc 2) v.v0) (off c (negsuc 1) v.v1)) (off c (negsuc 0) v.v2)) (off c (pos 0) v.v3) m p2 h.v3 in
    let p4 = larger_most (larger (larger (larger (off c (negsuc 2) v.v0) (off c (negsuc 1) v.v1)) (off c (negsuc 0) v.v2)) (off c (pos 0) v.v3)) (off c (pos 1) v.v4) m p3 h.v4 in
    let p5 = larger_most (larger (larger (larger (larger (off c (negsuc 2) v.v0) (off c (negsuc 1) v.v1)) (off c (negsuc 0) v.v2)) (off c (pos 0) v.v3)) (off c (pos 1) v.v4)) (off c (pos 2) v.v5) m p4 h.v5 in
    larger_most (larger (larger (larger (larger (larger (off c (negsuc 2) v.v0) (off c (negsuc 1) v.v1)) (off c (negsuc 0) v.v2)) (off c (pos 0) v.v3)) (off c (pos 1) v.v4)) (off c (pos 2) v.v5)) (off c (pos 3) v.v6) m p5 h.v6

-- ---- nothing misses

close_off : (c : Cubic) (t v : ℤ) (n : ℕ) → close c t v n ≡ true → off c t v ≤ n
unfolding close
close_off c t v n e = leb-true (off c t v) n e

off_close : (c : Cubic) (t v : ℤ) (n : ℕ) → off c t v ≤ n → close c t v n ≡ true
unfolding close
off_close c t v n h = le-leb (off c t v) n h

nothing_missed : (found : Option ℕ) (c : Cubic) (v : Hourly) (n k : ℕ) → missed found c v n k ≡ None → (found ≡ None) × (misfit c v ≤ n)
unfolding missed
nothing_missed found c v n k e =
    let s6 = nothing_found _ (close c (pos 3) v.v6 n) _ e in
    let s5 = nothing_found _ (close c (pos 2) v.v5 n) _ s6.0 in
    let s4 = nothing_found _ (close c (pos 1) v.v4 n) _ s5.0 in
    let s3 = nothing_found _ (close c (pos 0) v.v3 n) _ s4.0 in
    let s2 = nothing_found _ (close c (negsuc 0) v.v2 n) _ s3.0 in
    let s1 = nothing_found _ (close c (negsuc 1) v.v1 n) _ s2.0 in
    let s0 = nothing_found found (close c (negsuc 2) v.v0 n) _ s1.0 in
    (s0.0, each_misfit c v (record { v0 = close_off c (negsuc 2) v.v0 n s0.1; v1 = close_off c (negsuc 1) v.v1 n s1.1; v2 = close_off c (negsuc 0) v.v2 n s2.1; v3 = close_off c (pos 0) v.v3 n s3.1; v4 = close_off c (pos 1) v.v4 n s4.1; v5 = close_off c (pos 2) v.v5 n s5.1; v6 = close_off c (pos 3) v.v6 n s6.1 }))

unless_nothing : {l : Option ℕ} {good : Bool} (k : ℕ) → l ≡ None → good ≡ true → unless l good k ≡ None
unfolding unless
unless_nothing k e f = rw (e, f)

missed_nothing : {found : Option ℕ} (c : Cubic) (v : Hourly) (n k : ℕ) → found ≡ None → misfit c v ≤ n → missed found c v n k ≡ None
unfolding missed
missed_nothing c v n k e h =
    let d = misfit_each c v in
    let s0 = unless_nothing _ e (off_close c (negsuc 2) v.v0 n (omega (arith, d.v0))) in
    let s1 = unless_nothing _ s0 (off_close c (negsuc 1) v.v1 n (omega (arith, d.v1))) in
    let s2 = unless_nothing _ s1 (off_close c (negsuc 0) v.v2 n (omega (arith, d.v2))) in
    let s3 = unless_nothing _ s2 (off_close c (pos 0) v.v3 n (omega (arith, d.v3))) in
    let s4 = unless_nothing _ s3 (off_close c (pos 1) v.v4 n (omega (arith, d.v4))) in
    let s5 = unless_nothing _ s4 (off_close c (pos 2) v.v5 n (omega (arith, d.v5))) in
    unless_nothing _ s5 (off_close c (pos 3) v.v6 n (omega (arith, d.v6)))

all_close : (c : Columns) (n : ℕ) → first_missed c n ≡ None → AllClose c n
unfolding first_missed
all_close c n e =
    let s5 = nothing_missed _ (raised (quadratic c.mu)) c.mu n 50 e in
    let s4 = nothing_missed _ (raised (quadratic c.l2)) c.l2 n 40 s5.0 in
    let s3 = nothing_missed _ (raised (quadratic c.l1)) c.l1 n 30 s4.0 in
    let s2 = nothing_missed _ (raised (quadratic c.d)) c.d n 20 s3.0 in
    let s1 = nothing_missed _ (cubic c.y) c.y n 10 s2.0 in
    let s0 = nothing_missed None (cubic c.x) c.x n 0 s1.0 in
    record { x = s0.1; y = s1.1; d = s2.1; l1 = s3.1; l2 = s4.1; mu = s5.1 }

none_missed : (c : Columns) (n : ℕ) → AllClose c n → first_missed c n ≡ None
unfolding first_missed
none_missed c n h =
    let s0 = missed_nothing (cubic c.x) c.x n 0 refl h.x in
    let s1 = missed_nothing (cubic c.y) c.y n 10 s0 h.y in
    let s2 = missed_nothing (raised (quadratic c.d)) c.d n 20 s1 h.d in
    let s3 = missed_nothing (raised (quadratic c.l1)) c.l1 n 30 s2 h.l1 in
    let s4 = missed_nothing (raised (quadratic c.l2)) c.l2 n 40 s3 h.l2 in
    missed_nothing (raised (quadratic c.mu)) c.mu n 50 s4 h.mu

-- ---- which decides

missed_made : (f : Fitting) (r : Fits) (l : Option ℕ) → of_missed f l ≡ Ok r
    → (l ≡ None) × (r ≡ record { elements = f.elements; misfits = misfits_of f.columns })
missed_made f r None h = (refl, cc)
missed_made f r (Some i) h = let z : ◌≡◌ {A = ℕ} 0 1 = cc in absurd (omega arith)

checked_made : (f : Fitting) (r : Fits) (l : Option ℕ) (k : Result Unit Refusal) → of_checked f l k ≡ Ok r → (k ≡ Ok tt) × (of_missed f l ≡ Ok r)
checked_made f r l (Ok tt) h = (refl, h)
checked_made f r l (Err q) h = let z : ◌≡◌ {A = ℕ} 0 1 = cc in absurd (omega arith)

rooms_made : (room second : ℕ) (f : Fits) (a : Result Fits Refusal) → in_rooms room second a ≡ Ok f → a ≡ Ok f
rooms_made room second f (Err r) e = let z : ◌≡◌ {A = ℕ} 0 1 = cc in absurd (omega arith)
rooms_made room second f (Ok g) e = by (leb 22 room) (leb 6 second) e
  where
    by : (b c : Bool) → ◌≡◌ {A = Result Fits Refusal} (cond b (cond c (Ok g) (Err (refusal 4 6))) (Err (refusal 4 22))) (Ok f)
        → ◌≡◌ {A = Result Fits Refusal} (Ok g) (Ok f)
    by true true h = h
    by true false h = let z : ◌≡◌ {A = ℕ} 0 1 = cc in absurd (omega arith)
    by false c h = let z : ◌≡◌ {A = ℕ} 0 1 = cc in absurd (omega arith)

admitted_made : (c : Result Unit Refusal) (a : Result Fits Refusal) (f : Fits) → of_admitted c a ≡ Ok f → (c ≡ Ok tt) × (a ≡ Ok f)
admitted_made (Ok tt) a f h = (refl, h)
admitted_made (Err r) a f h = let z : ◌≡◌ {A = ℕ} 0 1 = cc in absurd (omega arith)

sines_enough : (sines : List ℕ) → room_checked sines ≡ Ok tt → 901 ≤ length sines
unfolding room_checked
sines_enough sines e = go (leb 901 (length sines)) refl e
  where
    go : (b : Bool) → leb 901 (length sines) ≡ b → ◌≡◌ {A = Result Unit Refusal} (cond b (Ok tt) (Err (refusal 4 901))) (Ok tt) → 901 ≤ length sines
    go true h w = leb-true 901 (length sines) h
    go false h w = let z : ◌≡◌ {A = ℕ} 0 1 = cc in absurd (omega arith)

enough_sines : (sines : List ℕ) → 901 ≤ length sines → room_checked sines ≡ Ok tt
unfolding room_checked
enough_sines sines h = rw (le-leb 901 (length sines) h)

whole : (n : List ℤ) → ((i : ℕ) → i < 7 → accepted (rowAt n i) ≡ true) → first_refused n 0 7 ≡ Ok tt
whole n h =
    passed_here n 0 6 (h 0 (omega arith)) ∙ passed_here n 1 5 (h 1 (omega arith)) ∙ passed_here n 2 4 (h 2 (omega arith))
    ∙ passed_here n 3 3 (h 3 (omega arith)) ∙ passed_here n 4 2 (h 4 (omega arith)) ∙ passed_here n 5 1 (h 5 (omega arith))
    ∙ passed_here n 6 0 (h 6 (omega arith)) ∙ none_left n 7

-- ---- both ways

module _ (n g k : List ℤ) (tolerance : ℤ) (sines : List ℕ) (room second : ℕ) (f : Fits) where
  abbrev fit : Fitting
  fit = fitting_of (radii_of k) (rows_of n) (hourly_of g)

  pub made-only : answer_to n g k tolerance sines room second ≡ Ok f → Acceptable n g k tolerance sines room second f
  unfolding answer_to admitted fits_asked judged
  made-only e =
      let a = admitted_made (andThen (given_checked n g k tolerance) (room_checked sines)) _ f e in
      let b = both-within (given_checked n g k tolerance) (room_checked sines) a.0 in
      let t = given-within n g k tolerance b.0 in
      let c = given-checks n g k tolerance b.0 in
      let s = both-within (of_limits 18 (first_out_of_range 0 (tolerance_ranges tolerance))) _ c in
      let r = both-within (of_limits 21 (first_out_of_range 0 (given_ranges g k))) _ s.1 in
      let j = rooms_made room second f (fits_asked n g k tolerance) a.1 in
      let m = checked_made fit f (first_missed fit.columns (nat_abs tolerance)) (elements_checked fit.elements) j in
      let w = missed_made fit f (first_missed fit.columns (nat_abs tolerance)) m.1 in
      let o = rooms-fit room second f (fits_asked n g k tolerance) a.1 in
      record {
        rows = t.rows;
        sidereal = t.sidereal;
        radii = t.radii;
        stated = each_in_range 0 (tolerance_ranges tolerance) (of_limits_within 18 _ s.0);
        ranged = each_in_range 0 (given_ranges g k) (of_limits_within 21 _ r.0);
        taken = λ i h. accepted-at n i (rows-within (first_refused n 0 7) r.1) h;
        sines = sines_enough sines b.1;
        is = w.1;
        within = ap (λ (x : Fits). elements_checked x.elements) w.1 ∙ m.0;
        close = all_close fit.columns (nat_abs tolerance) w.0;
        room = o.0;
        second = o.1;
      }

  given-if : Acceptable n g k tolerance sines room second f → given_checked n g k tolerance ≡ Ok tt
  given-if a =
      given-lengths n g k tolerance a.rows a.sidereal a.radii
      ∙ then_within _ _ (ap (of_limits 18) (none_out 0 (tolerance_ranges tolerance) a.stated))
      ∙ then_within _ _ (ap (of_limits 21) (none_out 0 (given_ranges g k) a.ranged))
      ∙ ap of_rows (whole n a.taken)

  admitted-if : Acceptable n g k tolerance sines room second f → admitted n g k tolerance sines ≡ Ok tt
  unfolding admitted
  admitted-if a = then_within (given_checked n g k tolerance) (room_checked sines) (given-if a) ∙ enough_sines sines a.sines

  fits-if : Acceptable n g k tolerance sines room second f → fits_asked n g k tolerance ≡ Ok f
  unfolding fits_asked
  fits-if a =
      judged-made fit (nat_abs tolerance) (ap (λ (x : Fits). elements_checked x.elements) (sym a.is) ∙ a.within)
      (none_missed fit.columns (nat_abs tolerance) a.close) ∙ ap Ok (sym a.is)

  pub made-if : Acceptable n g k tolerance sines room second f → answer_to n g k tolerance sines room second ≡ Ok f
  made-if a =
      answer-asked n g k tolerance sines room second (admitted-if a) ∙ ap (in_rooms room second) (fits-if a)
      ∙ rooms-whole room second f a.room a.second

-- ---- at the seven hours

up : {a b : ℕ} → a ≤ b → pos a ≤ℤ pos b
up h = omega (arith, zs)

cubic-hours : (c : Cubic) (v : Hourly) → Within (pos (misfit c v)) (cubic_at c) v
unfolding off
cubic-hours c v =
    let d = misfit_each c v in
    record {
      v0 = up (subst (λ (z : ℤ). nat_abs (z -ℤ v.v0) ≤ misfit c v) (sym (whole-hours c 0)) d.v0);
      v1 = up (subst (λ (z : ℤ). nat_abs (z -ℤ v.v1) ≤ misfit c v) (sym (whole-hours c 1)) d.v1);
      v2 = up (subst (λ (z : ℤ). nat_abs (z -ℤ v.v2) ≤ misfit c v) (sym (whole-hours c 2)) d.v2);
      v3 = up (subst (λ (z : ℤ). nat_abs (z -ℤ v.v3) ≤ misfit c v) (sym (whole-hours c 3)) d.v3);
      v4 = up (subst (λ (z : ℤ). nat_abs (z -ℤ v.v4) ≤ misfit c v) (sym (whole-hours c 4)) d.v4);
      v5 = up (subst (λ (z : ℤ). nat_abs (z -ℤ v.v5) ≤ misfit c v) (sym (whole-hours c 5)) d.v5);
      v6 = up (subst (λ (z : ℤ). nat_abs (z -ℤ v.v6) ≤ misfit c v) (sym (whole-hours c 6)) d.v6);
    }

-- a quadratic raised is itself
raised_hours : (q : Quadratic) (h : ℤ) → cubic_at_hour (raised q) h ≡ (q.c2 *ℤ h +ℤ q.c1) *ℤ h +ℤ q.c0
raised_hours q h =
    ring (q.c0 ∷ q.c1 ∷ q.c2 ∷ h ∷ []) (((num 0 ⊗ v3 ⊕ v2) ⊗ v3 ⊕ v1) ⊗ v3 ⊕ v0) ((v2 ⊗ v3 ⊕ v1) ⊗ v3 ⊕ v0) tt

quadratic-within : (q : Quadratic) (v : Hourly) → Within (pos (misfit (raised q) v)) (quadratic_at q) v
unfolding off
quadratic-within q v =
    let d = misfit_each (raised q) v in
    record {
      v0 = up (subst (λ (z : ℤ). nat_abs (z -ℤ v.v0) ≤ misfit (raised q) v) (raised_hours q (negsuc 2) ∙ sym (quadratic-hours q 0)) d.v0);
      v1 = up (subst (λ (z : ℤ). nat_abs (z -ℤ v.v1) ≤ misfit (raised q) v) (raised_hours q (negsuc 1) ∙ sym (quadratic-hours q 1)) d.v1);
      v2 = up (subst (λ (z : ℤ). nat_abs (z -ℤ v.v2) ≤ misfit (raised q) v) (raised_hours q (negsuc 0) ∙ sym (quadratic-hours q 2)) d.v2);
      v3 = up (subst (λ (z : ℤ). nat_abs (z -ℤ v.v3) ≤ misfit (raised q) v) (raised_hours q (pos 0) ∙ sym (quadratic-hours q 3)) d.v3);
      v4 = up (subst (λ (z : ℤ). nat_abs (z -ℤ v.v4) ≤ misfit (raised q) v) (raised_hours q (pos 1) ∙ sym (quadratic-hours q 4)) d.v4);
      v5 = up (subst (λ (z : ℤ). nat_abs (z -ℤ v.v5) ≤ misfit (raised q) v) (raised_hours q (pos 2) ∙ sym (quadratic-hours q 5)) d.v5);
      v6 = up (subst (λ (z : ℤ). nat_abs (z -ℤ v.v6) ≤ misfit (raised q) v) (raised_hours q (pos 3) ∙ sym (quadratic-hours q 6)) d.v6);
    }

-- a reduced angle is the angle and some whole turns
whole_turns : ℤ → ℤ
whole_turns (pos n) = neg_ℤ (pos (n / 360_000_000))
whole_turns (negsuc n) = pos (n / 360_000_000 + 1)

reduced-is : (z : ℤ) → pos (reduced z) ≡ z +ℤ pos 360_000_000 *ℤ whole_turns z
unfolding reduced whole_turns
reduced-is (pos n) =
    let q = n / 360_000_000 in
    same (pos (n % 360_000_000)) (pos n +ℤ pos 360_000_000 *ℤ neg_ℤ (pos q))
    (omega (arith, (sum (pos n) (pos 360_000_000 *ℤ neg_ℤ (pos q))).is, (product (pos 360_000_000) (neg_ℤ (pos q))).is, (opposite (pos q)).is))
reduced-is (negsuc n) =
    let q = n / 360_000_000 + 1 in
    same (pos (359_999_999 - n % 360_000_000)) (negsuc n +ℤ pos 360_000_000 *ℤ pos q)
    (omega (arith, (sum (negsuc n) (pos 360_000_000 *ℤ pos q)).is, (product (pos 360_000_000) (pos q)).is))

-- μ at an hour: the fit of the offsets, put back, and the row's own
module _ (q : Quadratic) (middle : ℤ) where
  abbrev mu : Quadratic
  mu = hour_angle q middle

  turned : (i : ℕ) (h g a m : ℤ) → pos i -ℤ pos 3 ≡ h → pos (off (raised q) h (offset (turn g a h) middle)) ≤ℤ m → TurnsApart m (quadratic_at mu (second i)) (g -ℤ a)
  unfolding off offset turn hour_angle
  turned i h g a m e l =
      let z = middle +ℤ q.c0 in
      let y = turn g a h -ℤ middle +ℤ pos 180_000_000 in
      let w = whole_turns z +ℤ whole_turns y in
      record {
        turns = w;
        close =
            subst (λ (x : ℤ). pos (nat_abs x) ≤ℤ m)
            (ap (λ (x : ℤ). cubic_at_hour (raised q) h -ℤ (x -ℤ pos 180_000_000)) (reduced-is y)
            ∙ ring (q.c0 ∷ q.c1 ∷ q.c2 ∷ h ∷ g ∷ a ∷ middle ∷ whole_turns y ∷ whole_turns z ∷ [])
            (((num 0 ⊗ v3 ⊕ v2) ⊗ v3 ⊕ v1) ⊗ v3 ⊕ v0 ⊖ ((v4 ⊖ v5 ⊖ num 15_000_000 ⊗ v3) ⊖ v6 ⊕ num 180_000_000 ⊕ num 360_000_000 ⊗ v7 ⊖ num 180_000_000))
            ((v2 ⊗ v3 ⊕ (v1 ⊕ num 15_000_000)) ⊗ v3 ⊕ (v6 ⊕ v0 ⊕ num 360_000_000 ⊗ v8) ⊖ (v4 ⊖ v5) ⊖ num 360_000_000 ⊗ (v8 ⊕ v7)) tt
            ∙ ap (λ (x : ℤ). (q.c2 *ℤ h +ℤ (q.c1 +ℤ pos 15_000_000)) *ℤ h +ℤ x -ℤ (g -ℤ a) -ℤ pos 360_000_000 *ℤ w) (sym (reduced-is z))
            ∙ ap (λ (x : ℤ). x -ℤ (g -ℤ a) -ℤ pos 360_000_000 *ℤ w)
            (ap (λ (x : ℤ). (q.c2 *ℤ x +ℤ (q.c1 +ℤ pos 15_000_000)) *ℤ x +ℤ pos (reduced z)) (sym e) ∙ sym (quadratic-hours mu i)))
            l;
      }

module _ (n g k : List ℤ) where
  abbrev hours : Hours
  hours = hours_of (radii_of k) (rows_of n)

  abbrev middle : ℤ
  middle = middleOf hours (hourly_of g)

  abbrev angles : Hourly
  angles = hour_angles (hourly_of g) (each_ascension hours) middle

  mu-hours : WithinTurns (pos (misfit (raised (quadratic angles)) angles)) (quadratic_at (hour_angle (quadratic angles) middle)) (hourly_of g) hours
  unfolding hour_angles
  mu-hours =
      let q = quadratic angles in
      let d = misfit_each (raised q) angles in
      let t = hourly_of g in
      record {
        v0 = turned q middle 0 (negsuc 2) t.v0 hours.h0.ascension _ refl (up d.v0);
        v1 = turned q middle 1 (negsuc 1) t.v1 hours.h1.ascension _ refl (up d.v1);
        v2 = turned q middle 2 (negsuc 0) t.v2 hours.h2.ascension _ refl (up d.v2);
        v3 = turned q middle 3 (pos 0) t.v3 hours.h3.ascension _ refl (up d.v3);
        v4 = turned q middle 4 (pos 1) t.v4 hours.h4.ascension _ refl (up d.v4);
        v5 = turned q middle 5 (pos 2) t.v5 hours.h5.ascension _ refl (up d.v5);
        v6 = turned q middle 6 (pos 3) t.v6 hours.h6.ascension _ refl (up d.v6);
      }

  pub at-hours : (f : Fits) → f ≡ record { elements = (fitting_of (radii_of k) (rows_of n) (hourly_of g)).elements; misfits = misfits_of (fitting_of (radii_of k) (rows_of n) (hourly_of g)).columns }
      → AtHours n g k f
  unfolding fitting_of fitted columnsOf misfits_of
  at-hours f e =
      subst (AtHours n g k) (sym e)
      (record {
        x = cubic-hours (cubic (each_x hours)) (each_x hours);
        y = cubic-hours (cubic (each_y hours)) (each_y hours);
        d = quadratic-within (quadratic (each_d hours)) (each_d hours);
        l1 = quadratic-within (quadratic (each_l1 hours)) (each_l1 hours);
        l2 = quadratic-within (quadratic (each_l2 hours)) (each_l2 hours);
        mu = mu-hours;
      })

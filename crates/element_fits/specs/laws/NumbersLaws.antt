-- Laws of the caller's numbers: what is known where nothing is refused, and which refusal decides.
use Rattle.std.proofs.Math.Path.{◌≡◌, refl, ap}
use Rattle.std.proofs.Common.{sym, subst, ◌∙◌, arith, Result, Ok, Err}
use Rattle.std.specs.Prelude.{Bool, ◌&&◌, List, [], ◌∷◌, ◌++◌, ℕ, suc, ◌+◌, ◌≤◌, ◌<◌, leb, ℤ, pos, negsuc, nat_abs, ◌≤ℤ◌, length, set, drop}
use Rattle.std.proofs.Math.Bool.{true, false, cond}
use borrow.Author.Tests.{eqb-true, eq-eqb, ne_eqb, leb-true, le-leb, lt-leb}
use Rattle.std.proofs.Math.Dec.{eqb}
use Rattle.std.proofs.lemmas.List.Edits.{sets, sets-eq}
use Rattle.rounding.specs.Limits.{EachInRange, first_out_of_range}
use Rattle.rounding.specs.laws.LimitsLaws.{each_in_range}
use Rattle.rounding.specs.laws.Order.{zs}
use Rattle.rounding.specs.laws.Tests.{both}
use Rattle.sheet_types.specs.declared.refusals.Refusal.{Refusal}
use Rattle.sheet_types.specs.Refusals.{refusal, of_limits, andThen}
use Rattle.sheet_types.specs.laws.RefusalLaws.{not_within, of_limits_within, both-within}
use Rattle.sine_table.specs.Table.{Sines}
use Rattle.sine_table.specs.laws.RoomLaws.{filled-sines}
use Rattle.requests.specs.Admission.{room_checked, sines_after}
use Rattle.elements.specs.declared.Elements.{Elements}
use Rattle.elements.specs.Elements.{fields}
use Rattle.besselian_rows.specs.Exact.{RadiiInRange}
use Rattle.besselian_rows.specs.Tables.{number, first_refused}
use Rattle.besselian_rows.proofs.laws.TablesLaws.{accepted-at}
use Rattle.element_fits.specs.Sizes.{HourlySizes}
use Rattle.element_fits.specs.declared.Fits.{Fits}
use Rattle.element_fits.specs.Numbers.{rows_of, hourly_of, radii_of, tolerance_ranges, numbers_of, given_ranges, of_rows, given_checked, admitted, fits_asked, in_rooms, of_admitted, answer_to, four_of, three_of}
use Rattle.element_fits.specs.laws.Sizes.{AllAccepted}

-- ---- numbers of which nothing is refused

pub record Taken (n g k : List ℤ) (tolerance : ℤ) : Type 0 where
  pub rows : length n ≡ 42
  pub sidereal : length g ≡ 7
  pub radii : length k ≡ 3
  pub small : nat_abs tolerance ≤ 1000
  pub ranged : RadiiInRange (radii_of k)
  pub angles : HourlySizes 360_000_000 (hourly_of g)
  pub accepted : AllAccepted (rows_of n)

-- a number between two that are not negative
between : (z : ℤ) (l h : ℕ) → pos l ≤ℤ z → z ≤ℤ pos h → (l ≤ nat_abs z) × (nat_abs z ≤ h)
between (pos m) l h p q = (omega (arith, zs), omega (arith, zs))
between (negsuc m) l h p q = absurd p.le

stated : (tolerance : ℤ) → EachInRange (tolerance_ranges tolerance) → nat_abs tolerance ≤ 1000
unfolding tolerance_ranges
stated t e = (between t 0 1000 e.0.0 e.0.1).1

radii_ranged : (g k : List ℤ) → EachInRange (given_ranges g k) → RadiiInRange (radii_of k)
unfolding given_ranges numbers_of radii_of
radii_ranged g k e =
    let s = between (number k 0) 10890000000 10930000000 e.0.0 e.0.1 in
    let p = between (number k 1) 27200000 27300000 e.1.0.0 e.1.0.1 in
    let c = between (number k 2) 27200000 27300000 e.1.1.0.0 e.1.1.0.1 in
    record { sun_low = s.0; sun_high = s.1; penumbra_low = p.0; penumbra_high = p.1; central_low = c.0; central_high = c.1 }

angle : (z : ℤ) → (pos 0 ≤ℤ z) × (z ≤ℤ pos 359999999) → nat_abs z ≤ 360_000_000
angle z h = omega (arith, (between z 0 359999999 h.0 h.1).1)

angles_ranged : (g k : List ℤ) → EachInRange (given_ranges g k) → HourlySizes 360_000_000 (hourly_of g)
unfolding given_ranges numbers_of hourly_of
angles_ranged g k e =
    let f = e.1.1.1 in
    record {
      v0 = angle (number g 0) f.0;
      v1 = angle (number g 1) f.1.0;
      v2 = angle (number g 2) f.1.1.0;
      v3 = angle (number g 3) f.1.1.1.0;
      v4 = angle (number g 4) f.1.1.1.1.0;
      v5 = angle (number g 5) f.1.1.1.1.1.0;
      v6 = angle (number g 6) f.1.1.1.1.1.1.0;
    }

pub rows-within : (v : Result Unit ℕ) → of_rows v ≡ Ok tt → v ≡ Ok tt
rows-within (Ok tt) e = refl
rows-within (Err i) e = absurd (not_within e)

rows-accepted : (n : List ℤ) → first_refused n 0 7 ≡ Ok tt → AllAccepted (rows_of n)
unfolding rows_of
rows-accepted n e =
    record {
      r0 = accepted-at n 0 e (omega arith);
      r1 = accepted-at n 1 e (omega arith);
      r2 = accepted-at n 2 e (omega arith);
      r3 = accepted-at n 3 e (omega arith);
      r4 = accepted-at n 4 e (omega arith);
      r5 = accepted-at n 5 e (omega arith);
      r6 = accepted-at n 6 e (omega arith);
    }

module _ (n g k : List ℤ) (tolerance : ℤ) where
  -- what is checked where the lengths are right
  abbrev pub checks : Result Unit Refusal
  checks =
      andThen (of_limits 18 (first_out_of_range 0 (tolerance_ranges tolerance)))
      (andThen (of_limits 21 (first_out_of_range 0 (given_ranges g k))) (of_rows (first_refused n 0 7)))

  pub given-lengths : length n ≡ 42 → length g ≡ 7 → length k ≡ 3 → given_checked n g k tolerance ≡ checks
  unfolding given_checked
  given-lengths hn hg hk = rw (eq-eqb (length n) 42 hn, eq-eqb (length g) 7 hg, eq-eqb (length k) 3 hk)

  pub given-rows : (length n ≡ 42 → ⊥) → given_checked n g k tolerance ≡ Err (refusal 10 0)
  unfolding given_checked
  given-rows h = rw (ne_eqb (length n) 42 h)

  pub given-sidereal : length n ≡ 42 → (length g ≡ 7 → ⊥) → given_checked n g k tolerance ≡ Err (refusal 10 0)
  unfolding given_checked
  given-sidereal e h = rw (eq-eqb (length n) 42 e, ne_eqb (length g) 7 h)

  pub given-radii : length n ≡ 42 → length g ≡ 7 → (length k ≡ 3 → ⊥) → given_checked n g k tolerance ≡ Err (refusal 10 0)
  unfolding given_checked
  given-radii e f h = rw (eq-eqb (length n) 42 e, eq-eqb (length g) 7 f, ne_eqb (length k) 3 h)

  pub given-within : given_checked n g k tolerance ≡ Ok tt → Taken n g k tolerance
  unfolding given_checked
  given-within e = go (eqb (length n) 42 && (eqb (length g) 7 && eqb (length k) 3)) refl e
    where
      go : (b : Bool) → (eqb (length n) 42 && (eqb (length g) 7 && eqb (length k) 3)) ≡ b → cond b checks (Err (refusal 10 0)) ≡ Ok tt → Taken n g k tolerance
      go false h w = absurd (not_within w)
      go true h w =
          let l = both (eqb (length n) 42) (eqb (length g) 7 && eqb (length k) 3) h in
          let m = both (eqb (length g) 7) (eqb (length k) 3) l.1 in
          let s = both-within (of_limits 18 (first_out_of_range 0 (tolerance_ranges tolerance))) _ w in
          let t = both-within (of_limits 21 (first_out_of_range 0 (given_ranges g k))) _ s.1 in
          let r = each_in_range 0 (given_ranges g k) (of_limits_within 21 _ t.0) in
          record {
            rows = eqb-true (length n) 42 l.0;
            sidereal = eqb-true (length g) 7 m.0;
            radii = eqb-true (length k) 3 m.1;
            small = stated tolerance (each_in_range 0 (tolerance_ranges tolerance) (of_limits_within 18 _ s.0));
            ranged = radii_ranged g k r;
            angles = angles_ranged g k r;
            accepted = rows-accepted n (rows-within (first_refused n 0 7) t.1);
          }

  -- and the other way
  pub given-checks : given_checked n g k tolerance ≡ Ok tt → checks ≡ Ok tt
  given-checks e = let t = given-within e in sym (given-lengths t.rows t.sidereal t.radii) ∙ e

  module _ (sines : List ℕ) where
    pub admitted-refused : (r : Refusal) → given_checked n g k tolerance ≡ Err r
        → (Err r ≡ admitted n g k tolerance sines) × (sines ≡ sines_after (admitted n g k tolerance sines) sines)
    unfolding admitted
    admitted-refused r e = rw e (refl, refl)

    pub admitted-room : given_checked n g k tolerance ≡ Ok tt
        → (room_checked sines ≡ admitted n g k tolerance sines)
        × (sines_after (room_checked sines) sines ≡ sines_after (admitted n g k tolerance sines) sines)
    unfolding admitted
    admitted-room e = rw e (refl, refl)

    given-first : admitted n g k tolerance sines ≡ Ok tt → given_checked n g k tolerance ≡ Ok tt
    unfolding admitted
    given-first e = (both-within (given_checked n g k tolerance) (room_checked sines) e).0

    pub admitted-within : admitted n g k tolerance sines ≡ Ok tt → Taken n g k tolerance × Sines (sines_after (admitted n g k tolerance sines) sines)
    admitted-within e = (given-within (given-first e), subst (λ (c : Result Unit Refusal). Sines (sines_after c sines)) (sym e) (filled-sines sines))

-- ---- the caller's buffers

module _ (room second : ℕ) (f : Fits) where
  pub rooms-first : room < 22 → in_rooms room second (Ok f) ≡ Err (refusal 4 22)
  rooms-first h = rw (lt-leb 22 room h)

  pub rooms-second : 22 ≤ room → second < 6 → in_rooms room second (Ok f) ≡ Err (refusal 4 6)
  rooms-second h l = rw (le-leb 22 room h, lt-leb 6 second l)

  pub rooms-whole : 22 ≤ room → 6 ≤ second → in_rooms room second (Ok f) ≡ Ok f
  rooms-whole h l = rw (le-leb 22 room h, le-leb 6 second l)

  -- elements that are made fit their buffers
  pub rooms-fit : (a : Result Fits Refusal) → in_rooms room second a ≡ Ok f → (22 ≤ room) × (6 ≤ second)
  rooms-fit (Err r) e = let z : ◌≡◌ {A = ℕ} 0 1 = cc in absurd (omega arith)
  rooms-fit (Ok g) e = by (leb 22 room) (leb 6 second) refl refl e
    where
      by : (b c : Bool) → leb 22 room ≡ b → leb 6 second ≡ c → cond b (cond c (Ok g) (Err (refusal 4 6))) (Err (refusal 4 22)) ≡ Ok f
          → (22 ≤ room) × (6 ≤ second)
      by true true h l e = (leb-true 22 room h, leb-true 6 second l)
      by true false h l e = let z : ◌≡◌ {A = ℕ} 0 1 = cc in absurd (omega arith)
      by false c h l e = let z : ◌≡◌ {A = ℕ} 0 1 = cc in absurd (omega arith)

-- ---- the whole answer

module _ (n g k : List ℤ) (tolerance : ℤ) (sines : List ℕ) (room second : ℕ) where
  pub answer-refused : (r : Refusal) → admitted n g k tolerance sines ≡ Err r → answer_to n g k tolerance sines room second ≡ Err r
  unfolding answer_to
  answer-refused r e = ap (λ (c : Result Unit Refusal). of_admitted c (in_rooms room second (fits_asked n g k tolerance))) e

  pub answer-asked : admitted n g k tolerance sines ≡ Ok tt → answer_to n g k tolerance sines room second ≡ in_rooms room second (fits_asked n g k tolerance)
  unfolding answer_to
  answer-asked e = ap (λ (c : Result Unit Refusal). of_admitted c (in_rooms room second (fits_asked n g k tolerance))) e

  pub answer-fits : (f : Fits) → answer_to n g k tolerance sines room second ≡ Ok f → (22 ≤ room) × (6 ≤ second)
  unfolding answer_to
  answer-fits f e = by (admitted n g k tolerance sines) e
    where
      by : (c : Result Unit Refusal) → of_admitted c (in_rooms room second (fits_asked n g k tolerance)) ≡ Ok f → (22 ≤ room) × (6 ≤ second)
      by (Ok tt) h = rooms-fit room second f (fits_asked n g k tolerance) h
      by (Err r) h = let z : ◌≡◌ {A = ℕ} 0 1 = cc in absurd (omega arith)

-- ---- stores

pub three_stores : (l : List ℤ) (at : ℕ) (a b c : ℤ) → set (set (set l at a) (at + 1) b) (at + 2) c ≡ sets l at (a ∷ b ∷ c ∷ [])
three_stores l at a b c =
    let e1 : at + 1 ≡ suc at = omega arith in
    let e2 : at + 2 ≡ suc (suc at) = omega arith in
    rw (e1, e2) refl

-- the parts of the elements one behind the other
pub elements-stored : (l : List ℤ) {a b c d e f m : List ℤ} (z : Elements) → 22 ≤ length l → a ≡ sets l 0 (four_of z.axis.x) → b ≡ sets a 4 (four_of z.axis.y)
    → c ≡ sets b 8 (three_of z.axis.d) → d ≡ sets c 11 (three_of z.penumbra.l) → e ≡ sets d 14 (three_of z.central.l)
    → f ≡ sets e 17 (three_of z.axis.mu) → m ≡ sets f 20 (z.penumbra.tanf ∷ z.central.tanf ∷ []) → m ≡ fields z ++ drop 22 l
elements-stored l z h ea eb ec ed ee ef em =
    em ∙ ap (λ (x : List ℤ). sets x 20 (z.penumbra.tanf ∷ z.central.tanf ∷ [])) (ef ∙ ap (λ (x : List ℤ). sets x 17 (three_of z.axis.mu))
    (ee ∙ ap (λ (x : List ℤ). sets x 14 (three_of z.central.l)) (ed ∙ ap (λ (x : List ℤ). sets x 11 (three_of z.penumbra.l))
    (ec ∙ ap (λ (x : List ℤ). sets x 8 (three_of z.axis.d)) (eb ∙ ap (λ (x : List ℤ). sets x 4 (four_of z.axis.y)) ea)))))
    ∙ sets-eq (fields z) l 0 h

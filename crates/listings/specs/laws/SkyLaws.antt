-- What an observer is told, part by part; and that the altitude is the horizon's.
use Rattle.std.specs.Prelude.{ℕ, suc, ◌≤◌, ◌<◌, ◌≡◌, refl, Bool, true, false, cond, List, [], ◌∷◌, ◌++◌, ℤ, pos, negsuc, nat_abs, ◌-ℤ◌, ◌≤ℤ◌, ◌<ℤ◌, replicate, Option, Ok, Result, Err}
use Rattle.std.proofs.Common.{sym, ap, subst, ◌∙◌, arith}
use Rattle.shadow.specs.declared.Second.{Second}
use Rattle.sheet_types.specs.declared.refusals.Refusal.{Refusal}
use Rattle.rounding.specs.Parts.{is_self, is_minus}
use Rattle.rounding.specs.laws.Order.{zs, <-parts, ≤ℤ_antisym}
use Rattle.requests.specs.declared.Occultation.{Occultation}
use Rattle.seconds.specs.OneSecond.{second_checked, second_answer}
use Rattle.horizon.specs.declared.Horizon.{Horizon}
use Rattle.horizon.specs.Horizon.{horizon_at, horizon_by, horizon_answer}
use Rattle.horizon.specs.laws.HorizonLaws.{altitude-within}
use Rattle.sheet_format.specs.declared.kinds.Entry.{Entry}
use Rattle.decimal_text.specs.Texts.{letters, Put}
use Rattle.decimal_text.specs.laws.TextLaws.{put_nil}
use Rattle.listing_lines.specs.declared.clock.Altitude.{Altitude}
use Rattle.listing_lines.specs.declared.clock.Altitude.TheVariants as A
use Rattle.listings.specs.declared.sky.View.{View}
use Rattle.listing_lines.specs.Clock.{shown_for}
use Rattle.listings.specs.Sky.{altitude_by, altitude_in, altitude_at, altitude_for, is_contact, seen_after, view_after, view_of, is_below, inside_in, inside_at, note_for, notes_of}

-- ---- what is seen, entry after entry

pub view_nil : (y : Option Occultation) (v : View) → view_of y v [] ≡ v
unfolding view_of
view_nil y v = refl

pub view_cons : (y : Option Occultation) (v : View) (e : Entry) (es : List Entry) → view_of y v (e ∷ es) ≡ view_of y (view_after v e (altitude_for y e)) es
unfolding view_of
view_cons y v e es = refl

-- ---- the altitude

-- one that was found is small
pub found_small : (o : Occultation) (τ : ℤ) (sines : List ℕ) (h : Horizon) → Ok h ≡ horizon_answer o τ sines → nat_abs h.altitude ≤ 900
unfolding horizon_answer
found_small o τ sines h e = by (second_checked o τ sines) e
  where
    by : (c : Result Unit Refusal) → Ok h ≡ horizon_by c o τ → nat_abs h.altitude ≤ 900
    by (Err r) e = let z : ◌≡◌ {A = ℕ} 0 1 = cc in absurd (omega arith)
    by (Ok tt) e = let q : h ≡ horizon_at o τ = cc in subst (λ (x : Horizon). nat_abs x.altitude ≤ 900) (sym q) (altitude-within o τ)

-- where the request is taken and the second is one that a window may have, it is that of the horizon
pub altitude-is : (o : Occultation) (τ : ℤ) → second_checked o τ (replicate 901 0) ≡ Ok tt → altitude_at o τ ≡ altitude_by (horizon_at o τ).altitude
unfolding altitude_at horizon_answer
altitude-is o τ e = ap (λ c. altitude_in (horizon_by c o τ)) e

-- of what was found with such a buffer
pub altitude-found : (o : Occultation) (τ : ℤ) (sines : List ℕ) → sines ≡ replicate 901 0 → (f : Result Horizon Refusal) → f ≡ horizon_answer o τ sines
    → altitude_in f ≡ altitude_at o τ
unfolding altitude_at
altitude-found o τ sines s f e = ap altitude_in (e ∙ ap (horizon_answer o τ) s)

-- by its sign
pub below-is : (z : ℤ) (n : ℕ) → z <ℤ pos 0 → pos n ≡ pos 0 -ℤ z → A.Below n ≡ altitude_by z
below-is (pos k) n h e = absurd (omega (arith, <-parts h))
below-is (negsuc k) n h e = ap A.Below (omega (arith, ap nat_abs (e ∙ opposed k)))
  where
    opposed : (k : ℕ) → pos 0 -ℤ negsuc k ≡ pos (suc k)
    opposed k =
        let s = (is_minus (is_self (pos 0)) (is_self (negsuc k))).is in
        ≤ℤ_antisym (omega (arith, zs, s)) (omega (arith, zs, s))

pub above-is : (z : ℤ) (n : ℕ) → pos 0 ≤ℤ z → n ≡ nat_abs z → A.Above n ≡ altitude_by z
above-is (pos k) n h e = ap A.Above e
above-is (negsuc k) n h e = absurd h.le

-- ---- an entry

module _ (v : View) (e : Entry) (x : Altitude) where
  pub view-contact : is_contact (shown_for e.kind e.a e.b) ≡ true → seen_after v x ≡ view_after v e x
  unfolding view_after
  view-contact h = rw h

  pub view-other : is_contact (shown_for e.kind e.a e.b) ≡ false → v ≡ view_after v e x
  unfolding view_after
  view-other h = rw h

-- ---- a second

pub inside_found : (o : Occultation) (τ : ℤ) (sines : List ℕ) → sines ≡ replicate 901 0 → (f : Result Second Refusal) → f ≡ second_answer o τ sines
    → inside_in f ≡ inside_at o τ
unfolding inside_at
inside_found o τ sines s f e = ap inside_in (e ∙ ap (second_answer o τ) s)

-- ---- a note

module _ (b : Bool) (text old : List ℕ) (at : ℕ) where
  pub note-holds : b ≡ true → (new : List ℕ) (r : ℕ) → Put old at text new r → Put old at (cond b text []) new r
  note-holds e new r p = rw e p

  pub note-not : b ≡ false → at < 18446744073709551616 → Put old at (cond b text []) old at
  note-not e h = rw e (put_nil old at h)

-- the three
pub notes_are : (o : Occultation) (v : View) (a b c : Bool) → a ≡ is_below v → b ≡ inside_at o o.window.first → c ≡ inside_at o o.window.last
    → cond a
    (note_for o.body (letters "note the Sun is below the horizon at every contact\n") (letters "note the star is below the horizon at every contact\n"))
    []
    ++ cond b
    (note_for o.body (letters "note the eclipse began before the window\n") (letters "note the occultation began before the window\n")) []
    ++ cond c
    (note_for o.body (letters "note the eclipse ends after the window\n") (letters "note the occultation ends after the window\n")) []
    ≡ notes_of o v
unfolding notes_of
notes_are o v a b c x y z = rw (x, y, z)

-- What follows an entry, put part by part.
use Rattle.std.specs.Prelude.{ℕ, ◌≤◌, ◌<◌, ◌≡◌, refl, true, false, List, [], ◌∷◌, ◌++◌, ℤ, pos, negsuc, ◌+ℤ◌, ◌≤ℤ◌, ◌<ℤ◌, length, Option, None, Some}
use Rattle.std.proofs.Common.{ap, ap₂, ◌∙◌, append_assoc, append-nil, le-leb}
use native.Mathlib.Omega.{arith}
use Rattle.std.proofs.Math.IntN.{nat_abs}
use Rattle.std.proofs.lemmas.Bool.{lt-leb}
use Rattle.rounding.specs.laws.Order.{<-parts, nat_abs_parts, nat_abs_le}
use Rattle.rounding.specs.Near.{floor_z}
use Rattle.rounding.specs.laws.Ring.{num, ◌⊕◌, v0, ring}
use Rattle.rounding.specs.Value.{Value}
use Rattle.sheet_format.specs.declared.kinds.Entry.{Entry}
use Rattle.sheet_format.specs.StoredSeconds.{second_of}
use Rattle.listing_lines.specs.declared.clock.TimeScale.{TimeScale}
use Rattle.calendar.specs.declared.Instant.{Instant}
use Rattle.decimal_text.specs.Texts.{letters, Put}
use Rattle.decimal_text.specs.laws.TextLaws.{put_nil}
use Rattle.decimal_text.specs.laws.RowLaws.{joined}
use Rattle.listing_lines.specs.Lines.{text_of, end_for, line_of, lines_of}
use Rattle.listing_lines.specs.declared.clock.Seconds.{Seconds}
use Rattle.listing_lines.specs.declared.clock.Seconds.TheVariants.{Moment, Contact}
use Rattle.listing_lines.specs.declared.clock.Altitude.{Altitude}
use Rattle.listing_lines.specs.declared.clock.Altitude.TheVariants as A
use Rattle.listing_lines.specs.declared.clock.Shown.{Shown}
use Rattle.listing_lines.specs.Times.{time_text}
use Rattle.listing_lines.specs.Clock.{offset_of, time_in, known, shows, name_of, times_in, scale_text, shown_for, shown_text, behind, timed_text, tenths_text, altitude_text, timed_line, timed_lines}

-- the times of an entry: what is added before rounding down is 50, or 0 and 99
module _ (shown : TimeScale) (i : Instant) (d : ℤ) (s : Seconds) (old : List ℕ) (at : ℕ) where
  abbrev rounded : ℕ → ℤ → List ℕ
  rounded stored more = letters " " ++ time_text (floor_z (time_in shown i d (second_of stored) +ℤ more) (pos 100))

  pub times-of-moment : {k : ℕ} → s ≡ Moment k → (new : List ℕ) (r : ℕ) → Put old at (rounded k (pos 50)) new r → Put old at (times_in shown i d s) new r
  times-of-moment q new r p = rw q p

  pub times-of-contact : {f : ℕ} (t : ℕ) → s ≡ Contact f t → (mid new : List ℕ) (r q : ℕ) → length old < 18446744073709551616
      → Put old at (rounded f (pos 0)) mid r → Put mid r (rounded t (pos 99)) new q → Put old at (times_in shown i d s) new q
  times-of-contact {f} t e mid new r q l p w =
      let n = time_in shown i d (second_of f) in
      let z : n +ℤ pos 0 ≡ n = ring (n ∷ []) (v0 ⊕ num 0) v0 tt in
      rw (e, append_assoc) (joined l (rw z at p) w)

-- a scale, where it is shown
module _ (shown : TimeScale) (i : Instant) (d : ℤ) (s : Seconds) (old : List ℕ) (at : ℕ) where
  pub scale-shown : shows i.scale shown d (offset_of i) ≡ true → (new : List ℕ) (r : ℕ)
      → Put old at (letters " " ++ name_of shown ++ times_in shown i d s) new r → Put old at (scale_text shown i d s) new r
  unfolding scale_text
  scale-shown b new r p = rw b p

  pub scale-hidden : shows i.scale shown d (offset_of i) ≡ false → at < 18446744073709551616 → Put old at (scale_text shown i d s) old at
  unfolding scale_text
  scale-hidden b h = rw b (put_nil old at h)

-- what follows an entry
pub behind-shown : (i : Instant) (d : ℤ) (e : Entry) (x : Shown) → x ≡ shown_for e.kind e.a e.b → (y : Shown) → x ≡ y
    → (old : List ℕ) (at : ℕ) (new : List ℕ) (r : ℕ) → Put old at (shown_text i d y) new r → Put old at (behind i d e) new r
unfolding behind
behind-shown i d e x q y w old at new r p = rw (← q, w) p

-- the text by the reference
module _ (k : Option Instant) (d : ℤ) (e : Entry) (old : List ℕ) (at : ℕ) (new : List ℕ) (r : ℕ) where
  pub text-off : k ≡ None → Put old at (text_of e) new r → Put old at (timed_text k d e) new r
  unfolding timed_text
  text-off q p = rw q p

  pub text_at : (i : Instant) → k ≡ Some i → Put old at (text_of e ++ behind i (known d) e) new r → Put old at (timed_text k d e) new r
  unfolding timed_text
  text_at i q p = rw q p

-- an altitude
module _ (x : Altitude) (old : List ℕ) (at : ℕ) where
  pub altitude-none : x ≡ A.Nothing → at < 18446744073709551616 → Put old at (altitude_text x) old at
  unfolding altitude_text
  altitude-none q h = rw q (put_nil old at h)

  pub altitude-up : (n : ℕ) → x ≡ A.Above n → (new : List ℕ) (r : ℕ) → Put old at (letters " alt " ++ tenths_text n) new r → Put old at (altitude_text x) new r
  unfolding altitude_text
  altitude-up n q new r p = rw q p

  pub altitude-down : (n : ℕ) → x ≡ A.Below n → (new : List ℕ) (r : ℕ) → Put old at (letters " alt -" ++ tenths_text n ++ letters " below the horizon") new r
      → Put old at (altitude_text x) new r
  unfolding altitude_text
  altitude-down n q new r p = rw q p

-- the lines, as a loop puts them
pub lines-nil : (k : Option Instant) (d : ℤ) (x : Entry → Altitude) → timed_lines k d x [] ≡ []
unfolding timed_lines
lines-nil k d x = refl

pub lines_cons : (k : Option Instant) (d : ℤ) (x : Entry → Altitude) (e : Entry) (es : List Entry)
    → timed_lines k d x (e ∷ es) ≡ timed_line k d (x e) e ++ timed_lines k d x es
unfolding timed_lines
lines_cons k d x e es = refl

-- with no clock and no altitude they are document 01's
line-off : (d : ℤ) (e : Entry) → timed_line None d A.Nothing e ≡ line_of e
unfolding timed_line timed_text altitude_text line_of
line-off d e = ap (λ t. t ++ end_for e.kind) (append-nil (text_of e))

pub lines-off : (d : ℤ) (x : Entry → Altitude) → ((e : Entry) → x e ≡ A.Nothing) → (es : List Entry) → timed_lines None d x es ≡ lines_of es
unfolding timed_lines lines_of
lines-off d x h [] = refl
lines-off d x h (e ∷ es) = ap₂ ◌++◌ (ap (λ y. timed_line None d y e) (h e) ∙ line-off d e) (lines-off d x h es)

-- ---- a ΔT that a request can have

module _ (d : ℤ) where
  known_out : 20000 < nat_abs d → Value (known d) 20000 (pos 0)
  unfolding known
  known_out h = rw (lt-leb (nat_abs d) 20000 h) (record { value = refl; size = omega arith })

  pub known-below : d <ℤ negsuc 19999 → Value (known d) 20000 (pos 0)
  known-below h = known_out (omega (arith, <-parts h, nat_abs_parts d))

  pub known-above : pos 20000 <ℤ d → Value (known d) 20000 (pos 0)
  known-above h = known_out (omega (arith, <-parts h, nat_abs_parts d))

  pub known-within : negsuc 19999 ≤ℤ d → d ≤ℤ pos 20000 → Value (known d) 20000 d
  unfolding known
  known-within h g =
      let k : nat_abs d ≤ 20000 = nat_abs_le d h g in
      rw (le-leb (nat_abs d) 20000 k) (record { value = refl; size = k })

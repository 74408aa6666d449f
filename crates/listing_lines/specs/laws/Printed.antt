-- A printed time, read back: its parts are those of a clock, and they and the day determine the tenth. Reading any
-- time that is printed gives the tenth it is of.
use Rattle.std.specs.Prelude.{ℕ, zero, suc, ◌+◌, ◌-◌, ◌*◌, ◌/◌, ◌%◌, ◌<◌, ◌≡◌, refl, [], ◌∷◌, ◌++◌, ℤ, negsuc, neg_ℤ, ◌+ℤ◌, ◌-ℤ◌, ◌*ℤ◌, ◌≤ℤ◌, ◌<ℤ◌, length, take}
use Rattle.std.proofs.Common.{sym, ap₂, ◌∙◌, length-append, take_at}
use Rattle.std.proofs.Math.Path.{ap}
use native.Mathlib.Omega.{arith}
use Rattle.std.proofs.Math.IntN.{pos}
use Rattle.rounding.specs.laws.Floor.{floor-is}
use Rattle.rounding.specs.Parts.{pos_p, sum, is_self, is_minus}
use Rattle.rounding.specs.laws.Order.{zs, nonneg}
use Rattle.rounding.specs.laws.Ring.{◌⊕◌, ◌⊖◌, v0, v1, ring}
use Rattle.decimal_text.specs.Decimals.{digit, decimal, signed, read_after}
use Rattle.decimal_text.specs.laws.DecimalLaws.{read_back}
use Rattle.decimal_text.specs.Texts.{letters}
use Rattle.listing_lines.specs.laws.Reading.{two_at, read_day, read_time}
use Rattle.listing_lines.specs.Times.{two, seconds_text, of_day_text, day_text, time_text, day_of, tenths_of}

-- ---- what is claimed

-- n tenths are printed as these parts and a day
pub record Parts (n : ℤ) : Type 0 where
  pub hours : ℕ
  pub minutes : ℕ
  pub seconds : ℕ
  pub tenth : ℕ
  pub hours_below : hours < 24
  pub minutes_below : minutes < 60
  pub seconds_below : seconds < 60
  pub tenth_below : tenth < 10
  pub text : time_text n
      ≡ two hours ++ letters ":" ++ two minutes ++ letters ":" ++ two seconds ++ letters "." ++ (digit tenth ∷ []) ++ day_text (day_of n)
  pub value : n ≡ pos (((hours * 60 + minutes) * 60 + seconds) * 10 + tenth) +ℤ pos 864000 *ℤ day_of n

abbrev pub ReadBack : Type 0
ReadBack = (n : ℤ) → read_time (time_text n) ≡ n

-- ---- the parts

module _ (n : ℤ) where
  -- the tenths of the day
  in-day : (pos (tenths_of n) ≡ n -ℤ pos 864000 *ℤ day_of n) × (tenths_of n < 864000)
  in-day =
      let f = floor-is n (pos 864000) (omega (arith, zs)) in
      let m = (is_minus (is_self n) (is_self (pos 864000 *ℤ day_of n))).is in
      let rest = n -ℤ pos 864000 *ℤ day_of n in
      let low : pos 0 ≤ℤ rest = omega (arith, zs, f.low, m) in
      let high : rest <ℤ pos 864000 = omega (arith, zs, f.high, m, (sum (pos 864000 *ℤ day_of n) (pos 864000)).is) in
      (sym (whole rest low), omega (arith, zs, nonneg low, high))
    where
      whole : (z : ℤ) → pos 0 ≤ℤ z → z ≡ pos (pos_p z)
      whole (pos k) h = refl
      whole (negsuc k) h = absurd h.le

  of_parts : n ≡ pos (tenths_of n) +ℤ pos 864000 *ℤ day_of n
  of_parts = ring (n ∷ (pos 864000 *ℤ day_of n) ∷ []) v0 (v0 ⊖ v1 ⊕ v1) tt ∙ ap (λ z. z +ℤ pos 864000 *ℤ day_of n) (sym in-day.0)

  pub parts : Parts n
  unfolding time_text of_day_text seconds_text
  parts =
      let t = tenths_of n in
      let h = in-day.1 in
      let e : t ≡ (((t / 10 / 3600) * 60 + t / 10 / 60 % 60) * 60 + t / 10 % 60) * 10 + t % 10 = omega arith in
      record {
        hours = t / 10 / 3600;
        minutes = t / 10 / 60 % 60;
        seconds = t / 10 % 60;
        tenth = t % 10;
        hours_below = omega arith;
        minutes_below = omega arith;
        seconds_below = omega arith;
        tenth_below = omega arith;
        text = refl;
        value = of_parts ∙ ap (λ k. pos k +ℤ pos 864000 *ℤ day_of n) e;
      }

-- ---- read back

-- a number with a letter behind it
number-before : (k x : ℕ) → read_after 0 (take (length (decimal k ++ (x ∷ [])) - 1) (decimal k ++ (x ∷ []))) ≡ k
number-before k x =
    let l : length (decimal k) ≡ length (decimal k ++ (x ∷ [])) - 1 = omega (arith, length-append (decimal k) (x ∷ [])) in
    ap (read_after 0) (take_at (decimal k) (x ∷ []) _ l) ∙ read_back k

day_back : (d : ℤ) → read_day (day_text d) ≡ d
unfolding day_text signed
day_back (pos zero) = refl
day_back (pos (suc k)) = ap pos (number-before (suc k) 100)
day_back (negsuc k) = ap (λ n. neg_ℤ (pos n)) (number-before (suc k) 100)

two_back : (k : ℕ) → k < 100 → two_at (two k) 0 ≡ k
two_back k h = omega arith

pub read_time_back : ReadBack
unfolding read_time
read_time_back n =
    let p = parts n in
    let a = two_back p.hours (omega (arith, p.hours_below)) in
    let b = two_back p.minutes (omega (arith, p.minutes_below)) in
    let c = two_back p.seconds (omega (arith, p.seconds_below)) in
    let t : digit p.tenth - 48 ≡ p.tenth = omega arith in
    let e = ap₂ (λ x y. x * 10 + y) (ap₂ (λ x y. x * 60 + y) (ap₂ (λ x y. x * 60 + y) a b) c) t in
    ap read_time p.text ∙ ap₂ (λ k d. pos k +ℤ pos 864000 *ℤ d) e (day_back (day_of n)) ∙ sym p.value

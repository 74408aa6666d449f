-- `listing_lines::times_of_day::put_time` meets its contract: what it divides is the thousandths and 100,000 days, a
-- natural number (`time_up`).
use mathlib.Core.Path.{◌≡◌, sym, ap, ◌∙◌}
use mathlib.Core.List.{[], ◌∷◌, ◌++◌}
use Prim.Native.Nat.{ℕ, ◌/◌, ◌%◌, ◌≤◌}
use native.Mathlib.Omega.{arith}
use lib.IntN.{pos, nat_abs, ◌+ℤ◌, ◌-ℤ◌}
use lib.Signed.{◌≤ℤ◌}
use Rattle.rounding.specs.Near.{floor_z}
use Rattle.rounding.specs.Parts.{sum, opposite}
use Rattle.rounding.specs.laws.Order.{zs, neg_nat_abs, fits64, nonneg_nat_abs}
use Rattle.rounding.specs.laws.Code.{Code, arg, lit, add, sub, run, Within, raw, whole, ends, ◌▹◌, fits, runs, within, unsigned, count-is, count-size}
use Rattle.decimal_text.specs.laws.RowLaws.{put_as, joined}
use Rattle.listing_lines.specs.Times.{of_day_text, day_text, time_text}
use Rattle.listing_lines.specs.laws.TimeLaws.{time_up}
use borrow.Author.Rules.{rules}
use Rattle.listing_lines.proofs.times_of_day.put_time.Statement.{statement}
use Rattle.listing_lines.proofs.times_of_day.put_time.Tie as tie

abbrev up : Code
up = add (arg 0) (lit (pos 8640000000000))

abbrev down : Code
down = sub (arg 0) (lit (pos 100000))

module _ (s : tie.Start) where
  bounds : Within (whole s.args.n ∷ []) (8600000000000 ∷ [])
  bounds = s.requires ▹ ends

  not_below : pos 0 ≤ℤ (s.args.n +ℤ pos 8640000000000)
  not_below = omega (arith, zs, neg_nat_abs s.args.n s.requires, (sum s.args.n (pos 8640000000000)).is, (opposite (pos 8600000000000)).is)

  -- what is divided
  abbrev divided : ℕ
  divided = nat_abs (run (whole s.args.n ∷ []) up)

  shifted : s.args.n +ℤ pos 8640000000000 ≡ pos divided
  shifted = nonneg_nat_abs _ not_below ∙ ap (λ z. pos (nat_abs z)) (sym (runs bounds up tt))

  days : divided / 100 / 864000 ≤ 17240000000000
  days = omega (arith, within bounds up 17240000000000 tt)

  day-bounds : Within (raw (divided / 100 / 864000) ∷ []) (17240000000000 ∷ [])
  day-bounds = count-size (divided / 100 / 864000) days tt ▹ ends

  text : of_day_text (divided / 100 % 864000) ++ day_text (run (raw (divided / 100 / 864000) ∷ []) down)
      ≡ time_text (floor_z s.args.n (pos 100))
  text =
      ap (λ d. of_day_text (divided / 100 % 864000) ++ day_text d)
      (runs day-bounds down tt ∙ ap (λ z. z -ℤ pos 100000) (count-is (divided / 100 / 864000) days tt))
      ∙ sym (time_up s.args.n divided shifted)

cast-tenths : tie.Need-overflow_cast-tenths
cast-tenths c = unsigned (bounds c.before) up tt (not_below c.before)

returns : tie.Need-returns
returns c = put_as _ _ _ _ _ _ (text c.before.before.before.before.before.before.before.before.before) (joined (omega arith) c.put_of_day-next.ensures c.put_day.ensures)

pub put_time_spec : {M : Type 1} → statement M
put_time_spec =
    tie.close
    (tie.spec (λ c. fits (bounds c.before) up tt) cast-tenths
    (λ c. fits64 _ (omega (arith, days c.before))) (λ c. fits (day-bounds c.before) down tt)
    (λ c κs. search rules) (λ c κs. search rules) (λ c. search rules) returns)

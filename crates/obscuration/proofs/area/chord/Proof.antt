-- `obscuration::area::chord` meets its contract: 0 where the difference of the squares is below 0, and its root
-- elsewhere, wherever that is looked for from.
use mathlib.Core.Path.{◌≡◌, sym, ap, ◌∙◌}
use mathlib.Core.List.{[], ◌∷◌}
use Prim.Native.Nat.{ℕ, ◌≤◌}
use native.Mathlib.Omega.{arith}
use lib.Dec.{lit≤}
use lib.IntN.{ℤ, pos, nat_abs, ◌-ℤ◌, ◌*ℤ◌}
use lib.Signed.{◌≤ℤ◌}
use Rattle.rounding.specs.laws.Order.{<ℤ-≤}
use Rattle.rounding.specs.laws.Code.{Code, arg, lit, sub, mul, Within, whole, ends, ◌▹◌, fits, run, runs, unsigned, taken-<, left-<}
use Rattle.rounding.specs.Root.{root}
use Rattle.obscuration.specs.Share.{chord}
use Rattle.obscuration.specs.laws.StripLaws.{chord-size, chord-none, gap_small, chord_on}
use Rattle.obscuration.proofs.area.chord.Statement.{statement}
use Rattle.obscuration.proofs.area.chord.Tie as tie

bounds : (c : tie.Start) → Within (whole c.args.radius ∷ whole c.args.x ∷ []) (40000000 ∷ 1100000000 ∷ [])
bounds c = c.requires.0 ▹ c.requires.1 ▹ ends

abbrev square : Code
square = sub (mul (arg 0) (arg 0)) (mul (arg 1) (arg 1))

returns : tie.Need-returns-then-square-lt0
returns c =
    let a = c.args in
    let w = bounds c.before in
    (sym (chord-none a.radius a.x (<ℤ-≤ (taken-< w square (lit (pos 0)) tt c.if-square-lt0.true))), omega arith)

-- on the disc
module _ (c : tie.Else-square-lt0) where
  abbrev r : ℤ
  r = c.args.radius

  abbrev x : ℤ
  x = c.args.x

  abbrev n : ℕ
  n = nat_abs (run (whole r ∷ whole x ∷ []) square)

  on : pos 0 ≤ℤ (r *ℤ r -ℤ x *ℤ x)
  on = left-< (bounds c.before) square (lit (pos 0)) tt c.if-square-lt0.false

  small : n ≤ 1600000000000000
  small = omega (arith, ap nat_abs (runs (bounds c.before) square tt), gap_small r x c.requires.0 on)

  found : {h : ℕ} → h ≡ root n → (h ≡ chord r x) × (h ≤ 40000000)
  found f =
      let e = f ∙ ap (λ (z : ℤ). root (nat_abs z)) (runs (bounds c.before) square tt) ∙ chord_on r x on in
      (e, omega (arith, e, chord-size r x c.requires.0, c.requires.0))

cast-n : tie.Need-overflow_cast-n
cast-n c = unsigned (bounds c.before) square tt (on c)

returns-2 : tie.Need-returns-then-beside-lt1000000
returns-2 c = found c.before.before c.root_from.ensures

root-from-requires-2 : tie.Need-root_from-requires-2
root-from-requires-2 c κs = (c.if-beside-lt1000000.false, c.requires.2, small c.before)

returns-3 : tie.Need-returns
returns-3 c = found c.before.before c.root_from-2.ensures

pub chord_spec : {M : Type 1} → statement M
chord_spec =
    tie.close
    (tie.spec (λ c. fits (bounds c) (mul (arg 0) (arg 0)) tt) (λ c. fits (bounds c) (mul (arg 1) (arg 1)) tt)
    (λ c. fits (bounds c) square tt) returns cast-n (λ c κs. (lit≤ tt, lit≤ tt, small c.before)) returns-2
    root-from-requires-2 returns-3)

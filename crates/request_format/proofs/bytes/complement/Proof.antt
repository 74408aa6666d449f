-- `request_format::bytes::complement` meets its contract: below zero the sum with `whole` is the complement, from zero
-- on the number is its own; both are below 2^32.
use mathlib.Core.Path.{◌≡◌, sym, ap, ◌∙◌, subst}
use mathlib.Core.List.{[], ◌∷◌}
use Prim.Native.Nat.{◌≤◌}
use native.Mathlib.Omega.{arith}
use borrow.Author.Rules.{rules}
use lib.Dec.{T}
use lib.IntN.{ℤ, pos, nat_abs, ◌+ℤ◌}
use lib.Signed.{non_neg}
use mir.Syntax.{w32, w64}
use mir.Val.{Fits, to_z, of_z}
use Rattle.rounding.specs.laws.Code.{Code, arg, lit, add, run, Within, whole, raw, ends, ◌▹◌, fits, runs, taken-<, left-<, count-is, count-size}
use Rattle.request_format.specs.Layout.{complement}
use Rattle.request_format.specs.laws.NumberLaws.{complement_below, complement_above, complement_small}
use Rattle.request_format.proofs.bytes.complement.Statement.{statement}
use Rattle.request_format.proofs.bytes.complement.Tie as tie

bounds : (c : tie.Start) → Within (whole c.args.n ∷ raw c.args.whole ∷ []) (4294967296 ∷ 4294967296 ∷ [])
bounds c = let h : nat_abs c.args.n ≤ 4294967296 = omega arith in h ▹ count-size c.args.whole c.requires.1 tt ▹ ends

abbrev shifted : Code
shifted = add (arg 0) (arg 1)

-- a number that is cast to a u32
cast : (c : tie.Start) (z : ℤ) → z ≡ pos (complement c.args.whole c.args.n) → T (non_neg z) × Fits w32 (nat_abs z)
cast c z e =
    subst (λ (y : ℤ). T (non_neg y) × Fits w32 (nat_abs y)) (sym e)
    (tt, record { fits = omega (arith, complement_small c.args.n c.args.whole c.requires.0) })

shifted-is : (c : tie.Then-n-lt0) → run (whole c.args.n ∷ raw c.args.whole ∷ []) shifted
    ≡ pos (complement c.args.whole c.args.n)
shifted-is c =
    let s = c.before in
    runs (bounds s) shifted tt
    ∙ ap (λ (y : ℤ). s.args.n +ℤ y) (count-is s.args.whole s.requires.1 tt)
    ∙ complement_below s.args.n s.args.whole (taken-< (bounds s) (arg 0) (lit (pos 0)) tt c.if-n-lt0.true) s.requires.0

itself : (c : tie.Else-n-lt0) → to_z w64 (of_z w64 c.args.n) ≡ pos (complement c.args.whole c.args.n)
itself c =
    let s = c.before in
    runs (bounds s) (arg 0) tt ∙ complement_above s.args.n s.args.whole (left-< (bounds s) (arg 0) (lit (pos 0)) tt c.if-n-lt0.false)

returns : tie.Need-returns-then-n-lt0
returns c = ap nat_abs (shifted-is c)

returns-2 : tie.Need-returns
returns-2 c = ap nat_abs (itself c)

pub complement_spec : {M : Type 1} → statement M
complement_spec =
    tie.close (tie.spec (λ c. search rules) (λ c. fits (bounds c.before) shifted tt) (λ c. cast c.before _ (shifted-is c)) returns (λ c. cast c.before _ (itself c)) returns-2)

-- `shadow::magnitude` meets its contract: one case where central is inside and one elsewhere, each a share of L1+L2,
-- which is above 0.
use mathlib.Core.Path.{◌≡◌, refl, sym, ap, ap₂, ◌∙◌, subst}
use mathlib.Core.List.{[], ◌∷◌}
use Prim.Native.Nat.{ℕ, zero, suc, ◌≤◌}
use native.Mathlib.Omega.{arith}
use lib.Dec.{T}
use lib.IntN.{ℤ, pos, nat_abs, ◌+ℤ◌, ◌-ℤ◌}
use lib.Signed.{◌<ℤ◌}
use Rattle.sheet_types.specs.States.{State, inside, outside, state_of}
use Rattle.rounding.specs.laws.Code.{Code, arg, add, sub, Within, whole, ends, ◌▹◌, fits, runs, within, unsigned, read_back}
use Rattle.rounding.specs.Root.{root}
use Rattle.rounding.specs.laws.RootLaws.{root_below}
use Rattle.shadow_geometry.specs.Magnitude.{millionths, is_inside, magnitude}
use Rattle.shadow_geometry.proofs.laws.MagnitudeLaws.{magnitude_inside, magnitude_else, magnitude-limit, sum-positive}
use Rattle.shadow.proofs.magnitude.Statement.{statement}
use Rattle.shadow.proofs.magnitude.Tie as tie

bounds : (c : tie.Start) → Within (whole c.args.l1 ∷ whole c.args.l2 ∷ whole c.args.m ∷ []) (600000000 ∷ 600000000 ∷ 1000000000000000000 ∷ [])
bounds c = c.requires.0.0 ▹ c.requires.0.1 ▹ c.requires.0.2 ▹ ends

abbrev less : Code
less = sub (arg 0) (arg 1)

abbrev both : Code
both = add (arg 0) (arg 1)

not-inside : (n : ℕ) → (n ≡ 1 → ⊥) → state_of n ≡ inside → ⊥
not-inside zero h e = subst (λ (w : State). T (is_inside w)) (sym e) tt
not-inside (suc zero) h e = h refl
not-inside (suc (suc n)) h e = subst (λ (w : State). T (is_inside w)) (sym e) tt

-- a root of at most 10^18 is at most 10^9
root-small : (n : ℕ) → n ≤ 1000000000000000000 → root n ≤ 1000000000
root-small n h = root_below n 1000000000 (omega arith) (omega arith)

module _ (c : tie.Start) where
  abbrev l1 : ℤ
  l1 = c.args.l1

  abbrev l2 : ℤ
  l2 = c.args.l2

  abbrev m : ℤ
  m = c.args.m

  sum-above : pos 0 <ℤ (l1 +ℤ l2)
  sum-above = sum-positive l1 l2 c.requires.1.0 c.requires.1.1

  limit : (w : State) → magnitude w l1 l2 m ≤ 1300000
  limit w = magnitude-limit l1 l2 c.requires.1.0 c.requires.1.1 w m

  limit-inside : millionths (l1 -ℤ l2) (l1 +ℤ l2) ≤ 1300000
  limit-inside = subst (λ (k : ℕ). k ≤ 1300000) (magnitude_inside l1 l2 m) (limit inside)

  limit-else : millionths (l1 -ℤ pos (root (nat_abs m))) (l1 +ℤ l2) ≤ 1300000
  limit-else = subst (λ (k : ℕ). k ≤ 1300000) (magnitude_else outside l1 l2 m (not-inside 0 (λ h. omega arith))) (limit outside)

-- root(M), and L1 less it
distance : (c : tie.After-root-distance) → c.root-distance.result ≡ root (nat_abs c.args.m)
distance c = c.root-distance.ensures ∙ ap (λ (z : ℤ). root (nat_abs z)) (read_back c.args.m c.requires.0.2 tt)

after : (c : tie.After-root-distance)
    → Within (whole (pos c.root-distance.result) ∷ whole c.args.l1 ∷ whole c.args.l2 ∷ [])
    (1000000000 ∷ 600000000 ∷ 600000000 ∷ [])
after c =
    let p = c.requires.0 in
    let h : c.root-distance.result ≤ 1000000000 = omega (arith, distance c, root-small (nat_abs c.args.m) p.2) in
    h ▹ p.0 ▹ p.1 ▹ ends

abbrev short : Code
short = sub (arg 1) (arg 0)

abbrev sum : Code
sum = add (arg 1) (arg 2)

share-requires : tie.Need-share-requires
share-requires c κs =
    let w = bounds c.before in (
      within w less 2000000000 tt,
      within w both 2000000000 tt,
      rw (runs w both tt) (sum-above c.before),
      rw (runs w less tt, runs w both tt)
          (limit-inside c.before),
    )

returns : tie.Need-returns-then-central-eq1
returns c =
    let a = c.args in
    let w = bounds c.before.before in
    let e : c.share.result ≡ magnitude (state_of a.central) a.l1 a.l2 a.m =
    c.share.ensures ∙ ap₂ millionths (runs w less tt) (runs w both tt) ∙ sym (magnitude_inside a.l1 a.l2 a.m)
    ∙ ap (λ (n : ℕ). magnitude (state_of n) a.l1 a.l2 a.m) (sym c.if-central-eq1.true) in
    (e, omega (arith, e, limit c.before.before (state_of a.central)))

cast-root : tie.Need-overflow_cast-m
cast-root c = unsigned (bounds c.before) (arg 2) tt c.requires.0.3

share-requires-2 : tie.Need-share-requires-2
share-requires-2 c κs =
    let w = after c in
    let s = c.before.before in
    (within w short 2000000000 tt, within w sum 2000000000 tt, rw (runs w sum tt) (sum-above s), rw (runs w short tt, runs w sum tt, distance c) (limit-else s))

returns-2 : tie.Need-returns
returns-2 c =
    let a = c.args in
    let w = after c.before in
    let e : c.share-2.result ≡ magnitude (state_of a.central) a.l1 a.l2 a.m =
    c.share-2.ensures ∙ ap₂ millionths (runs w short tt) (runs w sum tt)
    ∙ ap (λ (n : ℕ). millionths (a.l1 -ℤ pos n) (a.l1 +ℤ a.l2)) (distance c.before)
    ∙ sym (magnitude_else (state_of a.central) a.l1 a.l2 a.m (not-inside a.central c.if-central-eq1.false)) in
    (e, omega (arith, e, limit c.before.before.before (state_of a.central)))

pub magnitude_spec : {M : Type 1} → statement M
magnitude_spec =
    tie.close
    (tie.spec (λ c. fits (bounds c) both tt) (λ c. fits (bounds c.before) less tt) share-requires returns
    cast-root (λ c κs. tt) (λ c. fits (after c) (arg 0) tt) (λ c. fits (after c) short tt) share-requires-2
    returns-2)

-- `adaptive_sampling::partial::nearer` meets its contract: the square of the root and 1 is at least M.
use mathlib.Core.Path.{◌≡◌, refl, sym, ap, subst, ◌∙◌}
use mathlib.Core.List.{[], ◌∷◌}
use mathlib.Core.Logic.{inl, inr}
use Prim.Native.Nat.{ℕ, ◌+◌, ◌≤◌}
use lib.IntN.{ℤ, pos, nat_abs, ◌*ℤ◌}
use lib.Signed.{◌≤ℤ◌}
use Rattle.rounding.specs.Root.{IsRoot, root}
use Rattle.rounding.specs.laws.RootLaws.{root_is, root_below}
use Rattle.rounding.specs.laws.Order.{≤ℤ_trans, le_nat_abs, parts-≤}
use Rattle.adaptive_sampling.specs.declared.partial.Tally.{Tally}
use Rattle.adaptive_sampling.specs.Kept.{Approached}
use Rattle.rounding.specs.laws.Code.{arg, mul, Within, whole, raw, ends, ◌▹◌, fits, unsigned, count-size, read_back}
use native.Mathlib.Omega.{arith}
use borrow.Author.Rules.{rules}
use Rattle.adaptive_sampling.proofs.partial.nearer.Statement.{statement}
use Rattle.adaptive_sampling.proofs.partial.nearer.Tie as tie

bounds : (c : tie.Start) → Within (raw c.args.t.near ∷ whole c.args.m ∷ []) (1000000001 ∷ 1000000000000000000 ∷ [])
bounds c = count-size c.args.t.near c.requires.0 tt ▹ c.requires.1 ▹ ends

root-is-found : (c : tie.After-root-near) → c.root-near.result ≡ root (nat_abs c.args.m)
root-is-found c =
    let s = c.before.before.before.before.before in
    c.root-near.ensures ∙ ap (λ (z : ℤ). root (nat_abs z)) (read_back s.args.m s.requires.1 tt)

root-small : (c : tie.After-root-near) → c.root-near.result ≤ 1000000000
root-small c =
    let s = c.before.before.before.before.before in
    omega (arith, root-is-found c, root_below (nat_abs s.args.m) 1000000000 (omega (arith, s.requires.1)) (omega (arith, s.requires.1)))

reaches : (m : ℤ) (r : ℕ) → nat_abs m ≤ 1000000000000000000 → r ≡ root (nat_abs m) → m ≤ℤ (pos (r + 1) *ℤ pos (r + 1))
reaches m r h e =
    let i : IsRoot (nat_abs m) r = subst (IsRoot (nat_abs m)) (sym e) (root_is (nat_abs m) (omega arith)) in
    ≤ℤ_trans (le_nat_abs m {m = nat_abs m} (omega arith)) (parts-≤ (omega (arith, i.high)))

same : (t : Tally) (m : ℤ) → Approached t m t
same t m = record { filled = refl; best = refl; least = refl; which = inl refl }

mul-if1 : tie.Need-overflow_mul-n
mul-if1 c = fits (bounds c.before) (mul (arg 0) (arg 0)) tt

returns : tie.Need-returns-then-n-m
returns c = same c.args.t c.args.m

cast-root : tie.Need-overflow_cast-m
cast-root c = let s = c.before.before.before.before in unsigned (bounds s) (arg 1) tt s.requires.2

add-near : tie.Need-overflow_add-near
add-near c = record { fits = omega (arith, root-small c) }

returns-2 : tie.Need-returns-then-t-near
returns-2 c = let s = c.before.before.before.before.before.before.before in same s.args.t s.args.m

returns-3 : tie.Need-returns
returns-3 c =
    let x = c.before.before in
    let s = x.before.before.before.before.before in
    record {
      filled = refl;
      best = refl;
      least = read_back s.args.t.least s.requires.3 tt;
      which = inr (omega (arith, c.if-t-near.false), reaches s.args.m x.root-near.result s.requires.1 (root-is-found x));
    }

pub nearer_spec : {M : Type 1} → statement M
nearer_spec = tie.close (tie.spec (λ c. search rules) mul-if1 returns cast-root (λ c κs. search rules) add-near returns-2 returns-3)

-- `exclusion_test::distance` meets its contract: what `root` promises. Assumes nothing.
use mathlib.Core.Path.{◌≡◌, ap, ◌∙◌}
use mathlib.Core.List.{[], ◌∷◌}
use Prim.Native.Nat.{ℕ, ◌≤◌}
use native.Mathlib.Omega.{arith}
use lib.IntN.{ℤ, pos, negsuc, nat_abs}
use lib.Signed.{◌≤ℤ◌}
use Rattle.rounding.specs.laws.Order.{parts-≤}
use Rattle.rounding.specs.Root.{root}
use Rattle.rounding.specs.laws.RootLaws.{root_is, root_below}
use Rattle.rounding.specs.laws.Code.{arg, Within, whole, ends, ◌▹◌, fits, unsigned, read_back}
use Rattle.exclusion_test.specs.Passed.{Distance}
use Rattle.exclusion_test.proofs.distance.Statement.{statement}
use Rattle.exclusion_test.proofs.distance.Tie as tie

bounds : (c : tie.Start) → Within (whole c.args.m ∷ []) (1000000000000000000 ∷ [])
bounds c = c.requires.0 ▹ ends

root-small : (n : ℕ) → n ≤ 1000000000000000000 → root n ≤ 1000000000
root-small n h = root_below n 1000000000 (omega arith) (omega arith)

distance-of : (m : ℤ) → nat_abs m ≤ 1000000000000000000 → pos 0 ≤ℤ m → (r : ℤ) → r ≡ pos (root (nat_abs m)) → Distance m r
distance-of (pos n) h l r e =
    let i = root_is n (omega arith) in
    rw e (record { nonneg = parts-≤ (omega arith); low = parts-≤ (omega (arith, i.low)); high = parts-≤ (omega (arith, i.high)); size = root-small n h })
distance-of (negsuc n) h l r e = absurd l.le

found : (c : tie.After-root) → c.root.result ≡ root (nat_abs c.args.m)
found c = c.root.ensures ∙ ap (λ (z : ℤ). root (nat_abs z)) (read_back c.args.m c.requires.0 tt)

found_small : (c : tie.After-root) → c.root.result ≤ 1000000000
found_small c = omega (arith, found c, root-small (nat_abs c.args.m) c.requires.0)

cast-result : tie.Need-overflow_cast-result
cast-result c = fits (after c) (arg 0) tt
  where
    after : (c : tie.After-root) → Within (whole (pos c.root.result) ∷ []) (1000000000 ∷ [])
    after c = found_small c ▹ ends

returns : tie.Need-returns
returns c = distance-of c.args.m c.requires.0 c.requires.1 _ (read_back (pos c.root.result) (found_small c) tt ∙ ap pos (found c))

pub distance_spec : {M : Type 1} → statement M
distance_spec = tie.close (tie.spec (λ c. unsigned (bounds c) (arg 0) tt c.requires.1) (λ c κs. tt) cast-result returns)

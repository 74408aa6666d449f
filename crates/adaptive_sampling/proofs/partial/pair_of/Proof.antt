-- `adaptive_sampling::partial::pair_of` meets its contract: the states by the sizes of L.
use mathlib.Core.Path.{◌≡◌, ap, ◌∙◌}
use Prim.Native.Nat.{ℕ, zero, suc, ◌≤◌, ◌<◌}
use native.Mathlib.Omega.{arith}
use lib.IntN.{ℤ, nat_abs}
use Rattle.sheet_types.specs.States.{code}
use Rattle.sheet_types.specs.laws.PhaseLaws.{code-limit}
use Rattle.rounding.specs.laws.Code.{read_back, read-size}
use Rattle.shadow_geometry.specs.Shadow.{state}
use Rattle.shadow.specs.declared.Sample.{Sample}
use Rattle.shadow.specs.Second.{radius_in}
use Rattle.run_length.specs.Runs.{state_in}
use Rattle.exclusion_test.specs.Samples.{size}
use Rattle.adaptive_sampling.proofs.partial.pair_of.Statement.{statement}
use Rattle.adaptive_sampling.proofs.partial.pair_of.Tie as tie

-- the places before
abbrev start : tie.After-abs-k → tie.Start
start c = c.before.before.before

abbrev start2 : tie.After-abs-n → tie.Start
start2 c = start c.before.before

-- the sizes of L
k-is : (c : tie.After-abs-k) → c.abs-k.result ≡ size (start c).args.s.first
k-is c = c.abs-k.ensures ∙ ap size (read_back (start c).args.s.first (start c).requires.1.first tt)

k-size : (c : tie.After-abs-k) → nat_abs c.abs-k.result ≤ 600000000
k-size c = omega (arith, ap nat_abs (k-is c), (start c).requires.1.first)

n-is : (c : tie.After-abs-n) → c.abs-n.result ≡ size (start2 c).args.s.second
n-is c = c.abs-n.ensures ∙ ap size (read_back (start2 c).args.s.second (start2 c).requires.1.second tt)

n-size : (c : tie.After-abs-n) → nat_abs c.abs-n.result ≤ 600000000
n-size c = omega (arith, ap nat_abs (n-is c), (start2 c).requires.1.second)

-- the states
first-is : (c : tie.After-state-first) → let a = (start2 c.before).args in c.state-first.result ≡ code (state a.guard (size a.s.first) a.s.m)
first-is c =
    let x = c.before in
    let a = start2 x in
    rw (
      read_back a.args.guard a.requires.0 tt,
      read_back x.abs-k.result (k-size x.before.before) tt ∙ k-is x.before.before,
      read_back a.args.s.m a.requires.1.m tt,
    ) at c.state-first.ensures

second_is : (c : tie.After-state-second) → let a = (start2 c.before.before).args in c.state-second.result ≡ code (state a.guard (size a.s.second) a.s.m)
second_is c =
    let x = c.before.before in
    let a = start2 x in
    rw (
      read_back a.args.guard a.requires.0 tt,
      read_back x.abs-n.result (n-size x) tt ∙ n-is x,
      read_back a.args.s.m a.requires.1.m tt,
    ) at c.state-second.ensures

abs-requires : tie.Need-abs-k-requires
abs-requires c κs = let a = c.before.before in read-size a.args.s.first 9223372036854775807 a.requires.1.first tt

abs-requires-2 : tie.Need-abs-n-requires
abs-requires-2 c κs = let a = start c.before in read-size a.args.s.second 9223372036854775807 a.requires.1.second tt

state-requires : tie.Need-state-first-requires
state-requires c κs =
    let a = start2 c in
    let x = c.before.before in
    (read-size a.args.guard 1000 a.requires.0 tt, read-size x.abs-k.result 600000000 (k-size x) tt, read-size a.args.s.m 1000000000000000000 a.requires.1.m tt)

state-requires-2 : tie.Need-state-second-requires
state-requires-2 c κs =
    let x = c.before in
    let a = start2 x in
    (read-size a.args.guard 1000 a.requires.0 tt, read-size x.abs-n.result 600000000 (n-size x) tt, read-size a.args.s.m 1000000000000000000 a.requires.1.m tt)

pair-requires : tie.Need-pair-requires
pair-requires c κs =
    let a = (start2 c.before.before).args in
    let p = first-is c.before in
    let q = second_is c in
    let x = code-limit (state a.guard (size a.s.first) a.s.m) in
    let y = code-limit (state a.guard (size a.s.second) a.s.m) in
    (omega arith, omega arith)

both : (guard : ℤ) (s : Sample) (r first second : ℕ) → state_in 0 r ≡ first → state_in 1 r ≡ second
    → first ≡ code (state guard (size s.first) s.m) → second ≡ code (state guard (size s.second) s.m)
    → (k : ℕ) → k < 2 → state_in k r ≡ code (state guard (size (radius_in s k)) s.m)
both guard s r first second p q e f zero h = p ∙ e
both guard s r first second p q e f (suc k) h = q ∙ f

returns : tie.Need-returns
returns c =
    let x = c.before in
    let a = start2 x.before.before in
    let e = c.pair.ensures in
    record {
      small = e.2;
      states = both a.args.guard a.args.s _ _ _ e.0 e.1 (first-is x.before) (second_is x);
    }

pub pair_of_spec : {M : Type 1} → statement M
pair_of_spec = tie.close (tie.spec abs-requires abs-requires-2 state-requires state-requires-2 pair-requires returns)

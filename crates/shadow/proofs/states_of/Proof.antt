-- `shadow::states_of` meets its contract: one state for each phase, central by the size of L2.
use mathlib.Core.Path.{◌≡◌, ap, ◌∙◌}
use Prim.Native.Nat.{◌≤◌}
use native.Mathlib.Omega.{arith}
use lib.IntN.{ℤ, pos, nat_abs}
use Rattle.rounding.specs.laws.Code.{read_back, read-size}
use Rattle.shadow.proofs.states_of.Statement.{statement}
use Rattle.shadow.proofs.states_of.Tie as tie

-- the size of L2
size_is : (c : tie.After-abs) → c.abs.result ≡ pos (nat_abs c.args.s.l2)
size_is c =
    let a = c.before.before.before.before.before in
    c.abs.ensures ∙ ap (λ (z : ℤ). pos (nat_abs z)) (read_back a.args.s.l2 a.requires.1.l2 tt)

size_le : (c : tie.After-abs) → nat_abs c.abs.result ≤ 600000000
size_le c = omega (arith, ap nat_abs (size_is c), c.requires.1.l2)

state-requires : tie.Need-state-penumbra-requires
state-requires c κs =
    let a = c.before.before.before in (
      read-size a.args.guard 1000 a.requires.0 tt,
      read-size a.args.s.l1 600000000 a.requires.1.l1 tt,
      read-size a.args.s.m 1000000000000000000
          a.requires.1.m tt,
    )

abs-requires : tie.Need-abs-requires
abs-requires c κs = let a = c.before.before.before.before in read-size a.args.s.l2 9223372036854775807 a.requires.1.l2 tt

state-requires-2 : tie.Need-state-central-requires
state-requires-2 c κs =
    let a = c.before.before.before.before.before in (
      read-size a.args.guard 1000 a.requires.0 tt,
      read-size c.abs.result 600000000 (size_le c) tt,
      read-size a.args.s.m 1000000000000000000
          a.requires.1.m tt,
    )

returns : tie.Need-returns
returns c =
    let a = c.before.before.before.before.before.before in
    let g = read_back a.args.guard a.requires.0 tt in
    let m = read_back a.args.s.m a.requires.1.m tt in
    record {
      penumbra = rw (g, read_back a.args.s.l1 a.requires.1.l1 tt, m) at c.state-penumbra.ensures;
      central = rw (g, read_back c.abs.result (size_le c.before) tt ∙ size_is c.before, m) at c.state-central.ensures;
      m = m;
    }

pub states_of_spec : {M : Type 1} → statement M
states_of_spec = tie.close (tie.spec state-requires abs-requires state-requires-2 returns)

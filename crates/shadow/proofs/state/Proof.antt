-- `shadow::state` meets its contract: at each end of the code the tests that led there are what its state means, and a
-- state is the only one of its meaning (shadow_geometry, StateLaws).
use mathlib.Core.Path.{sym, ap}
use mathlib.Core.List.{[], ◌∷◌}
use lib.IntN.{◌-ℤ◌}
use lib.Signed.{◌≤ℤ◌, ◌<ℤ◌, clash_ℤ}
use Rattle.sheet_types.specs.States.{inside, outside, unsure, code}
use Rattle.rounding.specs.laws.Code.{Code, arg, add, sub, mul, Within, whole, ends, ◌▹◌, fits, taken-<, left-<}
use Rattle.shadow_geometry.specs.Shadow.{◌²}
use Rattle.shadow_geometry.proofs.laws.StateLaws.{state-edge}
use Rattle.shadow.proofs.state.Statement.{statement}
use Rattle.shadow.proofs.state.Lts.{then-guard-l+else-m-inner, else-guard-l}
use Rattle.shadow.proofs.state.Tie as tie

-- guard, l, m
bounds : (c : tie.Start) → Within (whole c.args.guard ∷ whole c.args.l ∷ whole c.args.m ∷ []) (1000 ∷ 600000000 ∷ 1000000000000000000 ∷ [])
bounds c = c.requires.0 ▹ c.requires.1 ▹ c.requires.2 ▹ ends

abbrev inner : Code
inner = sub (arg 1) (arg 0)

abbrev outer : Code
outer = add (arg 1) (arg 0)

-- what is not inside: where l is above the guard, m is at least the inner square
not-inside : (c : tie.Joined-guard-l) → c.args.guard <ℤ c.args.l → ((c.args.l -ℤ c.args.guard) ²) ≤ℤ c.args.m
not-inside c h =
    let w = bounds c.before in
    elim c.if-guard-l.branch [
      | then-guard-l+else-m-inner e ↦ left-< w (arg 2) (mul inner inner) tt e.if-m-inner.false
      | else-guard-l e ↦ clash_ℤ h (left-< w (arg 0) (arg 1) tt e.if-guard-l.false)
    ]

mul-if2 : tie.Need-overflow_mul-inner
mul-if2 c = fits (bounds c.before) (mul inner inner) tt

returns : tie.Need-returns-then-m-inner
returns c =
    let a = c.args in
    let w = bounds c.before.before in
    sym (ap code (state-edge a.guard a.l a.m inside
    (taken-< w (arg 0) (arg 1) tt c.if-guard-l.true, taken-< w (arg 2) (mul inner inner) tt c.if-m-inner.true)))

mul-if3 : tie.Need-overflow_mul-outer
mul-if3 c = fits (bounds c.before) (mul outer outer) tt

returns-2 : tie.Need-returns-then-outer-m
returns-2 c =
    let a = c.args in
    let w = bounds c.before.before in
    sym (ap code (state-edge a.guard a.l a.m outside (not-inside c.before, taken-< w (mul outer outer) (arg 2) tt c.if-outer-m.true)))

returns-3 : tie.Need-returns-else-outer-m
returns-3 c =
    let a = c.args in
    let w = bounds c.before.before in
    sym (ap code (state-edge a.guard a.l a.m unsure (not-inside c.before, left-< w (mul outer outer) (arg 2) tt c.if-outer-m.false)))

pub state_spec : {M : Type 1} → statement M
state_spec = tie.close (tie.spec (λ c. fits (bounds c) inner tt) (λ c. fits (bounds c) outer tt) mul-if2 returns mul-if3 returns-2 returns-3)

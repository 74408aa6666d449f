-- `shadow::orientation_of` meets its contract: each angle is reduced, then its sine and cosine are taken.
use mathlib.Core.Path.{◌∙◌}
use Prim.Native.Nat.{ℕ, ◌≤◌}
use native.Mathlib.Omega.{arith}
use lib.IntN.{ℤ}
use Rattle.rounding.specs.laws.Code.{read_back, read-size}
use Rattle.sine.specs.Sine.{IsReduced}
use Rattle.sine.specs.laws.SineLaws.{sine_of, cosine_of}
use Rattle.shadow.proofs.orientation_of.Statement.{statement}
use Rattle.shadow.proofs.orientation_of.Tie as tie

-- the reduced angles
h-is : (c : tie.After-reduced-a) → IsReduced c.args.h c.reduced-a.result
h-is c = let b = c.before.before in rw (read_back b.args.h b.requires.1 tt) at c.reduced-a.ensures

d-is : (c : tie.After-reduced-b) → IsReduced c.args.d c.reduced-b.result
d-is c = let b = c.before.before.before in rw (read_back b.args.d b.requires.2 tt) at c.reduced-b.ensures

small : {z : ℤ} {a : ℕ} → IsReduced z a → a ≤ 360000000
small e = omega (arith, e.below)

reduced-requires : tie.Need-reduced-a-requires
reduced-requires c κs = read-size c.args.h 10000000000 c.requires.1 tt

reduced-requires-2 : tie.Need-reduced-b-requires
reduced-requires-2 c κs = read-size c.args.d 10000000000 c.requires.2 tt

sine-requires : tie.Need-sine-hsine-requires
sine-requires c κs = (c.requires.0, small (h-is c.before))

cosine-requires : tie.Need-cosine-hcosine-requires
cosine-requires c κs = let b = c.before.before.before.before in (b.requires.0, small (h-is c.before.before))

sine-requires-2 : tie.Need-sine-dsine-requires
sine-requires-2 c κs = let b = c.before.before.before.before.before in (b.requires.0, small (d-is c.before.before))

cosine-requires-2 : tie.Need-cosine-dcosine-requires
cosine-requires-2 c κs = let b = c.before.before.before.before.before.before in (b.requires.0, small (d-is c.before.before.before))

returns : tie.Need-returns
returns c =
    let h = h-is c.before.before.before.before.before in
    let d = d-is c.before.before.before.before in
    let sh = c.sine-hsine in
    let ch = c.cosine-hcosine in
    let sd = c.sine-dsine in
    let cd = c.cosine-dcosine in
    record {
      hsine = read_back sh.result sh.ensures.small tt ∙ sine_of h sh.ensures;
      hcosine = read_back ch.result ch.ensures.small tt ∙ cosine_of h ch.ensures;
      dsine = read_back sd.result sd.ensures.small tt ∙ sine_of d sd.ensures;
      dcosine = read_back cd.result cd.ensures.small tt ∙ cosine_of d cd.ensures;
    }

pub orientation_of_spec : {M : Type 1} → statement M
orientation_of_spec =
    tie.close
    (tie.spec reduced-requires reduced-requires-2 sine-requires cosine-requires sine-requires-2
    cosine-requires-2 returns)

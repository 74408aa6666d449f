-- Half of k is taken away from zero, and the machine's quotient is rounded toward it (NearLaws, near_above and
-- near_below).
use Rattle.std.proofs.Common.{[], ◌∷◌, ◌∙◌, pos}
use Rattle.rounding.proofs.laws.NearLaws.{near_above, near_below}
use Rattle.rounding.specs.laws.Code.{Code, arg, lit, add, sub, quo, Within, whole, ends, ◌▹◌, runs, taken-<, left-<}
use Rattle.rounding.proofs.near.Goals as goal

abbrev Half : Code
Half = quo (arg 1) (lit (pos 2))

pub returns-then-n-lt0 : goal.returns-then-n-lt0
returns-then-n-lt0 c =
    let a = c.args in
    let h = c.requires in
    let b : Within (whole a.n ∷ whole a.k ∷ []) (4000000000000000000 ∷ 10000000000000000 ∷ []) = h.0 ▹ h.1 ▹ ends in
    runs b (quo (sub (arg 0) Half) (arg 1)) tt ∙ near_below a.n a.k h.2 (taken-< b (arg 0) (lit (pos 0)) tt c.if-n-lt0.true)

pub returns-else-n-lt0 : goal.returns-else-n-lt0
returns-else-n-lt0 c =
    let a = c.args in
    let h = c.requires in
    let b : Within (whole a.n ∷ whole a.k ∷ []) (4000000000000000000 ∷ 10000000000000000 ∷ []) = h.0 ▹ h.1 ▹ ends in
    runs b (quo (add (arg 0) Half) (arg 1)) tt ∙ near_above a.n a.k h.2 (left-< b (arg 0) (lit (pos 0)) tt c.if-n-lt0.false)

-- `element_fits::misfits_of` meets its contract: six distances, each read back from its bits.
use Rattle.std.proofs.Common.{◌≡◌, arith, ap, ◌∙◌, ℕ, ◌≤◌, pos, w64, to_z}
use Rattle.rounding.specs.laws.Code.{count-is}
use Rattle.elements.specs.declared.Cubic.{Cubic}
use Rattle.element_fits.specs.declared.least_squares.Hourly.{Hourly}
use Rattle.element_fits.specs.Sizes.{wider}
use Rattle.element_fits.specs.Answers.{misfit, raised, misfits_of}
use Rattle.element_fits.specs.laws.Laws.{cubic_sized, raised_sized}
use Rattle.element_fits.proofs.misfits_of.Goals as goal

pub misfit-requires : goal.misfit-requires
misfit-requires c = (cubic_sized _ _ c.cubic.ensures c.requires.x, c.requires.x)

pub misfit-requires-2 : goal.misfit-requires-2
misfit-requires-2 c = (cubic_sized _ _ c.cubic-2.ensures c.requires.y, c.requires.y)

pub misfit-requires-3 : goal.misfit-requires-3
misfit-requires-3 c = (raised_sized _ _ _ c.quadratic.ensures c.raised.ensures c.requires.d, c.requires.d)

pub misfit-requires-4 : goal.misfit-requires-4
misfit-requires-4 c = (raised_sized _ _ _ c.quadratic-2.ensures c.raised-2.ensures c.requires.l1, c.requires.l1)

pub misfit-requires-5 : goal.misfit-requires-5
misfit-requires-5 c = (raised_sized _ _ _ c.quadratic-3.ensures c.raised-3.ensures c.requires.l2, c.requires.l2)

pub misfit-requires-6 : goal.misfit-requires-6
misfit-requires-6 c =
    let w = wider {n = 100_000_000_000} c.requires.mu (omega arith) in
    (raised_sized _ _ _ c.quadratic-4.ensures c.raised-4.ensures w, w)

signed : (m : ℕ) (k fit : Cubic) (v : Hourly) → m ≡ misfit k v → m ≤ 50_000_000_000_000 → k ≡ fit → to_z w64 m ≡ pos (misfit fit v)
signed m k fit v e l f = count-is m l tt ∙ ap pos (e ∙ ap (λ (q : Cubic). misfit q v) f)

pub returns : goal.returns
unfolding misfits_of
returns c =
    rw (
      signed _ _ _ c.args.c.x c.misfit.ensures.value c.misfit.ensures.small c.cubic.ensures,
      signed _ _ _ c.args.c.y c.misfit-2.ensures.value c.misfit-2.ensures.small c.cubic-2.ensures,
      signed _ _ _ c.args.c.d c.misfit-3.ensures.value c.misfit-3.ensures.small (c.raised.ensures ∙ ap raised c.quadratic.ensures),
      signed _ _ _ c.args.c.l1 c.misfit-4.ensures.value c.misfit-4.ensures.small (c.raised-2.ensures ∙ ap raised c.quadratic-2.ensures),
      signed _ _ _ c.args.c.l2 c.misfit-5.ensures.value c.misfit-5.ensures.small (c.raised-3.ensures ∙ ap raised c.quadratic-3.ensures),
      signed _ _ _ c.args.c.mu c.misfit-6.ensures.value c.misfit-6.ensures.small (c.raised-4.ensures ∙ ap raised c.quadratic-4.ensures),
    )

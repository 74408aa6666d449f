-- `element_fits::first_missed` meets its contract: six fits, one after another.
use Rattle.std.proofs.Common.{◌≡◌, arith, ap, ap₂, ◌∙◌, Option, None, ℕ}
use Rattle.elements.specs.declared.Cubic.{Cubic}
use Rattle.element_fits.specs.declared.least_squares.Hourly.{Hourly}
use Rattle.element_fits.specs.Sizes.{wider}
use Rattle.element_fits.specs.Answers.{missed, raised, first_missed}
use Rattle.element_fits.specs.laws.Laws.{cubic_sized, raised_sized}
use Rattle.element_fits.proofs.first_missed.Goals as goal

pub missed-f0-requires : goal.missed-f0-requires
missed-f0-requires c = let s = c.requires in (cubic_sized _ _ c.cubic.ensures s.x, s.x, omega arith)

pub missed-f1-requires : goal.missed-f1-requires
missed-f1-requires c = let s = c.requires in (cubic_sized _ _ c.cubic-2.ensures s.y, s.y, omega arith)

pub missed-f2-requires : goal.missed-f2-requires
missed-f2-requires c = let s = c.requires in (raised_sized _ _ _ c.quadratic.ensures c.raised.ensures s.d, s.d, omega arith)

pub missed-f3-requires : goal.missed-f3-requires
missed-f3-requires c = let s = c.requires in (raised_sized _ _ _ c.quadratic-2.ensures c.raised-2.ensures s.l1, s.l1, omega arith)

pub missed-f4-requires : goal.missed-f4-requires
missed-f4-requires c = let s = c.requires in (raised_sized _ _ _ c.quadratic-3.ensures c.raised-3.ensures s.l2, s.l2, omega arith)

pub missed-requires : goal.missed-requires
missed-requires c =
    let w = wider {n = 100_000_000_000} c.requires.mu (omega arith) in
    (raised_sized _ _ _ c.quadratic-4.ensures c.raised-4.ensures w, w, omega arith)

-- one fit after those before
next : (r before was : Option ℕ) (k fit : Cubic) (v : Hourly) (tolerance place : ℕ) → r ≡ missed before k v tolerance place → before ≡ was → k ≡ fit
    → r ≡ missed was fit v tolerance place
next r before was k fit v tolerance place e b f = e ∙ ap₂ (λ (l : Option ℕ) (q : Cubic). missed l q v tolerance place) b f

pub returns : goal.returns
unfolding first_missed
returns c =
    let t = c.args.tolerance in
    let e0 = c.missed-f0.ensures ∙ ap (λ (q : Cubic). missed None q c.args.c.x t 0) c.cubic.ensures in
    let e1 = next _ _ _ _ _ c.args.c.y t 10 c.missed-f1.ensures e0 c.cubic-2.ensures in
    let e2 = next _ _ _ _ _ c.args.c.d t 20 c.missed-f2.ensures e1 (c.raised.ensures ∙ ap raised c.quadratic.ensures) in
    let e3 = next _ _ _ _ _ c.args.c.l1 t 30 c.missed-f3.ensures e2 (c.raised-2.ensures ∙ ap raised c.quadratic-2.ensures) in
    let e4 = next _ _ _ _ _ c.args.c.l2 t 40 c.missed-f4.ensures e3 (c.raised-3.ensures ∙ ap raised c.quadratic-3.ensures) in
    next _ _ _ _ _ c.args.c.mu t 50 c.missed.ensures e4 (c.raised-4.ensures ∙ ap raised c.quadratic-4.ensures)

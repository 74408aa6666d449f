-- `fits::differences` meets its contract: each turn stores the difference of one more hour.
use Rattle.std.proofs.Common.{arith, ◌≡◌, ◌<◌, ◌+◌, List, ℕ, ℤ, pos, length, get_or, set, length-set, ◌∙◌}
use Rattle.std.proofs.Math.Seq.{get_or-set_same, get_or-set_other}
use borrow.Author.Count.{below_more}
use Rattle.rounding.specs.laws.Code.{read_result, read_back}
use Rattle.elements.specs.Elements.{cubic_from}
use Rattle.fits.specs.Fits.{difference}
use Rattle.fits.specs.laws.RangeLaws.{seven_by}
use Rattle.fits.proofs.differences.Goals as goal

-- one hour more
more : (f : ℕ → ℤ) (all : List ℤ) (i : ℕ) (z : ℤ) → i < length all → z ≡ f i → ((j : ℕ) → j < i → get_or all j (pos 0) ≡ f j)
    → (j : ℕ) → j < i + 1 → get_or (set all i z) j (pos 0) ≡ f j
more f all i z l this before =
    below_more (λ j. get_or (set all i z) j (pos 0) ≡ f j) i
    (λ j h. rw (get_or-set_other all i j z (pos 0) (λ e. omega arith)) (before j h))
    (rw (get_or-set_same all i z (pos 0) l) this)

pub loop-i-preserved : goal.loop-i-preserved
unfolding difference
loop-i-preserved c =
    let l = c.loop-i in
    let x = cubic_from c.args.coefficients.now 0 in
    let t = get_or c.args.tabulated.now l.i (pos 0) in
    let r = c.requires.of_x in
    let h : l.i < 7 = omega arith in
    let given =
    read_result c.difference.result c.difference.type_inv
    ∙ rw (read_back x.c0 r.c0 tt, read_back x.c1 r.c1 tt, read_back x.c2 r.c2 tt, read_back x.c3 r.c3 tt, read_back t (c.requires.tabulated l.i h) tt)
    at c.difference.ensures in
    record {
      seven = length-set l.all l.i _ ∙ l.invariant.seven;
      done = more (difference x c.args.tabulated.now) l.all l.i _ (omega arith) given l.invariant.done;
    }

pub returns : goal.returns
returns c =
    seven_by (difference (cubic_from c.args.coefficients.now 0) c.args.tabulated.now) c.loop-i.all c.loop-i.invariant.seven
    (λ j h. c.loop-i.invariant.done j (omega arith))

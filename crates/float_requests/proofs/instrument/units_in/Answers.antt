-- `float_requests::instrument::units_in` meets its contract: each turn stores the units of one double more.
use Rattle.std.proofs.Common.{arith, ◌≡◌, ◌<◌, ◌+◌, List, ℕ, ℤ, pos, Float, map, ap, sym, ◌∙◌, length, get_or, set, length-set, ext_get_or}
use Rattle.std.proofs.lemmas.List.{length-map}
use Rattle.std.proofs.Math.Seq.{get_or-set_same, get_or-set_other}
use Rattle.std.proofs.Math.ListN.{get_or-map}
use Rattle.std.specs.Float.{nan}
use borrow.Author.Count.{below_more}
use Rattle.rounding.specs.laws.Code.{read_result}
use Rattle.binary64.specs.Doubles.{fitted, stand_in, held}
use Rattle.binary64.specs.laws.HeldLaws.{stand_in_reading}
use Rattle.float_requests.specs.Instrument.{scales, units_in}
use Rattle.float_requests.specs.laws.ScaleLaws.{scale_in, units_at, units_length, units_held}
use Rattle.float_requests.proofs.instrument.units_in.Goals as goal

pub read-requires : goal.read-requires
read-requires c = let h : c.loop-i.i < 23 = omega arith in scale_in c.loop-i.i h

-- one double more
more : (xs : List Float) (units : List ℤ) (i : ℕ) (z : ℤ) → i < length units → z ≡ units_held xs i
    → ((k : ℕ) → k < i → get_or units k (pos 0) ≡ units_held xs k)
    → (k : ℕ) → k < i + 1 → get_or (set units i z) k (pos 0) ≡ units_held xs k
more xs units i z l this before =
    below_more (λ k. get_or (set units i z) k (pos 0) ≡ units_held xs k) i
    (λ k h. rw (get_or-set_other units i k z (pos 0) (λ e. omega arith)) (before k h))
    (rw (get_or-set_same units i z (pos 0) l) this)

pub loop-i-preserved : goal.loop-i-preserved
loop-i-preserved c =
    let l = c.loop-i in
    let xs = c.args.xs.now in
    let given = read_result c.unit_of.result c.unit_of.type_inv ∙ c.unit_of.ensures ∙ ap stand_in c.read.ensures
    ∙ stand_in_reading (get_or scales l.i 0) (get_or xs l.i nan) in
    record {
      count = length-set l.units l.i _ ∙ l.invariant.count;
      read = more xs l.units l.i _ (omega arith) given l.invariant.read;
    }

-- all of them
all_are : (xs : List Float) (units : List ℤ) → length xs ≡ 22 → length units ≡ 22
    → ((k : ℕ) → k < 22 → get_or units k (pos 0) ≡ units_held xs k) → units ≡ map held (units_in scales xs)
unfolding fitted
all_are xs units n m h =
    ext_get_or (pos 0) units (map held (units_in scales xs)) (omega (arith, length-map (units_in scales xs) held, units_length scales xs (omega arith)))
    (λ k l.
    let g : k < 22 = omega arith in
    h k g
    ∙ sym
    (get_or-map held (units_in scales xs) k (pos 0) ∙ ap held (units_at scales xs k (omega arith) (omega arith))))

pub returns : goal.returns
returns c =
    all_are c.args.xs.now c.loop-i.units c.requires c.loop-i.invariant.count (λ k h. c.loop-i.invariant.read k (omega arith))

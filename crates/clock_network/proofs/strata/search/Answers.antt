-- `clock_network::strata::search` meets its contract: what is known stays right and small, each pass determines one
-- more place, and where none can be determined the rest has no steps.
use Rattle.std.proofs.Common.{◌≡◌, ◌+◌, ◌<◌, length, refl, ◌∙◌, arith, Some, slice_set}
use Rattle.std.proofs.Math.ListN.{length-set}
use Rattle.clock_network.specs.laws.Search.{ReadyIs, zeros}
use Rattle.clock_network.specs.laws.Laws.{sound_start, small_start, quiet-lost, zeros-set, sound_set, small_set}
use Rattle.clock_network.proofs.strata.search.Goals as goal

pub loop-i-init : goal.loop-i-init
loop-i-init c = (refl, (sound_start _ _, small_start))

-- what a turn found
took : (c : goal.In-Some) → ReadyIs c.args.numbers.now c.args.clocks.now c.loop-i.steps (Some (c.in-Some.i, c.in-Some.s))
took c = c.in-Some.ensures

-- the place found is one of the array's
within : (c : goal.In-Some) → c.in-Some.i < length c.loop-i.steps
within c =
    let h : c.in-Some.i < length c.args.numbers.now = (took c).0 in
    let e : length c.loop-i.steps ≡ 64 = c.loop-i.invariant.0 in omega arith

pub loop-i-smaller : goal.loop-i-smaller
loop-i-smaller c =
    let t = took c in
    let l = c.loop-i in
    let e : zeros (slice_set l.steps c.in-Some.i c.in-Some.s) + 1 ≡ zeros l.steps = zeros-set l.steps c.in-Some.i c.in-Some.s (within c) t.1.0 t.1.1.0 in
    omega arith

pub loop-i-preserved : goal.loop-i-preserved
loop-i-preserved c =
    let a = c.args in
    let l = c.loop-i in
    let t = took c in (
      length-set l.steps c.in-Some.i c.in-Some.s ∙ l.invariant.0,
      (
        sound_set a.numbers.now a.clocks.now l.steps c.in-Some.i c.in-Some.s (within c) (t.1.1.1.0 l.invariant.1.0) l.invariant.1.0,
        small_set l.steps c.in-Some.i c.in-Some.s (within c) t.1.0 t.1.1.0 t.1.1.1.1 l.invariant.1.1,
      ),
    )

pub returns : goal.returns
returns c =
    let l = c.loop-i in record {
      size = l.invariant.0;
      sound = l.invariant.1.0;
      lost = quiet-lost c.args.numbers.now c.args.clocks.now l.steps (rw c.in_default.is at c.ready_place.ensures);
    }

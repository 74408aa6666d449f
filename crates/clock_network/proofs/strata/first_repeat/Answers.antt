-- `clock_network::strata::first_repeat` meets its contract: the number at i stands earlier too, or it does not.
use Rattle.std.proofs.Common.{◌≡◌, ◌<◌, arith, length, ◌∙◌, pos, take, below_more, length-take-le}
use Rattle.std.proofs.lemmas.Bool.Decides.{Decides-int_eq, not_from_Decides}
use Rattle.std.proofs.lemmas.List.{get_or-take}
use Rattle.clock_network.specs.laws.First.{first_found, first-none}
use Rattle.clock_network.specs.laws.DefinedLaws.{repeat-is}
use Rattle.clock_network.specs.Steps.{Repeats}
use Rattle.clock_network.proofs.strata.first_repeat.Goals as goal

pub returns-then-contains : goal.returns-then-contains
returns-then-contains c =
    let ns = c.args.numbers.now in
    let w = c.if-contains.ensures.cases in
    let l : w.0 < c.loop-i.i = omega (arith, w.1, length-take-le c.loop-i.i ns) in
    repeat-is ns _ (first_found c.loop-i.invariant (w.0, (l, (Decides-int_eq _ _).0 (rw get_or-take at (w.2 (pos 0))))))

pub loop-i-preserved : goal.loop-i-preserved
loop-i-preserved c =
    let ns = c.args.numbers.now in
    let i = c.loop-i.i in
    let no : Repeats ns i → ⊥ = λ r.
    let l : r.0 < i = r.1.0 in
    let k : r.0 < length (take i ns) = omega (arith, length-take-le i ns) in
    let e = c.if-contains.ensures.cases r.0 (pos 0) (omega arith) k in
    not_from_Decides _ (Decides-int_eq _ _) (rw get_or-take at e) r.1.1
    in
    (omega arith, below_more _ _ c.loop-i.invariant.1 no)

pub returns : goal.returns
returns c =
    let ns = c.args.numbers.now in
    let e : length ns ≡ c.loop-i.i = omega (arith, c.loop-i.invariant.0) in
    e ∙ repeat-is ns _ (first-none c.loop-i.invariant (omega arith))

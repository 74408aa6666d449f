-- `clock_network::stations::gathered` meets its contract: each turn puts in one more node.
use Rattle.std.proofs.Common.{arith, ◌≡◌, refl, ℕ, suc, ◌+◌, List, get_or, ap, ◌∙◌}
use Rattle.clock_network.specs.Held.{blank_node, empty_of, put_of, held_of}
use Rattle.clock_network.specs.declared.stations.Node.{Node}
use Rattle.clock_network.specs.declared.stations.Held.{Held}
use Rattle.clock_network.proofs.stations.gathered.Goals as goal

pub loop-i-init : goal.loop-i-init
unfolding held_of
loop-i-init c = c.empty-h.ensures ∙ ap empty_of c.size-n.ensures

next : (l : List Node) (h g : Held) (i : ℕ) (x : Node) → g ≡ put_of h i x → x ≡ get_or l i blank_node → h ≡ held_of l i → g ≡ held_of l (suc i)
unfolding held_of
next l h g i x a b e = a ∙ (ap (put_of h i) b ∙ ap (λ (k : Held). put_of k i (get_or l i blank_node)) e)

pub loop-i-preserved : goal.loop-i-preserved
loop-i-preserved c =
    let i = c.loop-i.i in let l = c.args.l.now in
    let s : suc i ≡ i + 1 = omega arith in
    next l c.loop-i.h _ i c.taken.result refl c.taken.ensures c.loop-i.invariant ∙ ap (held_of l) s

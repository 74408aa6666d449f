-- `networks::tell_steps` meets its contract: the first of the 64 numbers and clocks are the list's.
use Rattle.std.proofs.Common.{◌∙◌, ap, sym, arith, rules, length, take}
use Rattle.std.proofs.lemmas.List.{map-id}
use Rattle.clock_network.specs.laws.DefinedLaws.{steps-length}
use Rattle.clock_network.specs.Nodes.{number_of, clock_of}
use Rattle.clock_network.specs.laws.Copy.{take-map, prefix-length, mapped}
use Rattle.networks.proofs.tell_steps.Goals as goal

pub all_steps-told-requires : goal.all_steps-told-requires
all_steps-told-requires c =
    let h = c.args.h in
    let few = c.requires.count_bound.0 in
    let ns = c.numbers-a.ensures in
    let a = prefix-length number_of h.nodes c.numbers-a.result h.count ns c.requires.count_bound.1 few in
    let b = prefix-length clock_of h.nodes c.clocks-b.result h.count c.clocks-b.ensures c.requires.count_bound.1 few in
    let e = ap (take h.count) ns ∙ take-map number_of h.count h.nodes in
    (b ∙ sym a, omega (arith, a), rw e c.requires.nodes_value)

pub returns : goal.returns
returns c =
    let h = c.args.h in
    let e = ap (take h.count) c.numbers-a.ensures ∙ take-map number_of h.count h.nodes in
    let k = ap (take h.count) c.clocks-b.ensures ∙ take-map clock_of h.count h.nodes in
    let m = mapped (λ n. n) c.all_steps-told.result c.map.result 0 c.map.ensures.items (ap length c.all_steps-told.ensures ∙ steps-length _ _) (λ x y p q k. search rules) in
    c.copy_from_slice.ensures.after ∙ (m ∙ (map-id c.all_steps-told.result ∙ (c.all_steps-told.ensures ∙ rw (e, k))))

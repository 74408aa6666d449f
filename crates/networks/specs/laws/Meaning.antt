-- What holds of a list that is not refused: each station has exactly one number of steps, 1 to 64, and it is the one
-- that comes back; 0 past the list (clock_network, Meaning). What is named: SightLaws.
use Rattle.std.specs.Prelude.{◌≡◌, List, ℕ, ◌≤◌, length, Ok}
use Rattle.std.proofs.Common.{sym, subst, arith}
use Rattle.std.proofs.lemmas.List.{length-map}
use Rattle.clock_network.specs.Defined.{first_lost, steps_of}
use Rattle.clock_network.specs.laws.DefinedLaws.{first-lost}
use Rattle.clock_network.specs.laws.Meaning.{Accepted, accepted}
use Rattle.clock_network.specs.declared.stations.Node.{Node}
use Rattle.clock_network.specs.Nodes.{number_of, numbers_of, clocks_of}
use Rattle.clock_network.specs.declared.checks.Eclipse.{Eclipse}
use Rattle.clock_network.specs.Checks.{checked}
use Rattle.clock_network.specs.CheckLaws.{at_most, once, accepted-14, accepted-16, clocks-accepted}

pub steps-accepted : (e : Eclipse) (l : List Node) → checked e l ≡ Ok tt → Accepted (numbers_of l) (clocks_of l) (steps_of (numbers_of l) (clocks_of l))
steps-accepted e l ok =
    let ns = numbers_of l in
    let cs = clocks_of l in
    let c = clocks-accepted e l ok in
    let used = once ns cs (accepted-14 ns cs c) in
    let reach : first_lost ns cs ≡ length ns = omega (arith, accepted-16 ns cs c, (first-lost ns cs used).within) in
    accepted ns cs used (subst (λ (n : ℕ). n ≤ 64) (sym (length-map l number_of)) (at_most e l ok)) reach

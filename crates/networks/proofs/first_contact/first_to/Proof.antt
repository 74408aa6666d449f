-- `networks::first_contact::first_to` meets its contract: the runs hold the states of the penumbra.
use mathlib.Core.Path.{◌≡◌, sym, ap, ◌∙◌}
use mathlib.Core.List.{map}
use Prim.Native.Nat.{ℕ, ◌≤◌}
use native.Mathlib.Omega.{arith}
use borrow.Author.Rules.{rules}
use lib.ListN.{length, take, replicate, length-replicate}
use lib.Seq.{length-take-le}
use Rattle.sheet_types.specs.declared.phases.Phase.TheVariants.{Penumbra}
use Rattle.requests.specs.declared.Request.{Request}
use Rattle.requests.specs.Requests.{of_eclipse}
use Rattle.requests.specs.Windows.{second_count}
use Rattle.requests.specs.WindowLaws.{seconds-few}
use Rattle.requests.specs.RequestLaws.{InLimits}
use Rattle.run_length.specs.Runs.{decoded}
use Rattle.seconds.specs.Seconds.{states_of}
use Rattle.seconds.proofs.laws.SecondLaws.{states_length}
use Rattle.contacts.specs.Entries.{entries}
use Rattle.contacts.specs.laws.Shifted.{shifted}
use Rattle.sheet_format.specs.StoredSeconds.{stored}
use Rattle.networks.specs.Enters.{first_enter}
use Rattle.networks.specs.laws.EnterLaws.{first-to-is}
use Rattle.networks.proofs.first_contact.first_to.Statement.{statement}
use Rattle.networks.proofs.first_contact.first_to.Tie as tie

-- an array of 21,601 bytes can hold every window
room : (q : Request) → InLimits (of_eclipse q) → second_count q.window ≤ length (replicate {A = ℕ} 21601 0)
room q i = omega (arith, seconds-few q.window i.window, length-replicate {A = ℕ} 21601 0)

-- the places before
abbrev start : tie.After-fill-known → tie.Start
start c = c.before.before.before.before.before.before.before

fill-requires : tie.Need-fill-known-requires
fill-requires c κs =
    let e = c.of_eclipse-o.ensures in
    let b = c.before.before.before.before.before.before in
    rw e (b.requires.0, b.requires.1, c.geocentric-place.ensures, room b.args.q b.requires.1)

slice-aggregate-first-enter : tie.Need-slice_bounds-first_enter-end
slice-aggregate-first-enter c =
    let f = c.before.before in
    sym (length-take-le f.fill-known.result.count f.fill-known.new.runs f.fill-known.ensures.0.count)

-- the penumbra's states
states : (f : tie.After-fill-known) → decoded 0 (take f.fill-known.result.count f.fill-known.new.runs) ≡ states_of (of_eclipse (start f).args.q) Penumbra
states f = (rw f.of_eclipse-o.ensures at f.fill-known.ensures.0.states).phase 0 (omega arith)

first-enter-requires : tie.Need-first_enter-requires
first-enter-requires c κs =
    let f = c.before.before in
    let b = start f in
    let o = of_eclipse b.args.q in
    (b.requires.1.window, f.fill-known.ensures.0.states.whole, ap length (states f) ∙ states_length o Penumbra)

returns : tie.Need-returns
returns c =
    let f = c.before.before.before in
    let q = (start f).args.q in
    c.first_enter.ensures
    ∙ ap (λ l. first_enter (map (shifted (stored q.window.first)) (entries l))) (states f)
    ∙ sym (first-to-is q (start f).requires.1)

pub first_to_spec : {M : Type 1} → statement M
first_to_spec =
    tie.close
    (tie.spec (λ c κs. search rules) (λ c κs. search rules) (λ c. search rules) fill-requires
    (λ c. c.fill-known.ensures.0.count) slice-aggregate-first-enter first-enter-requires returns)

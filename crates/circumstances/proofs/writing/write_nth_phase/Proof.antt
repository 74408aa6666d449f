-- `circumstances::writing::write_nth_phase` meets its contract: the k-th phase has the k-th states.
use mathlib.Core.Path.{◌≡◌, sym, ap, ap₂, ◌∙◌}
use mathlib.Core.List.{List, map}
use Prim.Native.Nat.{ℕ, ◌+◌}
use native.Mathlib.Omega.{arith}
use borrow.Author.Rules.{rules}
use lib.ListN.{length, get_or}
use lib.Seq.{sets}
use Rattle.sheet_types.specs.declared.phases.Phase.{Phase}
use Rattle.sheet_types.specs.declared.phases.Phase.TheVariants.{Penumbra}
use Rattle.shadow_geometry.specs.Shadow.{phases_of}
use Rattle.requests.specs.declared.Occultation.{Occultation}
use Rattle.run_length.specs.Runs.{decoded}
use Rattle.seconds.specs.Seconds as Seconds
use Rattle.seconds.proofs.laws.SecondLaws.{states_length}
use Rattle.contacts.specs.Entries.{entries}
use Rattle.sheet_format.specs.RecordEntries.{bytes_of}
use Rattle.local_circumstances.specs.Courses.{states_of, entry_of, phaseEntries}
use Rattle.local_circumstances.specs.laws.Lengths.{bytes_needed, phase-length}
use Rattle.local_circumstances.specs.Course.{course_of}
use Rattle.circumstances.proofs.writing.write_nth_phase.Statement.{statement}
use Rattle.circumstances.proofs.writing.write_nth_phase.Tie as tie

-- the phase that is asked for, and its states
abbrev asked : tie.Start → Phase
asked b = get_or (phases_of b.args.o.body) b.args.k Penumbra

states : (b : tie.Start) → decoded b.args.k b.args.runs.now ≡ Seconds.states_of b.args.o (asked b)
states b = b.requires.1.0.0.phase b.args.k b.requires.1.0.1

-- what is said of a phase and its states, said of the course
needed : (o : Occultation) (φ ψ : Phase) (l : List ℕ) → φ ≡ ψ → l ≡ Seconds.states_of o ψ → bytes_needed φ (entries l) ≡ length (bytes_of (phaseEntries (course_of o) ψ))
unfolding states_of
needed o φ ψ l e f = ap₂ (λ (χ : Phase) (m : List ℕ). bytes_needed χ (entries m)) e f ∙ sym (phase-length (course_of o) ψ)

mapped : (o : Occultation) (φ ψ : Phase) (l : List ℕ) → φ ≡ ψ → l ≡ Seconds.states_of o ψ → map (entry_of (course_of o) φ) (entries l) ≡ phaseEntries (course_of o) ψ
unfolding states_of phaseEntries
mapped o φ ψ l e f = ap₂ (λ (χ : Phase) (m : List ℕ). map (entry_of (course_of o) χ) (entries m)) e f

abbrev start : tie.After-nth_phase-phase → tie.Start
start c = c.before.before.before.before

write-phase-requires : tie.Need-write_phase-requires
write-phase-requires c κs =
    let p = c.before in
    let b = start p in
    let o = b.args.o in
    let φ = asked b in (
      (b.requires.0.0, b.requires.0.1, b.requires.0.2),
      (b.requires.1.0.0.whole, ap length (states b) ∙ states_length o φ, omega (arith, needed o p.nth_phase-phase.result φ _ p.nth_phase-phase.ensures (states b), b.requires.1.1)),
    )

returns : tie.Need-returns
returns c =
    let w = c.before.before in
    let p = w.before.before in
    let b = start p in
    let o = b.args.o in
    let φ = asked b in (
      w.write_phase.ensures.0 ∙ ap (λ (n : ℕ). b.args.start + n) (needed o p.nth_phase-phase.result φ _ p.nth_phase-phase.ensures (states b)),
      w.write_phase.ensures.1 ∙ ap (λ es. sets b.args.buf.now b.args.start (bytes_of es)) (mapped o p.nth_phase-phase.result φ _ p.nth_phase-phase.ensures (states b)),
    )

pub write_nth_phase_spec : {M : Type 1} → statement M
write_nth_phase_spec = tie.close (tie.spec (λ c κs. search rules) write-phase-requires (λ c. search rules) returns)

-- `circumstances::writing::lengths::nth_phase_length` meets its contract: the k-th phase has the k-th states.
use mathlib.Core.Path.{sym, ap, ap₂, ◌∙◌}
use mathlib.Core.List.{List}
use Prim.Native.Nat.{ℕ}
use native.Mathlib.Omega.{arith}
use borrow.Author.Rules.{rules}
use lib.ListN.{length, get_or}
use Rattle.sheet_types.specs.declared.phases.Phase.{Phase}
use Rattle.sheet_types.specs.declared.phases.Phase.TheVariants.{Penumbra}
use Rattle.shadow_geometry.specs.Shadow.{phases_of}
use Rattle.requests.specs.WindowLaws.{seconds-few}
use Rattle.seconds.proofs.laws.SecondLaws.{states_length}
use Rattle.contacts.specs.Entries.{entries}
use Rattle.local_circumstances.specs.laws.Lengths.{bytes_needed}
use Rattle.circumstances.proofs.writing.lengths.nth_phase_length.Statement.{statement}
use Rattle.circumstances.proofs.writing.lengths.nth_phase_length.Tie as tie

abbrev start : tie.After-nth_phase-phase → tie.Start
start c = c.before.before.before

phase-length-requires : tie.Need-phase_length-requires
phase-length-requires c κs =
    let b = start c.before in
    let φ = get_or (phases_of b.args.o.body) b.args.k Penumbra in
    let n = c.second_count-seconds.ensures in (
      b.requires.1.whole,
      ap length (b.requires.1.phase b.args.k b.requires.2) ∙ states_length b.args.o φ ∙ sym n,
      omega (arith, n, seconds-few b.args.o.window b.requires.0.window),
    )

returns : tie.Need-returns
returns c =
    let b = start c.before.before in (
      c.phase_length.ensures.0
          ∙ ap₂ (λ (φ : Phase) (l : List ℕ). bytes_needed φ (entries l))
          c.nth_phase-phase.ensures (b.requires.1.phase b.args.k b.requires.2),
      c.phase_length.ensures.1,
    )

pub nth_phase_length_spec : {M : Type 1} → statement M
nth_phase_length_spec = tie.close (tie.spec (λ c κs. search rules) (λ c κs. (start c).requires.0.window) phase-length-requires returns)

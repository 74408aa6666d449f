-- `circumstances::writing::lengths::phases_length` meets its contract: there are at most two phases, and one more adds
-- the bytes of its entries.
use Rattle.std.proofs.Common.{◌≡◌, ◌+◌, ◌<◌, ◌∙◌, ℕ, List, ap, sym, arith, length, take, get_or}
use Rattle.std.proofs.Math.Seq.{take-length}
use Rattle.sheet_types.specs.declared.phases.Phase.{Phase}
use Rattle.sheet_types.specs.declared.phases.Phase.TheVariants.{Penumbra}
use Rattle.sheet_types.specs.laws.PhaseLaws.{phases_more}
use Rattle.shadow_geometry.specs.Shadow.{phases_of}
use Rattle.shadow.specs.laws.SecondLaws.{phases_few}
use Rattle.requests.specs.declared.Occultation.{Occultation}
use Rattle.sheet_format.specs.RecordEntries.{bytes_of}
use Rattle.sheet_format.specs.laws.EntryLaws.{bytes-nil}
use Rattle.contacts.specs.Entries.{entries}
use Rattle.seconds.specs.Seconds as Seconds
use Rattle.local_circumstances.specs.Courses.{states_of, entriesOf}
use Rattle.local_circumstances.specs.laws.Lengths.{bytes_needed, more-length}
use Rattle.local_circumstances.specs.Course.{course_of}
use Rattle.circumstances.proofs.writing.lengths.phases_length.Invariants.{taken}
use Rattle.circumstances.proofs.writing.lengths.phases_length.Goals as goal

abbrev bytes_in : Occultation → List Phase → ℕ
bytes_in o φs = length (bytes_of (entriesOf (course_of o) φs))

-- one phase more
more : (o : Occultation) (k : ℕ) → k < length (phases_of o.body)
    → taken o (k + 1) ≡ taken o k + bytes_needed (get_or (phases_of o.body) k Penumbra) (entries (Seconds.states_of o (get_or (phases_of o.body) k Penumbra)))
unfolding states_of
more o k h =
    omega (
      arith,
      ap (bytes_in o) (phases_more (phases_of o.body) k h),
      more-length (course_of o) (take k (phases_of o.body)) (get_or (phases_of o.body) k Penumbra),
    )

pub loop-k-init : goal.loop-k-init
loop-k-init c = record { sum = sym (ap length bytes-nil); small = omega arith }

pub nth_phase_length-length-requires : goal.nth_phase_length-length-requires
nth_phase_length-length-requires c = (c.requires.0, c.requires.1, omega (arith, c.loop-k-test.true, c.phase_count-count.ensures))

pub overflow_add-length : goal.overflow_add-length
overflow_add-length c =
    omega (arith, c.loop-k.invariant.small, c.nth_phase_length-length.ensures.1, c.loop-k-test.true, c.phase_count-count.ensures, phases_few c.args.o.body)

pub loop-k-preserved : goal.loop-k-preserved
loop-k-preserved c =
    let h : c.loop-k.k < length (phases_of c.args.o.body) = omega (arith, c.loop-k-test.true, c.phase_count-count.ensures) in
    record {
      sum = omega (arith, more c.args.o c.loop-k.k h, c.loop-k.invariant.sum, c.nth_phase_length-length.ensures.0);
      small = omega (arith, c.loop-k.invariant.small, c.nth_phase_length-length.ensures.1);
    }

pub returns : goal.returns
returns c =
    let o = c.args.o in
    let e : c.loop-k.k ≡ length (phases_of o.body) = omega (arith, c.loop-k-test.false, c.phase_count-count.ensures) in (
      c.loop-k.invariant.sum ∙ ap (taken o) e ∙ ap (bytes_in o) (take-length (phases_of o.body)),
      omega (arith, c.loop-k.invariant.small, e, phases_few o.body),
    )

-- `circumstances::writing::write_phases` meets its contract: one phase more adds the bytes of its entries, and the first
-- phases take no more than all.
use Rattle.std.proofs.Common.{◌≡◌, ◌+◌, ◌≤◌, ◌<◌, ◌∙◌, ℕ, List, refl, ap, ap₂, sym, arith, length, take, drop, get_or}
use Rattle.std.proofs.Math.ListN.{take-append-drop}
use Rattle.std.proofs.Math.Seq.{length-sets, take-length}
use Rattle.std.proofs.lemmas.List.Edits.{sets}
use Rattle.sheet_types.specs.declared.phases.Phase.{Phase}
use Rattle.sheet_types.specs.declared.phases.Phase.TheVariants.{Penumbra}
use Rattle.sheet_types.specs.laws.PhaseLaws.{phases_more}
use Rattle.shadow_geometry.specs.Shadow.{phases_of}
use Rattle.requests.specs.declared.Occultation.{Occultation}
use Rattle.sheet_format.specs.RecordEntries.{bytes_of}
use Rattle.sheet_format.specs.laws.EntryLaws.{bytes-nil}
use Rattle.local_circumstances.specs.Courses.{phaseEntries, entriesOf}
use Rattle.local_circumstances.specs.laws.Lengths.{more_bytes, some_bytes}
use Rattle.local_circumstances.specs.laws.Stores.{stores_none, stores-phase}
use Rattle.local_circumstances.specs.Course.{course_of}
use Rattle.circumstances.proofs.writing.write_phases.Invariants.{taken}
use Rattle.circumstances.proofs.writing.write_phases.Goals as goal

-- the bytes of the entries of some phases
abbrev bytes_in : Occultation → List Phase → List ℕ
bytes_in o φs = bytes_of (entriesOf (course_of o) φs)

module _ (o : Occultation) (k : ℕ) (h : k < length (phases_of o.body)) where
  abbrev next : Phase
  next = get_or (phases_of o.body) k Penumbra

  more-taken : length (taken o (k + 1)) ≡ length (taken o k) + length (bytes_of (phaseEntries (course_of o) next))
  more-taken =
      ap (λ (φs : List Phase). length (bytes_in o φs)) (phases_more (phases_of o.body) k h) ∙ more_bytes (course_of o) (take k (phases_of o.body)) next

  fits : length (taken o (k + 1)) ≤ length (bytes_in o (phases_of o.body))
  fits =
      omega (
        arith,
        ap (λ (φs : List Phase). length (bytes_in o φs)) (take-append-drop (k + 1) (phases_of o.body)),
        some_bytes (course_of o) (take (k + 1) (phases_of o.body)) (drop (k + 1) (phases_of o.body)),
      )

  stores-next : (l : List ℕ) (at : ℕ) → sets (sets l at (taken o k)) (at + length (taken o k)) (bytes_of (phaseEntries (course_of o) next)) ≡ sets l at (taken o (k + 1))
  stores-next l at =
      sym (stores-phase (course_of o) (take k (phases_of o.body)) next l at)
      ∙ ap (λ (φs : List Phase). sets l at (bytes_in o φs)) (sym (phases_more (phases_of o.body) k h))

pub loop-k-init : goal.loop-k-init
loop-k-init c =
    let a = c.args in
    record { same_length = refl; place = omega (arith, ap length bytes-nil); written = sym (stores_none a.buf.now a.start) }

pub write_nth_phase-at-requires : goal.write_nth_phase-at-requires
write_nth_phase-at-requires c =
    let o = c.args.o in
    let l = c.loop-k in
    let h : l.k < length (phases_of o.body) = omega (arith, c.loop-k-test.true, c.phase_count-count.ensures) in
    record {
      sines = c.requires.sines;
      all_states = (c.requires.all_states, h);
      k_in_bounds = omega (arith, l.invariant.place, l.invariant.same_length, more-taken o l.k h, fits o l.k h, c.requires.body_in_bounds);
    }

pub loop-k-preserved : goal.loop-k-preserved
loop-k-preserved c =
    let l = c.loop-k in
    let a = c.args in
    let o = a.o in
    let h : l.k < length (phases_of o.body) = omega (arith, c.loop-k-test.true, c.phase_count-count.ensures) in
    let phase = bytes_of (phaseEntries (course_of o) (next o l.k h)) in
    record {
      same_length = ap length c.write_nth_phase-at.ensures.buf_after ∙ length-sets l.buf l.at phase ∙ l.invariant.same_length;
      place = omega (arith, c.write_nth_phase-at.ensures.value, l.invariant.place, more-taken o l.k h);
      written = c.write_nth_phase-at.ensures.buf_after
          ∙ ap₂ (λ (b : List ℕ) (at : ℕ). sets b at phase) l.invariant.written l.invariant.place
          ∙ stores-next o l.k h a.buf.now a.start;
    }

pub returns : goal.returns
returns c =
    let a = c.args in
    let l = c.loop-k in
    let e : l.k ≡ length (phases_of a.o.body) = omega (arith, c.loop-k-test.false, c.phase_count-count.ensures) in
    let all = ap (taken a.o) e ∙ ap (bytes_in a.o) (take-length (phases_of a.o.body)) in
    record {
      value = l.invariant.place ∙ ap (λ (b : List ℕ). a.start + length b) all;
      buf_after = l.invariant.written ∙ ap (sets a.buf.now a.start) all;
    }

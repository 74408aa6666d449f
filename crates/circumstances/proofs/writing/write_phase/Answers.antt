-- `circumstances::writing::write_phase` meets its contract: what is left at the cursor, stored from `at` on, gives the
-- buffer that all entries give.
use Rattle.std.specs.Prelude.{ℕ, List, ◌∷◌, map}
use Rattle.std.proofs.Common.{◌≡◌, refl, sym, ap, ◌∙◌, arith, length, ◌+◌}
use Rattle.std.proofs.lemmas.List.Edits.{sets}
use Rattle.std.proofs.Math.Seq.{length-sets}
use Rattle.sheet_types.specs.declared.phases.Phase.{Phase}
use Rattle.requests.specs.declared.Occultation.{Occultation}
use Rattle.run_length.specs.Runs.{decoded}
use Rattle.contacts.specs.declared.entries.Entry.{Entry}
use Rattle.contacts.specs.declared.Cursor.{Cursor}
use Rattle.contacts.specs.Step.{entries_from}
use Rattle.contacts.specs.laws.StepLaws.{all-at-start, at-start, Took, took, none_left}
use Rattle.sheet_format.specs.declared.kinds.Entry as stored
use Rattle.sheet_format.specs.Kinds.{size_of}
use Rattle.sheet_format.specs.RecordEntries.{bytes, bytes_of}
use Rattle.local_circumstances.specs.Courses.{entry_of}
use Rattle.local_circumstances.specs.laws.Lengths.{bytes_needed, needed_nil, needed_cons, kind-in}
use Rattle.local_circumstances.specs.laws.Stores.{stores_entry, stores_none}
use Rattle.local_circumstances.specs.Course.{course_of}
use Rattle.circumstances.proofs.writing.write_phase.Goals as goal

-- the record's size of the entry that a step took, and what is left then
sizes : (o : Occultation) (phase : Phase) (k : ℕ) (runs : List ℕ) (at : ℕ) (e : Entry) (c : Cursor) (r : stored.Entry)
    → Took k runs at e c → r ≡ entry_of (course_of o) phase e
    → bytes_needed phase (entries_from (decoded k runs) at) ≡ size_of r.kind + bytes_needed phase (entries_from (decoded k runs) c.at)
sizes o phase k runs at e c r t q =
    omega (
      arith,
      ap (bytes_needed phase) t.rest,
      needed_cons phase e (entries_from (decoded k runs) c.at),
      ap (λ x. size_of x.kind) q,
      ap size_of (kind-in (course_of o) phase e),
    )

pub loop-entry-init : goal.loop-entry-init
loop-entry-init c =
    let a = c.args in
    let all = all-at-start (decoded a.k a.runs.now) in
    record {
      cursor = at-start a.k a.runs.now 0 c.requires.whole.0;
      as_long = refl;
      placed = omega (arith, ap (bytes_needed a.phase) all);
      stored = rw all;
    }

pub returns-in_default-clause-value : goal.returns-in_default-clause-value
returns-in_default-clause-value c =
    let a = c.args in
    let l = c.loop-entry in
    let e = none_left a.k a.runs.now l.c.at _ c.step.ensures c.in_default.is in
    omega (arith, l.invariant.placed, ap (bytes_needed a.phase) e ∙ needed_nil a.phase)

pub returns-in_default-clause-buf_after : goal.returns-in_default-clause-buf_after
returns-in_default-clause-buf_after c =
    let a = c.args in
    let l = c.loop-entry in
    let e = none_left a.k a.runs.now l.c.at _ c.step.ensures c.in_default.is in
    sym (stores_none l.buf l.at)
    ∙ sym (ap (λ es. sets l.buf l.at (bytes_of (map (entry_of (course_of a.o) a.phase) es))) e)
    ∙ l.invariant.stored

pub put-at-requires : goal.put-at-requires
put-at-requires c =
    let o : Took c.args.k c.args.runs.now c.loop-entry.c.at c.in-Some.entry c.in-Some.next = took _ _ _ _ _ _ c.step.ensures c.in-Some.is in
    let s = sizes c.args.o c.args.phase _ _ _ _ _ _ o c.entry_for-e.ensures in
    omega (arith, s, c.loop-entry.invariant.placed, c.loop-entry.invariant.as_long, c.requires.whole.2)

pub loop-entry-smaller : goal.loop-entry-smaller
loop-entry-smaller c =
    let o : Took c.args.k c.args.runs.now c.loop-entry.c.at c.in-Some.entry c.in-Some.next = took _ _ _ _ _ _ c.step.ensures c.in-Some.is in
    omega (arith, o.further, o.within)

pub loop-entry-preserved : goal.loop-entry-preserved
loop-entry-preserved c =
    let a = c.args in
    let l = c.loop-entry in
    let o : Took a.k a.runs.now l.c.at c.in-Some.entry c.in-Some.next = took _ _ _ _ _ _ c.step.ensures c.in-Some.is in
    let s = sizes a.o a.phase _ _ _ _ _ _ o c.entry_for-e.ensures in
    let p = c.put-at.ensures in
    let r = c.entry_for-e.result in
    let rest = entries_from (decoded a.k a.runs.now) c.in-Some.next.at in
    record {
      cursor = o.cursor;
      as_long = ap length p.1 ∙ length-sets l.buf l.at (bytes r) ∙ l.invariant.as_long;
      placed = omega (arith, p.0, s, l.invariant.placed);
      stored =
          rw (p.0, p.1)
          (sym (stores_entry r (map (entry_of (course_of a.o) a.phase) rest) l.buf l.at)
          ∙ ap (λ x. sets l.buf l.at (bytes_of (x ∷ map (entry_of (course_of a.o) a.phase) rest))) c.entry_for-e.ensures
          ∙ sym (ap (λ es. sets l.buf l.at (bytes_of (map (entry_of (course_of a.o) a.phase) es))) o.rest)
          ∙ l.invariant.stored);
    }

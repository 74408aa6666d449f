-- `circumstances::writing::lengths::phase_length` meets its contract: what is counted, with what is left at the
-- cursor, is the whole.
use Rattle.std.specs.Prelude.{ℕ, List}
use Rattle.std.proofs.Common.{◌≡◌, ap, ◌∙◌, arith, ◌+◌}
use Rattle.sheet_types.specs.declared.phases.Phase.{Phase}
use Rattle.run_length.specs.Runs.{decoded}
use Rattle.contacts.specs.declared.entries.Entry.{Entry}
use Rattle.contacts.specs.declared.Cursor.{Cursor}
use Rattle.contacts.specs.Step.{entries_from}
use Rattle.contacts.specs.laws.StepLaws.{all-at-start, at-start, Took, took, none_left}
use Rattle.sheet_format.specs.declared.kinds.Kind.{Kind}
use Rattle.sheet_format.specs.Kinds.{size_of}
use Rattle.local_circumstances.specs.laws.Lengths.{kind_in, bytes_needed, needed_nil, needed_cons}
use Rattle.circumstances.proofs.writing.lengths.phase_length.Goals as goal

-- the size of the entry that a step took, and what is left then
sizes : (phase : Phase) (k : ℕ) (runs : List ℕ) (at : ℕ) (e : Entry) (c : Cursor) (kind : Kind) (n : ℕ)
    → Took k runs at e c → kind ≡ kind_in phase e → n ≡ size_of kind
    → bytes_needed phase (entries_from (decoded k runs) at) ≡ n + bytes_needed phase (entries_from (decoded k runs) c.at)
sizes phase k runs at e c kind n o q s =
    omega (arith, ap (bytes_needed phase) o.rest, needed_cons phase e (entries_from (decoded k runs) c.at), s, ap size_of q)

pub loop-entry-init : goal.loop-entry-init
loop-entry-init c =
    let a = c.args in
    record {
      cursor = at-start a.k a.runs.now 0 c.requires.0;
      counted = omega (arith, ap (bytes_needed a.phase) (all-at-start (decoded a.k a.runs.now)));
      few = omega arith;
    }

pub returns-in_default : goal.returns-in_default
returns-in_default c =
    let a = c.args in
    let l = c.loop-entry in
    let z = ap (bytes_needed a.phase) (none_left a.k a.runs.now l.c.at _ c.step.ensures c.in_default.is) ∙ needed_nil a.phase in
    (omega (arith, l.invariant.counted, z), omega (arith, l.invariant.few, l.invariant.cursor.stands.second))

pub loop-entry-smaller : goal.loop-entry-smaller
loop-entry-smaller c =
    let o : Took c.args.k c.args.runs.now c.loop-entry.c.at c.in-Some.entry c.in-Some.after = took _ _ _ _ _ _ c.step.ensures c.in-Some.is in
    omega (arith, o.further, o.within)

pub loop-entry-preserved : goal.loop-entry-preserved
loop-entry-preserved c =
    let o : Took c.args.k c.args.runs.now c.loop-entry.c.at c.in-Some.entry c.in-Some.after = took _ _ _ _ _ _ c.step.ensures c.in-Some.is in
    let s = sizes c.args.phase _ _ _ _ _ _ _ o c.kind_in-kind.ensures c.size_of-n.ensures.0 in
    record {
      cursor = o.cursor;
      counted = omega (arith, c.loop-entry.invariant.counted, s);
      few = omega (arith, c.loop-entry.invariant.few, o.further, c.size_of-n.ensures.1);
    }

-- `sheet_codec::decoder::extent_of_leading_sheet` meets its contract. Byte, kind and body together are the record that
-- stands there (`there`); order and fields are asked of it as the definition asks them. So each turn of the loop is
-- one of the sheet (`Counting`).
use Rattle.std.specs.Prelude.{Some, Ok}
use Rattle.sheet_codec.proofs.decoder.Counting.{Counting, count-refused, count-disorder, count-unsound, count-end, count-more}
use Rattle.sheet_codec.specs.Sheets.{stored_at, read_sheet}
use Rattle.sheet_codec.specs.laws.SheetLaws.{read-start, extent-start}
use Rattle.sheet_rules.specs.Rules.{order_of, fields_as, fields_of}
use Rattle.sheet_format.specs.laws.KindLaws.{kind_inv}
use Rattle.sheet_format.specs.declared.kinds.Progress.{Progress}
use Rattle.sheet_format.specs.laws.RecordLaws.{by_byte, by_kind, by-body, byte-inv, body-inv, read_plain, record-bounds}
use Rattle.sheet_format.specs.Records.{byte_at, bodyAt, record_at}
use Rattle.sheet_format.specs.Kinds.{kind_for, size_of, is_end, plain}
use Rattle.sheet_format.specs.declared.kinds.Entry.{Entry}
use Rattle.sheet_format.specs.declared.kinds.Kind.{Kind}
use Rattle.sheet_rules.specs.declared.rules.OrderRule.TheVariants as O
use Rattle.sheet_rules.specs.declared.rules.FieldRule.TheVariants as F
use mathlib.Core.Bool.{true}
use lib.ListN.{length}
use mathlib.Core.List.{List}
use native.Mathlib.Omega.{arith}
use Prim.Native.Nat.{ℕ, ◌+◌, ◌-◌, ◌≤◌, ◌<◌}
use mathlib.Core.Path.{◌≡◌, sym, ap, ◌∙◌}
use borrow.Author.Rules.{rules}
use Rattle.sheet_codec.proofs.decoder.extent_of_leading_sheet.Statement.{statement}
use Rattle.sheet_codec.proofs.decoder.extent_of_leading_sheet.Tie as tie

abbrev invariant-loop : tie.invariant-loop-code
invariant-loop s p₀ at₀ n₀ p at n = (at ≤ length s) × (n ≤ at) × Counting (stored_at s) (length s) (read_sheet s) p n at

abbrev decreases-loop : tie.decreases-loop-code
decreases-loop s p₀ at₀ n₀ p at n = length s - at

-- places of the code: before the byte, the kind and the body of a record were read
abbrev turn : tie.In-Some invariant-loop decreases-loop → tie.At-loop-code invariant-loop decreases-loop
turn c = c.before.before

abbrev byted : tie.In-Some-kind_for invariant-loop decreases-loop → tie.In-Some invariant-loop decreases-loop
byted c = c.before.before

abbrev named : tie.In-Some-body_at invariant-loop decreases-loop → tie.In-Some-kind_for invariant-loop decreases-loop
named c = c.before.before

abbrev from : tie.In-Some-body_at invariant-loop decreases-loop → tie.At-loop-code invariant-loop decreases-loop
from c = turn (byted (named c))

-- the input, the kind, the entry, and the place after it
abbrev input : tie.At-loop-code invariant-loop decreases-loop → List ℕ
input c = c.args.s.now

abbrev kind : tie.In-Some-kind_for invariant-loop decreases-loop → Kind
kind c = c.in-Some-kind_for.kind

abbrev entry : tie.In-Some-body_at invariant-loop decreases-loop → Entry
entry c = c.in-Some-body_at.entry

abbrev after : tie.In-Some-body_at invariant-loop decreases-loop → ℕ
after c = (from c).loop-code.at + size_of (kind (named c))

loop-holds : tie.Need-loop-code-init invariant-loop decreases-loop
loop-holds c = (omega arith, omega arith, record { is = rw c.begun-p.ensures (extent-start _ _ (read-start _)) })

returns : tie.Need-returns-in_default invariant-loop decreases-loop
returns c = count-refused c.loop-code.invariant.2 _ (sym (by_byte _ _ _ (sym c.byte_at.ensures ∙ c.in_default.is)))

-- the record that stands there
is_byte : (c : tie.In-Some invariant-loop decreases-loop) → byte_at (input (turn c)) (turn c).loop-code.at ≡ Some c.in-Some.code
is_byte c = sym c.byte_at.ensures ∙ c.in-Some.is

is-kind : (c : tie.In-Some-kind_for invariant-loop decreases-loop) → kind_for (byted c).in-Some.code ≡ Some (kind c)
is-kind c = sym c.kind_for.ensures ∙ c.in-Some-kind_for.is

is_body : (c : tie.In-Some-body_at invariant-loop decreases-loop) → bodyAt (kind (named c)) (input (from c)) (from c).loop-code.at ≡ Some (entry c)
is_body c = sym c.body_at.ensures ∙ c.in-Some-body_at.is

there : (c : tie.In-Some-body_at invariant-loop decreases-loop) → record_at (input (from c)) (from c).loop-code.at ≡ Ok (entry c, after c)
there c = sym (by-body _ _ _ _ _ (is_byte (byted (named c))) (is-kind (named c)) (is_body c))

same_kind : (c : tie.In-Some-body_at invariant-loop decreases-loop) → (entry c).kind ≡ kind (named c)
same_kind c = ap (λ e. e.kind) (body-inv _ _ _ _ (is_body c)).1

returns-2 : tie.Need-returns-in_default-kind_for invariant-loop decreases-loop
returns-2 c = count-refused (turn c.before.before).loop-code.invariant.2 _
    (sym (by_kind _ _ _ _ (is_byte c.before.before) (sym c.kind_for.ensures ∙ c.in_default-kind_for.is)))

returns-3 : tie.Need-returns-in_default-body_at invariant-loop decreases-loop
returns-3 c = count-refused (turn (byted c.before.before)).loop-code.invariant.2 _
    (sym (by-body _ _ _ _ _ (is_byte (byted c.before.before)) (is-kind c.before.before)
    (sym c.body_at.ensures ∙ c.in_default-body_at.is)))

-- what came before the entry
abbrev before-entry : tie.In-Some-body_at invariant-loop decreases-loop → Progress
before-entry c = (from c).loop-code.p

returns-4 : tie.Need-returns-in_default-order_of invariant-loop decreases-loop
returns-4 c =
    let t = c.before.before in
    count-disorder (from t).loop-code.invariant.2 _ _ (there t)
    (sym c.order_of.ensures ∙ c.in_default-order_of.is)

-- the place of the code where the order is kept, and the record there
abbrev placed : tie.In-Kept invariant-loop decreases-loop → tie.In-Some-body_at invariant-loop decreases-loop
placed c = c.before.before

in-its-place : (c : tie.In-Kept invariant-loop decreases-loop)
    → order_of (before-entry (placed c)) (entry (placed c)) ≡ O.Kept
in-its-place c = sym c.order_of.ensures ∙ c.in-Kept.is

-- what is read is plain
plain_entry : (c : tie.In-Some-body_at invariant-loop decreases-loop) → plain (entry c) ≡ true
plain_entry c =
    ap plain (body-inv _ _ _ _ (is_body c)).1 ∙ read_plain (kind (named c)) (input (from c)) ((from c).loop-code.at + 1)

fields-asked : (c : tie.After-fields_of invariant-loop decreases-loop) → let t = placed c.before in
    fields_of (before-entry t) (entry t) ≡ c.fields_of.result
fields-asked c = let t = placed c.before in
    ap (λ b. fields_as b (before-entry t) (entry t)) (plain_entry t) ∙ sym c.fields_of.ensures

returns-5 : tie.Need-returns-in_default-fields_of invariant-loop decreases-loop
returns-5 c =
    let k = c.before.before in
    let t = placed k in
    count-unsound (from t).loop-code.invariant.2 _ _ (there t) (in-its-place k)
    (fields-asked c.before ∙ c.in_default-fields_of.is)

-- the place of the code where the record kept all rules
abbrev kept : tie.In-Kept-fields_of invariant-loop decreases-loop → tie.In-Kept invariant-loop decreases-loop
kept c = c.before.before

abbrev read : tie.After-size_for invariant-loop decreases-loop → tie.In-Some-body_at invariant-loop decreases-loop
read c = placed (kept c.before)

sound : (c : tie.After-size_for invariant-loop decreases-loop) → fields_of (before-entry (read c)) (entry (read c)) ≡ F.Kept
sound c = fields-asked c.before.before ∙ c.in-Kept-fields_of.is

size-for-requires : tie.Need-size_for-requires invariant-loop decreases-loop
size-for-requires c κs = kind_inv _ _ (is-kind (named (placed (kept c))))

bounds : (c : tie.In-Some-body_at invariant-loop decreases-loop) → ((from c).loop-code.at < after c) × (after c ≤ length (input (from c)))
bounds c = record-bounds _ _ _ _ (there c)

add-next : tie.Need-overflow_add-next invariant-loop decreases-loop
add-next c = let b = bounds (read c) in let z = c.size_for.ensures.0 in omega (arith, (from (read c)).before.before.before.well_formed.0.1)

ended : (c : tie.After-is_end invariant-loop decreases-loop) → is_end (entry (read c.before)).kind ≡ c.is_end.result
ended c = ap is_end (same_kind (read c.before)) ∙ sym c.is_end.ensures

add-count : tie.Need-overflow_add-count invariant-loop decreases-loop
add-count c = let t = read c.before.before in let b = bounds t in
    omega (arith, (from t).loop-code.invariant.1, (from t).well_formed.0.1)

returns-6 : tie.Need-returns-then-is_end invariant-loop decreases-loop
returns-6 c =
    let k = c.before.before in
    let t = read k in
    rw k.size_for.ensures.0
    (count-end (from t).loop-code.invariant.2 _ _ (there t) (in-its-place (kept k.before)) (sound k)
    (ended c.before ∙ c.if-is_end.true))

add-n : tie.Need-overflow_add-n invariant-loop decreases-loop
add-n c = let t = read c.before.before.before in let b = bounds t in
    omega (arith, (from t).loop-code.invariant.1, (from t).well_formed.0.1)

loop-less : tie.Need-loop-code-smaller invariant-loop decreases-loop
loop-less c = let b = bounds (read c.before.before.before) in let z = c.size_for.ensures.0 in omega arith

loop-again : tie.Need-loop-code-preserved invariant-loop decreases-loop
loop-again c =
    let k = c.before.before.before in
    let t = read k in
    let b = bounds t in
    let z = k.size_for.ensures.0 in (
      omega arith,
      omega (arith, (from t).loop-code.invariant.1),
      rw (z, c.after-p.ensures)
          (count-more (from t).loop-code.invariant.2 _ _ (there t) (in-its-place (kept k.before)) (sound k)
          (ended c.before.before ∙ c.if-is_end.false) (omega (arith, (from t).loop-code.invariant.1))),
    )

pub extent_of_leading_sheet_spec : {M : Type 1} → statement M
extent_of_leading_sheet_spec =
    tie.close
    (tie.spec invariant-loop decreases-loop (λ c κs. search rules) loop-holds (λ c κs. search rules) (λ c. search rules)
    (λ c. search rules) returns (λ c κs. search rules) (λ c. search rules) (λ c. search rules) returns-2
    (λ c κs. (byte-inv _ _ _ (is_byte (byted c))).0) (λ c. search rules) (λ c. search rules) returns-3
    (λ c κs. search rules) (λ c. search rules) (λ c. search rules) returns-4 (λ c κs. search rules)
    (λ c. search rules) (λ c. search rules) returns-5 size-for-requires add-next (λ c κs. search rules)
    add-count returns-6 (λ c κs. search rules) add-n loop-less loop-again)

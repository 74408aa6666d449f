-- `sheet_codec::decoder::read_entries` meets its contract. What is still to be put, once put, gives what the pass is
-- to leave (`Passing`). The first pass found a sheet, so each record is there, and the numbers that its bytes hold are
-- its entry's.
use Rattle.std.specs.Prelude.{Some, Ok}
use Rattle.sheet_codec.proofs.decoder.Passing.{Passing, pass-never, pass_fits, pass-end, pass-more}
use Rattle.sheet_codec.proofs.decoder.Answers.{of-numbers, reading-starts}
use Rattle.sheet_codec.specs.Sheets.{stored_at, read_sheet}
use Rattle.sheet_codec.specs.laws.Passes.{filled}
use Rattle.sheet_format.specs.RecordEntries.{numbers_of}
use Rattle.sheet_format.specs.laws.KindLaws.{kind_inv}
use lib.Seq.{sets}
use Rattle.sheet_format.specs.laws.RecordLaws.{by_byte, by_kind, by-body, byte-inv, body-inv, record-bounds}
use Rattle.sheet_format.specs.Records.{byte_at, bodyAt, record_at}
use Rattle.sheet_format.specs.Kinds.{code_of, kind_for, size_of, is_end}
use Rattle.sheet_format.specs.declared.kinds.Entry.{Entry}
use Rattle.sheet_format.specs.declared.kinds.Kind.{Kind}
use lib.ListN.{length}
use mathlib.Core.List.{List, [], ◌∷◌}
use native.Mathlib.Omega.{arith}
use Prim.Native.Nat.{ℕ, ◌+◌, ◌-◌, ◌*◌, ◌≤◌, ◌<◌}
use mathlib.Core.Path.{◌≡◌, refl, sym, ap, ◌∙◌}
use borrow.Author.Rules.{rules}
use Rattle.sheet_codec.proofs.decoder.read_entries.Statement.{statement}
use Rattle.sheet_codec.proofs.decoder.read_entries.Tie as tie

abbrev invariant-loop : tie.invariant-loop-code
invariant-loop s room₀ at₀ n₀ room at n =
    (n ≤ at) × (at ≤ length s) × (length room ≡ length room₀)
    × Passing (stored_at s) (length s) numbers_of (filled (read_sheet s) room₀) room n at (n * 5)

abbrev decreases-loop : tie.decreases-loop-code
decreases-loop s room₀ at₀ n₀ room at n = length s - at

-- places of the code: before the byte, the kind and the body of a record were read
abbrev turn : tie.In-Some invariant-loop decreases-loop → tie.At-loop-code invariant-loop decreases-loop
turn c = c.before.before

abbrev byted : tie.In-Some-kind_for invariant-loop decreases-loop → tie.In-Some invariant-loop decreases-loop
byted c = c.before.before

abbrev named : tie.In-Some-body_at invariant-loop decreases-loop → tie.In-Some-kind_for invariant-loop decreases-loop
named c = c.before.before

abbrev from : tie.In-Some-body_at invariant-loop decreases-loop → tie.At-loop-code invariant-loop decreases-loop
from c = turn (byted (named c))

-- the input, the kind, the entry, and the place after it
abbrev input : tie.At-loop-code invariant-loop decreases-loop → List ℕ
input c = c.args.s.now

abbrev kind : tie.In-Some-kind_for invariant-loop decreases-loop → Kind
kind c = c.in-Some-kind_for.kind

abbrev entry : tie.In-Some-body_at invariant-loop decreases-loop → Entry
entry c = c.in-Some-body_at.entry

abbrev after : tie.In-Some-body_at invariant-loop decreases-loop → ℕ
after c = (from c).loop-code.at + size_of (kind (named c))

loop-holds : tie.Need-loop-code-init invariant-loop decreases-loop
loop-holds c = (omega arith, omega arith, refl, reading-starts _ _ c.requires)

returns : tie.Need-returns-in_default invariant-loop decreases-loop
returns c = absurd (pass-never of-numbers c.loop-code.invariant.3 _
    (sym (by_byte _ _ _ (sym c.byte_at.ensures ∙ c.in_default.is))))

same-length-2 : tie.Need-shape_of-room-in_default-kind_for invariant-loop decreases-loop
same-length-2 c = (turn c.before.before).loop-code.invariant.2

-- the record that stands there
is_byte : (c : tie.In-Some invariant-loop decreases-loop) → byte_at (input (turn c)) (turn c).loop-code.at ≡ Some c.in-Some.code
is_byte c = sym c.byte_at.ensures ∙ c.in-Some.is

is-kind : (c : tie.In-Some-kind_for invariant-loop decreases-loop) → kind_for (byted c).in-Some.code ≡ Some (kind c)
is-kind c = sym c.kind_for.ensures ∙ c.in-Some-kind_for.is

is_body : (c : tie.In-Some-body_at invariant-loop decreases-loop) → bodyAt (kind (named c)) (input (from c)) (from c).loop-code.at ≡ Some (entry c)
is_body c = sym c.body_at.ensures ∙ c.in-Some-body_at.is

there : (c : tie.In-Some-body_at invariant-loop decreases-loop) → record_at (input (from c)) (from c).loop-code.at ≡ Ok (entry c, after c)
there c = sym (by-body _ _ _ _ _ (is_byte (byted (named c))) (is-kind (named c)) (is_body c))

same_kind : (c : tie.In-Some-body_at invariant-loop decreases-loop) → (entry c).kind ≡ kind (named c)
same_kind c = ap (λ e. e.kind) (body-inv _ _ _ _ (is_body c)).1

returns-2 : tie.Need-returns-in_default-kind_for invariant-loop decreases-loop
returns-2 c = absurd (pass-never of-numbers (turn c.before.before).loop-code.invariant.3 _
    (sym (by_kind _ _ _ _ (is_byte c.before.before) (sym c.kind_for.ensures ∙ c.in_default-kind_for.is))))

same-length-3 : tie.Need-shape_of-room-in_default-body_at invariant-loop decreases-loop
same-length-3 c = (turn (byted c.before.before)).loop-code.invariant.2

returns-3 : tie.Need-returns-in_default-body_at invariant-loop decreases-loop
returns-3 c = absurd (pass-never of-numbers (turn (byted c.before.before)).loop-code.invariant.3 _
    (sym (by-body _ _ _ _ _ (is_byte (byted c.before.before)) (is-kind c.before.before)
    (sym c.body_at.ensures ∙ c.in_default-body_at.is))))

bounds : (c : tie.In-Some-body_at invariant-loop decreases-loop)
    → ((from c).loop-code.at < after c) × (after c ≤ length (input (from c))) × ((from c).loop-code.n * 5 + 5 ≤ length (from c).loop-code.room)
bounds c =
    let b = record-bounds _ _ _ _ (there c) in
    (b.0, b.1, pass_fits of-numbers (from c).loop-code.invariant.3 _ _ (there c))

-- the code that was read is the entry's kind's
code_is : (c : tie.In-Some-body_at invariant-loop decreases-loop) → (byted (named c)).in-Some.code ≡ code_of (entry c).kind
code_is c = kind_inv _ _ (is-kind (named c)) ∙ ap code_of (sym (same_kind c))

-- the buffer with the entry's numbers, as they were put
abbrev put-room : (c : tie.In-Some-body_at invariant-loop decreases-loop) → ℕ → List ℕ
put-room c x = sets (from c).loop-code.room ((from c).loop-code.n * 5) (x ∷ (entry c).a ∷ (entry c).b ∷ (entry c).c ∷ (entry c).d ∷ [])

ended : (c : tie.After-is_end invariant-loop decreases-loop) → is_end (entry c.before.before.before.before.before).kind ≡ c.is_end.result
ended c = ap is_end (same_kind c.before.before.before.before.before) ∙ sym c.is_end.ensures

same-length-4 : tie.Need-shape_of-room-then-is_end invariant-loop decreases-loop
same-length-4 c = c.put_numbers.auto.room ∙ (from c.before.before.before.before.before.before).loop-code.invariant.2

returns-4 : tie.Need-returns-then-is_end invariant-loop decreases-loop
returns-4 c = c.put_numbers.ensures ∙ ap (put-room c.before.before.before.before.before.before)
    (code_is c.before.before.before.before.before.before) ∙ pass-end of-numbers
    (from c.before.before.before.before.before.before).loop-code.invariant.3 _ _ (there c.before.before.before.before.before.before)
    (ended c.before ∙ c.if-is_end.true)

size-for-requires : tie.Need-size_for-at-requires invariant-loop decreases-loop
size-for-requires c κs = kind_inv _ _ (is-kind (named c.before.before.before.before.before.before))

add_at : tie.Need-overflow_add-at invariant-loop decreases-loop
add_at c = let b = bounds c.before.before.before.before.before.before.before in let z = c.size_for-at.ensures.0 in omega arith

add-n : tie.Need-overflow_add-n invariant-loop decreases-loop
add-n c = let b = bounds c.before.before.before.before.before.before.before in
    omega (arith, (from c.before.before.before.before.before.before.before).loop-code.invariant.0)

loop-less : tie.Need-loop-code-smaller invariant-loop decreases-loop
loop-less c = let b = bounds c.before.before.before.before.before.before.before in let z = c.size_for-at.ensures.0 in omega arith

loop-again : tie.Need-loop-code-preserved invariant-loop decreases-loop
loop-again c =
    let b = bounds c.before.before.before.before.before.before.before in
    let z = c.size_for-at.ensures.0 in
    let i = (from c.before.before.before.before.before.before.before).loop-code.invariant in
    let k : (from c.before.before.before.before.before.before.before).loop-code.n * 5 + 5 ≡
    ((from c.before.before.before.before.before.before.before).loop-code.n + 1) * 5 = omega arith in (
      omega (arith, i.0),
      omega arith,
      c.put_numbers.auto.room ∙ i.2,
      rw (
        z,
        c.put_numbers.ensures ∙ ap
            (put-room c.before.before.before.before.before.before.before) (code_is c.before.before.before.before.before.before.before),
        ←
            k,
      ) (pass-more of-numbers i.3 _ _ (there c.before.before.before.before.before.before.before)
          (ended c.before.before ∙ c.if-is_end.false) (omega (arith, i.0))),
    )

pub read_entries_spec : {M : Type 1} → statement M
read_entries_spec =
    tie.close
    (tie.spec invariant-loop decreases-loop loop-holds (λ c κs. search rules) (λ c. search rules) (λ c. search rules)
    (λ c. c.loop-code.invariant.2) returns (λ c κs. search rules) (λ c. search rules)
    (λ c. search rules) same-length-2 returns-2 (λ c κs. (byte-inv _ _ _ (is_byte (byted c))).0)
    (λ c. search rules) (λ c. search rules) same-length-3 returns-3 (λ c. let b = bounds c in omega arith)
    (λ c κs. let b = bounds c.before in omega arith) (λ c κs. search rules) same-length-4 returns-4
    size-for-requires add_at add-n loop-less loop-again)

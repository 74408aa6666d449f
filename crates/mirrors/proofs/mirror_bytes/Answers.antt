-- `mirrors::mirror_bytes` meets its contract: the shape, then the buffer, then the mirror's bytes, which always fit.
use Rattle.std.proofs.Common.{rules, ◌≡◌, arith, sym, ap, ◌∙◌, List, ℕ, ℤ, Result, Ok, Err, Option, None}
use Rattle.std.specs.Option.{ok_or}
use Rattle.std.specs.Result.{result_ok}
use Rattle.sheet_types.specs.declared.refusals.Refusal.{Refusal}
use Rattle.sheet_types.specs.Refusals.{refusal}
use Rattle.big_endian.specs.Numbers.{Bytes}
use Rattle.request_format.specs.Layout.{numbers}
use Rattle.request_format.specs.Request.{reading_of, got_of, numbers_after}
use Rattle.mirrors.specs.Bytes.{mirror_answer, mirror_buffer}
use Rattle.mirrors.specs.laws.BytesLaws.{reading-is, mirror-put, room-short, room-enough, misshaped_room}
use Rattle.mirrors.proofs.mirror_bytes.Goals as goal

-- the shape was refused
missed : (c : goal.After-from_residual) → (Err (refusal 10 0) ≡ mirror_answer c.args.request.now c.args.room.now) × (c.args.room.now ≡ mirror_buffer c.args.request.now c.args.room.now)
missed c =
    let none : c.get.result ≡ None = c.ok_or.ensures.ok_part ∙ ap (λ (x : Result Unit Refusal). result_ok x) c.in_err-ok_or.was in
    misshaped_room _ _ (sym c.get.ensures.answer ∙ none)

pub returns-in_err-ok_or-clause-answer : goal.returns-in_err-ok_or-clause-answer
returns-in_err-ok_or-clause-answer c =
    let none : c.get.result ≡ None = c.ok_or.ensures.ok_part ∙ ap (λ (x : Result Unit Refusal). result_ok x) c.in_err-ok_or.was in
    let told : Err c.in_err-ok_or.field-0.0 ≡ Err (refusal 10 0) = sym c.in_err-ok_or.was ∙ c.ok_or.ensures.value ∙ ap (λ (o : Option Unit). ok_or o (refusal 10 0)) none in
    let same : c.in_err-ok_or.field-0.0 ≡ refusal 10 0 = cc in
    let r : Err c.in_err-ok_or.field-0.0 ≡ mirror_answer c.args.request.now c.args.room.now = rw same ((missed c).0) in
    search (rules, r)

pub returns-in_err-ok_or-clause-room : goal.returns-in_err-ok_or-clause-room
returns-in_err-ok_or-clause-room c = (missed c).1

-- the numbers that the bytes have
shaped : (s : List ℕ) (ns old : List ℤ) {got : Option Unit} {r : Result Unit Refusal} → got ≡ got_of (reading_of s) → ns ≡ numbers_after (reading_of s) old
    → got ≡ result_ok r → r ≡ Ok tt → reading_of s ≡ numbers ns
shaped s ns old g n o w = reading-is s ns old (sym g ∙ o ∙ ap (λ (x : Result Unit Refusal). result_ok x) w) n

pub returns-then-room-lt-LENGTH-clause-answer : goal.returns-then-room-lt-LENGTH-clause-answer
returns-then-room-lt-LENGTH-clause-answer c =
    let b : Bytes c.args.request.now = λ i. let f = c.type_inv.request i in search rules in
    let h = shaped _ _ _ c.get.ensures.answer c.get.ensures.numbers c.ok_or.ensures.ok_part c.in_ok-ok_or.was in
    (room-short _ b _ h _ (omega (arith, c.if-room-lt-LENGTH.true))).0

pub returns-then-room-lt-LENGTH-clause-room : goal.returns-then-room-lt-LENGTH-clause-room
returns-then-room-lt-LENGTH-clause-room c =
    let b : Bytes c.args.request.now = λ i. let f = c.type_inv.request i in search rules in
    let h = shaped _ _ _ c.get.ensures.answer c.get.ensures.numbers c.ok_or.ensures.ok_part c.in_ok-ok_or.was in
    (room-short _ b _ h _ (omega (arith, c.if-room-lt-LENGTH.true))).1

pub returns-clause-answer : goal.returns-clause-answer
returns-clause-answer c =
    let b : Bytes c.args.request.now = λ i. let f = c.type_inv.request i in search rules in
    let h = shaped _ _ _ c.get.ensures.answer c.get.ensures.numbers c.ok_or.ensures.ok_part c.in_ok-ok_or.was in
    (room-enough _ b _ h _ (omega (arith, c.if-room-lt-LENGTH.false)) _ _ (mirror-put _ b _ h _ _ _ c.change.ensures c.put.ensures.bytes) c.put_text.ensures.room).0

pub returns-clause-room : goal.returns-clause-room
returns-clause-room c =
    let b : Bytes c.args.request.now = λ i. let f = c.type_inv.request i in search rules in
    let h = shaped _ _ _ c.get.ensures.answer c.get.ensures.numbers c.ok_or.ensures.ok_part c.in_ok-ok_or.was in
    (room-enough _ b _ h _ (omega (arith, c.if-room-lt-LENGTH.false)) _ _ (mirror-put _ b _ h _ _ _ c.change.ensures c.put.ensures.bytes) c.put_text.ensures.room).1

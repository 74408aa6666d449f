-- `sheet_codec::encoder::write` meets its contract. Three ways out: refused, a short buffer, and written; each is
-- `write_into` and `buffer_after_list` at what was found.
use Rattle.std.proofs.Common.{rules, ◌≡◌, sym, ap, ◌∙◌, Err}
use Rattle.sheet_codec.proofs.decoder.Answers.{buffer-for, write-refused, write-short, write-full}
use Rattle.sheet_codec.specs.laws.SheetLaws.{list_same}
use Rattle.sheet_codec.specs.RoundTrip.{list_length}
use Rattle.sheet_codec.specs.Handed.{list_whole}
use Rattle.sheet_codec.specs.laws.Passes.{emitted}
use Rattle.sheet_codec.proofs.encoder.write.Goals as goal

pub returns-in_err-entries : goal.returns-in_err-entries
returns-in_err-entries c =
    let k : c.from_residual.result ≡ Err c.in_err-entries.field-0.0 = search rules in
    let x = write-refused (list_whole c.args.l.now) c.args.buf.now _
    (sym c.in_err-entries.was ∙ c.extent_of_entries.ensures) in
    record { value = k ∙ x.0; buf_after = x.1 }

pub returns-then-buf-length : goal.returns-then-buf-length
returns-then-buf-length c =
    let q = sym c.in_ok-entries.was ∙ c.extent_of_entries.ensures in
    let x = write-short (list_whole c.args.l.now) c.args.buf.now _ _ q c.if-buf-length.true in
    record { value = x.0; buf_after = x.1 }

pub write_records-requires : goal.write_records-requires
write_records-requires c =
    let q = sym c.in_ok-entries.was ∙ c.extent_of_entries.ensures in
    rw (← list_same _ _ _ q) (buffer-for (list_whole c.args.l.now) _ _ _ q c.if-buf-length.false)

pub returns : goal.returns
returns c =
    let q = sym c.in_ok-entries.was ∙ c.extent_of_entries.ensures in
    let x = write-full (list_whole c.args.l.now) c.args.buf.now _ _ _ q c.if-buf-length.false
    (c.write_records.ensures ∙ ap (λ w. emitted w c.args.buf.now) (sym (list_same _ _ _ q)))
    (λ es k. list_length _ es _ (sym (list_same _ _ _ q) ∙ k)) in
    record { value = x.0; buf_after = x.1 }

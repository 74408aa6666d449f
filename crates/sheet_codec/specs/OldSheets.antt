-- Document 02, wish 9: "7 in a sheet, so also for a whole old sheet". An old sheet has a head without a guard: its
-- reader takes the two bytes after it, a kind and the next, for the guard, and no kind after a head is so small.
use Rattle.std.specs.Prelude.{ℕ, ◌≤◌, ◌≡◌, refl, List, [], ◌∷◌, ◌++◌, true, false, ◌&&◌, leb, length, get_or, Ok, Some}
use Rattle.std.proofs.Common.{sym, ap, ◌∙◌, append-nil, append_assoc, arith, length-append}
use Rattle.std.proofs.lemmas.Bool.{lt-leb}
use Rattle.sheet_types.specs.declared.phases.Phase.{Phase}
use Rattle.sheet_types.specs.declared.phases.Phase.TheVariants.{Penumbra, Central, Star}
use Rattle.sheet_types.specs.Refusals.{refusal}
use Rattle.sheet_format.specs.declared.kinds.Kind.{Kind}
use Rattle.sheet_format.specs.declared.kinds.Kind.TheVariants as K
use Rattle.sheet_format.specs.declared.kinds.Entry.{Entry}
use Rattle.sheet_format.specs.declared.kinds.Stage.TheVariants as S
use Rattle.sheet_format.specs.FieldRules.{guard_holds}
use Rattle.sheet_format.specs.Kinds.{base, code_of, widths_of, size_of, plain}
use Rattle.rounding.specs.laws.Tests.{distinct, not_right}
use Rattle.big_endian.specs.Numbers.{two}
use Rattle.sheet_format.specs.RecordEntries.{body, bytes, bytes_of}
use Rattle.sheet_format.specs.laws.EntryLaws.{length-bytes, bytes_cons}
use Rattle.sheet_format.specs.Records.{entry_at, record_at}
use Rattle.sheet_format.specs.laws.RecordLaws.{by-body, byte-there, body-whole}
use Rattle.sheet_rules.specs.Rules.{start, reached, kind_in_order, fields_hold}
use Rattle.sheet_rules.specs.laws.RuleLaws.{order-kept, fields-broken}
use Rattle.sheet_codec.specs.Sheets.{refused, stored_at, read_sheet, read_whole}
use Rattle.sheet_codec.specs.laws.WellFormed.{WellFormed}
use Rattle.sheet_codec.specs.laws.GivenLaws.{from-unsound}

-- a head as it was before document 02, wish 9: station, first, last, and no guard
abbrev pub old_head : (station first last : ℕ) → List ℕ
old_head station first last = 0x01 ∷ (two station ++ (two first ++ two last))

-- ---- a head whose guard is too large

guard_broken : (s : List ℕ) → 9 ≤ length s → get_or s 0 0 ≡ 0x01 → 4 ≤ get_or s 7 0 → read_sheet s ≡ refused (refusal 7 0)
unfolding read_sheet
guard_broken s long first large =
    let e = entry_at K.Head s 1 in
    let got : record_at s 0 ≡ Ok (e, 9) =
    sym (by-body s 0 0x01 K.Head (Some e) (byte-there s 0 (omega arith) ∙ ap Some first) refl (body-whole s 0 K.Head (omega arith))) in
    let d : guard_holds e.d ≡ false = not_right (leb 16 e.d) (lt-leb e.d 1000 (omega arith)) in
    let others = leb 1 e.a && leb e.a 999 && leb e.b e.c && leb e.c 21600 in
    let bad : fields_hold start e ≡ false = not_right (plain e) (not_right others d) in
    from-unsound (stored_at s) (length s) start 0 0 e 9 got (order-kept start e refl) (fields-broken start e bad)

-- ---- an old sheet

first-kinds : (φ : Phase) → 16 ≤ base φ
first-kinds Penumbra = omega arith
first-kinds Central = omega arith
first-kinds Star = omega arith

-- what may follow a head
follows : (f l : ℕ) (e : Entry) (k : Kind) → kind_in_order (reached S.Head f l) e k ≡ true → (16 ≤ code_of k) × (2 ≤ size_of k)
follows f l e K.Head o = absurd (distinct (sym o))
follows f l e (K.Enter φ) o = (first-kinds φ, omega arith)
follows f l e (K.Leave φ) o = (omega (arith, first-kinds φ), omega arith)
follows f l e (K.Graze φ) o = (omega (arith, first-kinds φ), omega arith)
follows f l e (K.Open φ) o = (omega (arith, first-kinds φ), omega arith)
follows f l e K.Closest o = (omega arith, omega arith)
follows f l e K.Share o = absurd (distinct (sym o))
follows f l e K.End o = absurd (distinct (sym o))

-- any head, any entries that may follow a head in some window, whatever stands after them
pub old_refused : (station first last : ℕ) (f l : ℕ) (es : List Entry) → WellFormed (reached S.Head f l) es → (rest : List ℕ)
    → read_sheet (old_head station first last ++ (bytes_of es ++ rest)) ≡ refused (refusal 7 0)
unfolding WellFormed
old_refused station first last f l [] w rest = absurd w
old_refused station first last f l (e ∷ es) w rest =
    let may = follows f l e e.kind w.0 in
    let tail = body (widths_of e.kind) e ++ (bytes_of es ++ rest) in
    let split : bytes_of (e ∷ es) ++ rest ≡ code_of e.kind ∷ tail =
    ap (λ x. x ++ rest) (bytes_cons e es) ∙ append_assoc (bytes e) (bytes_of es) rest in
    let long = length-append (bytes e) (bytes_of es ++ rest) in
    rw split
    (guard_broken (old_head station first last ++ (code_of e.kind ∷ tail)) (omega (arith, long, length-bytes e, may.1)) refl (omega (arith, may.0)))

-- so too read as a whole
pub old_whole_refused : (station first last : ℕ) (f l : ℕ) (es : List Entry) → WellFormed (reached S.Head f l) es
    → read_whole (old_head station first last ++ bytes_of es) ≡ refused (refusal 7 0)
unfolding read_whole
old_whole_refused station first last f l es w =
    let e = ap (λ x. read_sheet (old_head station first last ++ x)) (sym (append-nil (bytes_of es))) ∙ old_refused station first last f l es w [] in
    rw e

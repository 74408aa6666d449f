-- A sheet that some bytes begin with has 17 bytes at least, and no more than they are.
use Rattle.std.specs.Prelude.{ℕ, suc, ◌+◌, ◌-◌, ◌≤◌, ◌≡◌, refl, List, [], ◌∷◌, true, false, length}
use Rattle.std.proofs.Common.{sym, ap, ◌∙◌, arith}
use Rattle.sheet_format.specs.declared.kinds.Entry.{Entry}
use Rattle.sheet_format.specs.declared.kinds.Kind.{Kind}
use Rattle.sheet_format.specs.declared.kinds.Kind.TheVariants as K
use Rattle.sheet_format.specs.declared.kinds.Progress.{Progress}
use Rattle.sheet_format.specs.declared.kinds.Stage.{Stage}
use Rattle.sheet_format.specs.declared.kinds.Stage.TheVariants as S
use Rattle.sheet_format.specs.Kinds.{is_end, size_of}
use Rattle.sheet_format.specs.laws.KindLaws.{size_small}
use Rattle.rounding.specs.laws.Tests.{distinct}
use Rattle.sheet_format.specs.RecordEntries.{bytes_of}
use Rattle.sheet_format.specs.laws.EntryLaws.{bytes-nil, length-bytes_cons}
use Rattle.sheet_format.specs.laws.RecordLaws.{record-bounds}
use Rattle.sheet_rules.specs.Order.{closest_came, closest_or_share_came}
use Rattle.sheet_rules.specs.Rules.{start, after_kind, after_of, kind_in_order}
use Rattle.sheet_codec.specs.Sheets.{sheet, stored_at, read_sheet}
use Rattle.sheet_codec.specs.laws.SheetLaws.{read-start}
use Rattle.sheet_codec.specs.laws.StandLaws.{Stand, well-from}
use Rattle.sheet_codec.specs.laws.StoredLaws.{stored_steady}
use Rattle.sheet_codec.specs.laws.WellFormed.{WellFormed}

stand_within : (s : List ℕ) (es : List Entry) (i at : ℕ) → at ≤ length s → Stand (stored_at s) i at es → at + length (bytes_of es) ≤ length s
unfolding Stand
stand_within s [] i at h st = omega (arith, ap length bytes-nil)
stand_within s (e ∷ es) i at h st =
    let b = record-bounds s at e (at + size_of e.kind) st.0 in
    let r = stand_within s es (i + 1) (at + size_of e.kind) b.1 st.1 in
    omega (arith, length-bytes_cons e es)

came : (s : Stage) → closest_came s ≡ true → closest_or_share_came s ≡ true
came S.Start e = e
came S.Head e = e
came (S.Phase φ) e = e
came S.Closest e = refl
came S.StarClosest e = refl
came S.Share e = refl
came S.End e = e

-- closest is still to come: an entry is no end, and closest has 7 bytes
due : (p : Progress) (e : Entry) (k : Kind) → closest_or_share_came p.stage ≡ false → kind_in_order p e k ≡ true
    → (is_end k ≡ false) × (closest_or_share_came (after_kind p e k).stage ≡ true → size_of k ≡ 7)
due p e K.Head n o = (refl, λ c. absurd (distinct (sym c)))
due p e (K.Enter φ) n o = (refl, λ c. absurd (distinct (sym c)))
due p e (K.Leave φ) n o = (refl, λ c. absurd (distinct (sym c)))
due p e (K.Graze φ) n o = (refl, λ c. absurd (distinct (sym c)))
due p e (K.Open φ) n o = (refl, λ c. absurd (distinct (sym c)))
due p e K.Closest n o = (refl, λ c. refl)
due p e K.Share n o = absurd (distinct (sym (came p.stage o) ∙ n))
due p e K.End n o = absurd (distinct (sym o ∙ n))

first_due : (e : Entry) (k : Kind) → kind_in_order start e k ≡ true
    → (is_end k ≡ false) × (closest_or_share_came (after_kind start e k).stage ≡ false) × (size_of k ≡ 9)
first_due e K.Head o = (refl, refl, refl)
first_due e (K.Enter φ) o = absurd (distinct (sym o))
first_due e (K.Leave φ) o = absurd (distinct (sym o))
first_due e (K.Graze φ) o = absurd (distinct (sym o))
first_due e (K.Open φ) o = absurd (distinct (sym o))
first_due e K.Closest o = absurd (distinct (sym o))
first_due e K.Share o = absurd (distinct (sym o))
first_due e K.End o = absurd (distinct (sym o))

some : (p : Progress) (es : List Entry) → WellFormed p es → 1 ≤ length (bytes_of es)
unfolding WellFormed
some p [] w = absurd w
some p (e ∷ es) w = omega (arith, length-bytes_cons e es, size_small e.kind)

eight_due : (es : List Entry) (p : Progress) → closest_or_share_came p.stage ≡ false → WellFormed p es → 8 ≤ length (bytes_of es)
unfolding WellFormed
eight_due [] p n w = absurd w
eight_due (e ∷ es) p n w =
    let d = due p e e.kind n w.0 in
    let v : WellFormed (after_of p e) es = rw d.0 at w.2 in
    let l = length-bytes_cons e es in
    (elim (closest_or_share_came (after_of p e).stage) as (λ c. closest_or_share_came (after_of p e).stage ≡ c → 8 ≤ length (bytes_of (e ∷ es))) [
      | true ↦ λ c. omega (arith, d.1 c, some (after_of p e) es v)
      | false ↦ λ c. omega (arith, eight_due es (after_of p e) c v)
    ]) refl

-- head, closest and end have 17 bytes together
seventeen : (es : List Entry) → WellFormed start es → 17 ≤ length (bytes_of es)
unfolding WellFormed
seventeen [] w = absurd w
seventeen (e ∷ es) w =
    let d = first_due e e.kind w.0 in
    let v : WellFormed (after_of start e) es = rw d.0 at w.2 in
    omega (arith, length-bytes_cons e es, d.2, eight_due es (after_of start e) d.1 v)

pub sheet_bounds : (s : List ℕ) (es : List Entry) (n : ℕ) → read_sheet s ≡ sheet es n → (17 ≤ n) × (n ≤ length s)
sheet_bounds s es n q =
    let r = well-from (stored_at s) (stored_steady s) (suc (length s - 0)) start 0 0 es n (sym (read-start s) ∙ q) in
    let h = stand_within s es 0 0 (omega arith) r.1 in
    (omega (arith, r.2, seventeen es r.0), omega (arith, r.2))

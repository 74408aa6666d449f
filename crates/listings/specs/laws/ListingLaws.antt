-- The lines of a sheet being put, one record after the other; and the two passes over a sheet, which measure its lines
-- and put them.
use Rattle.std.specs.Prelude.{ℕ, ◌+◌, ◌≤◌, ◌<◌, ◌≡◌, refl, List, [], ◌++◌, true, false, ℤ, pos, length, Option, Err, Ok, None, Result}
use Rattle.std.proofs.Common.{sym, ap, ◌∙◌, append-nil, arith}
use Rattle.requests.specs.declared.Occultation.{Occultation}
use Rattle.calendar.specs.declared.Instant.{Instant}
use Rattle.sheet_types.specs.declared.refusals.Refusal.{Refusal}
use Rattle.sheet_types.specs.Refusals.{refusal}
use Rattle.sheet_format.specs.declared.kinds.Entry.{Entry}
use Rattle.sheet_format.specs.Kinds.{is_end}
use Rattle.sheet_rules.specs.Rules.{start}
use Rattle.sheet_format.specs.Records.{record_at}
use Rattle.sheet_format.specs.laws.RecordLaws.{record-bounds}
use Rattle.sheet_codec.specs.Sheets.{Sheet, sheet, refused, stored_at, read_sheet, read_whole, extent_of}
use Rattle.sheet_codec.specs.laws.SheetLaws.{read-start, extent_inv, extent_refused, whole_same}
use Rattle.sheet_codec.specs.laws.Rests.{Rest, rest-there, behind, rest-split, rest-last, rest_more}
use Rattle.decimal_text.specs.Texts.{Put}
use Rattle.decimal_text.specs.laws.RowLaws.{put_as, joined}
use Rattle.decimal_text.specs.laws.TextLaws.{Putting, putting_start, putting-turn, putting-end}
use Rattle.listing_lines.specs.Clock.{timed_line, timed_lines}
use Rattle.listing_lines.specs.laws.ClockLaws.{lines-nil, lines_cons, lines-off}
use Rattle.listing_lines.specs.Lines.{lines_of, refusal_line}
use Rattle.listing_lines.specs.declared.clock.Altitude.{Altitude}
use Rattle.listings.specs.declared.sky.View.{View}
use Rattle.listings.specs.declared.sky.View.TheVariants as Seen
use Rattle.listings.specs.Sky.{altitude_for, view_after, view_of, notes_for}
use Rattle.listings.specs.laws.SkyLaws.{view_nil, view_cons}
use Rattle.listings.specs.Answers.{text, answered, room_with}
use Rattle.listings.specs.laws.AnswerLaws.{text-short, text-full}
use Rattle.listings.specs.Listings.{listing_of, timed_of, told, timed, printed}

abbrev pub IsSheet : Sheet → Type 0
IsSheet (refused r) = ⊥
IsSheet (sheet es n) = Unit

-- its lines by a clock are put at a place, and what is seen at its contacts
abbrev pub Laid : Option Instant → ℤ → Option Occultation → Sheet → List ℕ → ℕ → List ℕ → ℕ → View → Type 0
Laid k d y (refused x) old at new r v = ⊥
Laid k d y (sheet es n) old at new r v = Put old at (timed_lines k d (altitude_for y) es) new r × (v ≡ view_of y Seen.Nothing es)

-- ---- the loop

-- the lines of the records before `from` are put, up to `at`, and v is what was seen there
pub record Laying (k : Option Instant) (d : ℤ) (y : Option Occultation) (s old : List ℕ) (begin : ℕ) (out : List ℕ) (from at : ℕ) (v : View) : Type 0 where
  pub n : ℕ
  pub all : List Entry
  pub size : ℕ
  pub whole : read_sheet s ≡ sheet all size
  pub rest : Rest (stored_at s) (length s) n from
  pub low : n ≤ from
  pub within : from ≤ length s
  pub putting : Putting old begin (timed_lines k d (altitude_for y) all) out at (timed_lines k d (altitude_for y) rest.es)
  pub seen : view_of y v rest.es ≡ view_of y Seen.Nothing all

pub laying_start : (k : Option Instant) (d : ℤ) (y : Option Occultation) (s out : List ℕ) (at : ℕ) → at < 18446744073709551616 → length out < 18446744073709551616 → IsSheet (read_sheet s)
    → Laying k d y s out at out 0 at Seen.Nothing
laying_start k d y s out at f l h = by (read_sheet s) refl h
  where
    by : (w : Sheet) → read_sheet s ≡ w → IsSheet w → Laying k d y s out at out 0 at Seen.Nothing
    by (refused r) q h = absurd h
    by (sheet es n) q h =
        record {
          n = 0;
          all = es;
          size = n;
          whole = q;
          rest = record { p = start; es = es; long = n; is = sym (read-start s) ∙ q };
          low = omega arith;
          within = omega arith;
          putting = putting_start out at (timed_lines k d (altitude_for y) es) f l;
          seen = refl;
        }

module _ (k : Option Instant) (d : ℤ) (y : Option Occultation) (s old : List ℕ) (begin : ℕ) (out : List ℕ) (from at : ℕ) (v : View) (f : Laying k d y s old begin out from at v) where
  pub laying-never : (r : Refusal) → record_at s from ≡ Err r → ⊥
  laying-never r q = rest-there f.rest r q

  module _ (e : Entry) (next : ℕ) (q : record_at s from ≡ Ok (e, next)) (x : Altitude) (seen_at : x ≡ altitude_for y e) (new : List ℕ) (r : ℕ)
      (put-at : Put out at (timed_line k d x e) new r) where
    put : Put out at (timed_line k d (altitude_for y e) e) new r
    put = put_as _ _ out at new r (ap (λ z. timed_line k d z e) seen_at) put-at

    split : timed_lines k d (altitude_for y) f.rest.es ≡ timed_line k d (altitude_for y e) e ++ timed_lines k d (altitude_for y) (behind f.rest)
    split = ap (timed_lines k d (altitude_for y)) (rest-split f.rest e next q) ∙ lines_cons k d (altitude_for y) e (behind f.rest)

    further : Putting old begin (timed_lines k d (altitude_for y) f.all) new r (timed_lines k d (altitude_for y) (behind f.rest))
    further =
        putting-turn old begin (timed_lines k d (altitude_for y) f.all) out at (timed_line k d (altitude_for y e) e)
        (timed_lines k d (altitude_for y) (behind f.rest)) new r (rw split at f.putting) put

    pub laying-bounds : (from < next) × (next ≤ length s)
    laying-bounds = record-bounds s from e next q

    -- what is seen with this entry and after it
    seen-on : view_of y (view_after v e (altitude_for y e)) (behind f.rest) ≡ view_of y Seen.Nothing f.all
    seen-on = sym (view_cons y v e (behind f.rest)) ∙ sym (ap (view_of y v) (rest-split f.rest e next q)) ∙ f.seen

    pub laying-end : (w : View) → w ≡ view_after v e x → is_end e.kind ≡ true → Laid k d y (read_sheet s) old begin new r w
    laying-end w m b =
        let last = rest-last f.rest e next q b in
        let t : timed_lines k d (altitude_for y) (behind f.rest) ≡ [] = ap (timed_lines k d (altitude_for y)) last ∙ lines-nil k d (altitude_for y) in
        let u : view_after v e (altitude_for y e) ≡ view_of y Seen.Nothing f.all =
        sym (view_nil y _) ∙ ap (view_of y (view_after v e (altitude_for y e))) (sym last) ∙ seen-on in
        rw f.whole (putting-end old begin (timed_lines k d (altitude_for y) f.all) new r (rw t at further), m ∙ ap (view_after v e) seen_at ∙ u)

    pub laying-more : (w : View) → w ≡ view_after v e x → is_end e.kind ≡ false → Laying k d y s old begin new next r w
    laying-more w m b =
        let c = laying-bounds in
        record {
          n = f.n + 1;
          all = f.all;
          size = f.size;
          whole = f.whole;
          rest = rest_more f.rest e next q b (omega (arith, f.low));
          low = omega (arith, f.low);
          within = c.1;
          putting = further;
          seen = ap (λ z. view_of y z (behind f.rest)) (m ∙ ap (view_after v e) seen_at) ∙ seen-on;
        }

-- ---- measured, then put

-- with no clock and no altitude the lines are the sheet's own
plain : (es : List Entry) (old : List ℕ) (at : ℕ) (new : List ℕ) (r : ℕ) → Put old at (timed_lines None (pos 0) (altitude_for None) es) new r
    → Put old at (lines_of es) new r
plain es old at new r p = put_as _ _ old at new r (lines-off (pos 0) (altitude_for None) (λ e. refl) es) p

module _ (w : Sheet) (none after old : List ℕ) (need : ℕ) (n : View) (m : Laid None (pos 0) None w none 0 after need n) (h : length old < 18446744073709551615) where
  pub sheet-short : length old < need → (Err (refusal 4 need) ≡ answered (length old) (listing_of w)) × (old ≡ room_with (listing_of w) old)
  sheet-short g = by w m
    where
      by : (v : Sheet) → Laid None (pos 0) None v none 0 after need n → (Err (refusal 4 need) ≡ answered (length old) (listing_of v)) × (old ≡ room_with (listing_of v) old)
      by (refused r) q = absurd q
      by (sheet es size) q = text-short (lines_of es) none after old need (plain es none 0 after need q.0) h g

  pub sheet-full : need ≤ length old → (new : List ℕ) (r : ℕ) (p : View) → Laid None (pos 0) None w old 0 new r p
      → (Ok need ≡ answered (length old) (listing_of w)) × (new ≡ room_with (listing_of w) old)
  sheet-full g new r p d = by w m d
    where
      by : (v : Sheet) → Laid None (pos 0) None v none 0 after need n → Laid None (pos 0) None v old 0 new r p
          → (Ok need ≡ answered (length old) (listing_of v)) × (new ≡ room_with (listing_of v) old)
      by (refused x) q d = absurd q
      by (sheet es size) q d = text-full (lines_of es) none after old need (plain es none 0 after need q.0) h g new r (plain es old 0 new r d.0)

-- ---- what the reader found

pub whole_sheet : (s : List ℕ) (m n : ℕ) → Ok (m, n) ≡ extent_of (read_whole s) → IsSheet (read_sheet s)
whole_sheet s m n q = let x = extent_inv (read_whole s) m n q in rw (← whole_same s m n q) (rw x.1 tt)

pub whole_refused : (s : List ℕ) (r : Refusal) (old : List ℕ) → Err r ≡ extent_of (read_whole s)
    → (Err r ≡ answered (length old) (told s)) × (old ≡ room_with (told s) old)
unfolding told answered room_with
whole_refused s r old q = rw (extent_refused (read_whole s) r q) (refl, refl)

pub whole-told : (s : List ℕ) (m n : ℕ) (old new : List ℕ) (r : Result ℕ Refusal) → Ok (m, n) ≡ extent_of (read_whole s)
    → r ≡ answered (length old) (listing_of (read_sheet s)) → new ≡ room_with (listing_of (read_sheet s)) old
    → (r ≡ answered (length old) (told s)) × (new ≡ room_with (told s) old)
unfolding told
whole-told s m n old new r q a b = rw (whole_same s m n q) (a, b)

-- ---- what is printed

module _ (k : Option Instant) (d : ℤ) (y : Option Occultation) (s old : List ℕ) (at : ℕ) (new : List ℕ) (q : ℕ) where
  pub refused-printed : (r : Refusal) → Err r ≡ extent_of (read_whole s) → Put old at (refusal_line r.number r.place) new q
      → Put old at (printed (timed k d y s)) new q
  unfolding timed
  refused-printed r x p = rw (extent_refused (read_whole s) r x) p

  pub sheet-printed : (m n : ℕ) → Ok (m, n) ≡ extent_of (read_whole s) → length old < 18446744073709551616 → (mid : List ℕ) (r : ℕ) (v : View)
      → Laid k d y (read_sheet s) old at mid r v → Put mid r (notes_for y v) new q → Put old at (printed (timed k d y s)) new q
  unfolding timed
  sheet-printed m n x l mid r v p w = rw (whole_same s m n x) (by (read_sheet s) p)
    where
      by : (z : Sheet) → Laid k d y z old at mid r v → Put old at (printed (timed_of k d y z)) new q
      by (refused r) p = absurd p
      by (sheet es j) p = joined l p.0 (put_as _ _ mid r new q (ap (notes_for y) p.1) w)

-- with no clock and no occultation it is the sheet's own listing
pub timed-off : (d : ℤ) (s : List ℕ) → timed None d None s ≡ told s
unfolding timed told
timed-off d s = by (read_whole s)
  where
    by : (w : Sheet) → timed_of None d None w ≡ listing_of w
    by (refused r) = refl
    by (sheet es n) =
        ap text (append-nil (timed_lines None d (altitude_for None) es) ∙ lines-off d (altitude_for None) (λ e. refl) es)

-- The lines of a text one after the other, as they are read.
use Rattle.std.specs.Prelude.{◌≡◌, Bool, true, false, ◌||◌, List, [], ◌∷◌, map, ℕ, ◌+◌, ◌≤◌, length, drop, Result, Option, Ok, None, Option, ◌<◌}
use Rattle.std.proofs.Math.Path.{refl}
use Rattle.std.proofs.Common.{sym, ap, ap₂, ◌∙◌, arith}
use Rattle.request_text.specs.declared.instants.Wrong.{Wrong}
use Rattle.calendar.specs.declared.Instant.{Instant}
use Rattle.request_format.specs.Rows.{letters}
use Rattle.tokens.specs.Text.{lines_of, run_of}
use Rattle.tokens.specs.laws.TextLaws.{rest-is, line_at, line-within, line-next, lines_end}
use Rattle.tokens.specs.laws.NumberLaws.{part}
use Rattle.request_text.specs.Lines.{said, names_instant, names_offset}
use Rattle.request_text.specs.laws.NameLaws.{named-length}
use Rattle.request_text.specs.laws.Beside.{emptied, emptied_not}
use Rattle.request_text.specs.Instants.{instant_of, seconds_in}
use Rattle.request_text.specs.Told.{over_lines, after_name, taken, told_after, offset_taken, offset_after, with_offset, told_in}
use Rattle.tokens.specs.declared.Class.TheVariants as C

-- ---- a line

module _ (l : List ℕ) where
  -- the name is a part of what is said
  pub name-within : names_instant l ≡ true → 7 ≤ length (said l)
  name-within e = named-length (letters "instant") (said l) e

  pub offset-within : names_offset l ≡ true → 7 ≤ length (said l)
  offset-within e = named-length (letters "tai-utc") (said l) e

  pub after-name : (x : List ℕ) → x ≡ said l → part x 7 ≡ after_name l
  after-name x e = rest-is x 7 ∙ ap (drop 7) e

module _ (i : ℕ) (l : List ℕ) (told : Result (Option Instant) (ℕ × Wrong)) (old : Option Instant) (e : told ≡ Ok old) where
  pub told-given : (r : Option Instant) → names_instant l ≡ true → r ≡ instant_of (after_name l) → taken i r old ≡ told_after i l told
  told-given r y q = rw (e, y, q)

  pub told_same : names_instant l ≡ false → Ok old ≡ told_after i l told
  told_same y = rw (e, y)

module _ (i : ℕ) (l : List ℕ) (old : Result (Option (ℕ × ℕ)) (ℕ × Wrong)) where
  pub offset-given : (n : ℕ) → names_offset l ≡ true → n ≡ seconds_in (after_name l) → offset_taken i n old ≡ offset_after i l old
  offset-given n y q = rw (y, q)

  pub offset-same : names_offset l ≡ false → old ≡ offset_after i l old
  offset-same y = rw y

-- ---- the lines

module _ (A : Type 0) (step : ℕ → List ℕ → A → A) where
  over_none : (i : ℕ) (told : A) → over_lines A step [] i told ≡ told
  unfolding over_lines
  over_none i told = refl

  over-next : (l : List ℕ) (ls : List (List ℕ)) (i : ℕ) (told : A) → over_lines A step (l ∷ ls) i told ≡ over_lines A step ls (i + 1) (step i l told)
  unfolding over_lines
  over-next l ls i told = refl

  -- one more line
  pub over-line : (l : List ℕ) (ls all : List (List ℕ)) (i j : ℕ) (told next : A) → all ≡ l ∷ ls → j ≡ i + 1 → next ≡ step i l told
      → over_lines A step all i told ≡ over_lines A step ls j next
  over-line l ls all i j told next e q n = rw (e, q, n) (over-next l ls i told)

  pub over-end : (all : List (List ℕ)) (i : ℕ) (told : A) → all ≡ [] → over_lines A step all i told ≡ told
  over-end all i told e = rw e (over_none i told)

-- this is the parse result of the lines before byte `at`; the next is line i
pub record Walked (A : Type 0) (step : ℕ → List ℕ → A → A) (first : A) (text : List ℕ) (told : A) (at i : ℕ) : Type 0 where
  pub rest : over_lines A step (lines_of text) 1 first ≡ over_lines A step (lines_of (drop at text)) i told
  pub lines : i ≤ at + 1
  pub place : at ≤ length text + 1

module _ (A : Type 0) (step : ℕ → List ℕ → A → A) (first : A) (text : List ℕ) where
  pub walked_none : Walked A step first text first 0 1
  walked_none = record { rest = refl; lines = omega arith; place = omega arith }

  module _ (told : A) (at i : ℕ) (w : Walked A step first text told at i) where
    pub walked_all : length text ≤ at → told ≡ over_lines A step (lines_of text) 1 first
    walked_all h = sym (w.rest ∙ ap (λ (ls : List (List ℕ)). over_lines A step ls i told) (lines_end text at h) ∙ over_none A step i told)

    module _ (n : ℕ) (h : at < length text) (e : n ≡ run_of C.Line (drop at text)) where
      pub walked_more : (next : A) → next ≡ step i (line_at text at n h e) told → Walked A step first text next (at + n + 1) (i + 1)
      walked_more next q =
          record {
            rest = w.rest ∙ ap (λ (ls : List (List ℕ)). over_lines A step ls i told) (line-next text at n h e)
                ∙ over-next A step (line_at text at n h e) (lines_of (drop (at + n + 1) text)) i told
                ∙ ap (over_lines A step (lines_of (drop (at + n + 1) text)) (i + 1)) (sym q);
            lines = omega (arith, w.lines);
            place = omega (arith, line-within text at n h e);
          }

-- ---- a text without its instant

-- of lines that change nothing
still : (A : Type 0) (step : ℕ → List ℕ → A → A) (told : A) → ((i : ℕ) (l : List ℕ) → step i (emptied l) told ≡ told)
    → (ls : List (List ℕ)) (i : ℕ) → over_lines A step (map emptied ls) i told ≡ told
still A step told h [] i = over_none A step i told
still A step told h (l ∷ ls) i =
    over-next A step (emptied l) (map emptied ls) i told
    ∙ ap (over_lines A step (map emptied ls) (i + 1)) (h i l)
    ∙ still A step told h ls (i + 1)

neither : (a b : Bool) → (a || b) ≡ false → (a ≡ false) × (b ≡ false)
neither false false e = (refl, refl)
neither false true e = let z : ◌≡◌ {A = ℕ} 0 1 = cc in absurd (omega arith)
neither true b e = let z : ◌≡◌ {A = ℕ} 0 1 = cc in absurd (omega arith)

-- where the lines that name the instant or TAI-UTC are empty, nothing is told of them
module _ (i : ℕ) (l : List ℕ) where
  none_named : (names_instant (emptied l) ≡ false) × (names_offset (emptied l) ≡ false)
  none_named = neither (names_instant (emptied l)) (names_offset (emptied l)) (emptied_not l)

  instant-still : told_after i (emptied l) (Ok None) ≡ Ok None
  instant-still = sym (told_same i (emptied l) (Ok None) None refl none_named.0)

  offset-still : offset_after i (emptied l) (Ok None) ≡ Ok None
  offset-still = sym (offset-same i (emptied l) (Ok None) none_named.1)

pub told-emptied : (text other : List ℕ) → lines_of other ≡ map emptied (lines_of text) → told_in other ≡ Ok None
unfolding told_in
told-emptied text other e =
    ap₂ with_offset
    (ap (λ (ls : List (List ℕ)). over_lines (Result (Option Instant) (ℕ × Wrong)) told_after ls 1 (Ok None)) e
    ∙ still (Result (Option Instant) (ℕ × Wrong)) told_after (Ok None) (λ i l. instant-still i l) (lines_of text) 1)
    (ap (λ (ls : List (List ℕ)). over_lines (Result (Option (ℕ × ℕ)) (ℕ × Wrong)) offset_after ls 1 (Ok None)) e
    ∙ still (Result (Option (ℕ × ℕ)) (ℕ × Wrong)) offset_after (Ok None) (λ i l. offset-still i l) (lines_of text) 1)

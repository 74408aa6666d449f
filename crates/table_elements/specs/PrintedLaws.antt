-- The parts of what is printed; and a text read line by line, each line's part put.
use Rattle.std.specs.Prelude.{ℕ, ◌+◌, ◌-◌, ◌*◌, ◌≤◌, ◌<◌, ◌≡◌, refl, Bool, true, false, cond, eqb, ℤ, length, take, Result, Ok, Err}
use Rattle.std.proofs.Common.{sym, ◌∙◌, arith, le-ltb, lt-ltb, eq-eqb, ne_eqb, eqb-true, length-append, take_all, length-take-le}
use Rattle.std.proofs.Math.Path.{ap}
use mathlib.Core.List.{List, [], ◌∷◌, ◌++◌, append-nil}
use Rattle.std.proofs.lemmas.Bool.{eqb-false}
use Rattle.std.proofs.Math.ListN.{drop, drop_of_length-le}
use Rattle.sheet_types.specs.declared.refusals.Refusal.{Refusal}
use Rattle.decimal_text.specs.Texts.{letters, Put}
use Rattle.decimal_text.specs.Decimals.{decimal}
use Rattle.decimal_text.specs.laws.TextLaws.{put_nil, Putting, putting_start, putting-turn, putting-end}
use Rattle.decimal_text.specs.laws.RowLaws.{put_as, joined}
use Rattle.listing_lines.specs.Lines.{refusal_line}
use Rattle.besselian_rows.specs.Tables.{answer_to, values_of, values_after}
use Rattle.table_elements.specs.declared.Extent.{Extent}
use Rattle.table_elements.specs.declared.Extent.TheVariants as R
use Rattle.table_elements.specs.declared.typed_rows.Fault.{Fault}
use Rattle.table_elements.specs.declared.typed_rows.Fault.TheVariants as F
use Rattle.table_elements.specs.Reading.{Said, nothing, row, faulty, line_of, lines_of}
use Rattle.tokens.specs.declared.Class.TheVariants as C
use Rattle.tokens.specs.Text.{run_of}
use Rattle.tokens.specs.laws.TextLaws.{rest-is}
use Rattle.table_elements.specs.ReadingLaws.{answer_of, Stored}
use Rattle.table_elements.specs.laws.LineLaws.{Left, line-within, next-line}
use Rattle.table_elements.specs.Printed.{values_text, table_text, message_of, fault_line, Streams, told, first, of_line, read_lines, printed}

-- what a line adds to the output, where it is that row, from 0, of its table; and the rows of the table after it
abbrev pub whole_text : Result Bool Fault → ℕ → List ℤ → List ℕ
whole_text (Ok true) k numbers = cond (eqb k 6) (table_text numbers) []
whole_text (Ok false) k numbers = []
whole_text (Err f) k numbers = []

abbrev pub rows_after : Result Bool Fault → ℕ → ℕ
rows_after (Ok true) k = cond (eqb k 6) 0 (k + 1)
rows_after (Ok false) k = k
rows_after (Err f) k = k

-- how many bytes the tables of a text take, and the report of its fault
abbrev pub output_of : Extent → ℕ
output_of (R.Whole o) = o
output_of (R.Faulty o k f) = o

abbrev pub error_of : Extent → List ℕ
error_of (R.Whole o) = []
error_of (R.Faulty o k f) = fault_line k f

-- ---- a table

module _ (numbers : List ℤ) (a : Result Unit Refusal) (k : ℕ) (e : a ≡ answer_to numbers k) (h : k ≡ 56) where
  answered : answer_to numbers 56 ≡ a
  answered = ap (answer_to numbers) (sym h) ∙ sym e

  module _ (old : List ℕ) (at : ℕ) (new : List ℕ) (r : ℕ) where
    pub table-made : a ≡ Ok tt → (before values : List ℤ) → length before ≡ 56 → values ≡ values_after (answer_to numbers k) numbers before
        → Put old at (values_text values) new r → Put old at (table_text numbers) new r
    unfolding table_text
    table-made q before values l v p =
        let w : values ≡ values_of numbers 7 ++ drop 56 before = v ∙ ap (λ x. values_after x numbers before) (sym e ∙ q) in
        let d : drop 56 before ≡ [] = drop_of_length-le before {i = 56} (omega arith) in
        rw (answered, q) (put_as _ _ old at new r (ap values_text (w ∙ ap (λ l. values_of numbers 7 ++ l) d ∙ append-nil (values_of numbers 7))) p)

    pub table-refused : (x : Refusal) → a ≡ Err x → Put old at (refusal_line x.number x.place) new r → Put old at (table_text numbers) new r
    unfolding table_text
    table-refused x q p = rw (answered, q) p

pub put_parts : (k : ℕ) (f : Fault) (old a b new : List ℕ) (p q r : ℕ) → length old < 18446744073709551616 → Put old 0 (letters "line ") a p
    → Put a p (decimal k) b q → Put b q (message_of f) new r → Put old 0 (fault_line k f) new r
unfolding fault_line
put_parts k f old a b new p q r h x y z = joined h (joined h x y) z

-- ---- line by line

lines-nil : (k : ℕ) (seen : List ℤ) → read_lines [] k seen ≡ told (cond (eqb (length seen) 0) [] (fault_line k F.Unfinished))
unfolding read_lines
lines-nil k seen = refl

lines_cons : (l : List ℕ) (ls : List (List ℕ)) (k : ℕ) (seen : List ℤ) → read_lines (l ∷ ls) k seen ≡ of_line (line_of l) k seen (read_lines ls (k + 1))
unfolding read_lines
lines_cons l ls k seen = refl

-- what the text comes to
abbrev pub whole : List ℕ → Streams
whole text = read_lines (lines_of text) 1 []

-- the lines before byte `from` are read and their parts put; the table's rows so far are at the start of the buffer
pub record Reading (text old out : List ℕ) (at : ℕ) (numbers : List ℤ) (k line from : ℕ) : Type 0 where
  pub ls : List (List ℕ)
  pub left : Left text from ls
  pub low : k ≤ 6
  pub near : line ≤ from + 1
  pub within : from ≤ length text + 1
  pub room : length numbers ≡ 42
  pub same : length out ≡ length old
  pub putting : Putting old 0 (whole text).output out at (read_lines ls line (take (6 * k) numbers)).output
  pub error : (read_lines ls line (take (6 * k) numbers)).error ≡ (whole text).error

module _ (text old : List ℕ) where
  pub reading-start : (numbers : List ℤ) → length numbers ≡ 42 → length old < 18446744073709551616 → Reading text old old 0 numbers 0 1 0
  reading-start numbers h g =
      record {
        ls = lines_of text;
        left = record { none = λ x. absurd (omega arith); some = λ x. refl };
        low = omega arith;
        near = omega arith;
        within = omega arith;
        room = h;
        same = refl;
        putting = putting_start old 0 (whole text).output (omega arith) g;
        error = refl;
      }

  module _ (out : List ℕ) (at : ℕ) (numbers : List ℤ) (k line from : ℕ) (f : Reading text old out at numbers k line from) where
    -- no line is left
    module _ (h : length text < from) where
      done : read_lines f.ls line (take (6 * k) numbers) ≡ told (cond (eqb (length (take (6 * k) numbers)) 0) [] (fault_line line F.Unfinished))
      done = ap (λ ls. read_lines ls line (take (6 * k) numbers)) (f.left.none h) ∙ lines-nil line (take (6 * k) numbers)

      size : length (take (6 * k) numbers) ≡ 6 * k
      size = length-take-le (6 * k) numbers (omega (arith, f.low, f.room))

      pub end-output : Put old 0 (whole text).output out at
      end-output = putting-end old 0 (whole text).output out at (rw (ap (λ s. s.output) done) at f.putting)

      pub end_whole : k ≡ 0 → (whole text).error ≡ []
      end_whole e =
          let z : length (take (6 * k) numbers) ≡ 0 = omega (arith, size) in
          sym f.error ∙ ap (λ s. s.error) done ∙ rw (eq-eqb (length (take (6 * k) numbers)) 0 z)

      pub end-begun : (k ≡ 0 → ⊥) → (whole text).error ≡ fault_line line F.Unfinished
      end-begun n =
          let z : length (take (6 * k) numbers) ≡ 0 → ⊥ = λ x. n (omega (arith, size)) in
          sym f.error ∙ ap (λ s. s.error) done ∙ rw (ne_eqb (length (take (6 * k) numbers)) 0 z)

    -- the next line
    module _ (h : from ≤ length text) (n : ℕ) (run : n ≡ run_of C.Line (take (length text - from) (drop from text))) where
      e : n ≡ run_of C.Line (drop from text)
      e = run ∙ ap (run_of C.Line) (rest-is text from)

      pub reading-within : from + n ≤ length text
      reading-within = line-within text from n f.ls f.left h e

      abbrev lent : List ℕ
      lent = take (from + n - from) (drop from text)

      abbrev rest : List (List ℕ)
      rest = (next-line text from n f.ls f.left h e).0

      opened : read_lines f.ls line (take (6 * k) numbers) ≡ of_line (line_of lent) line (take (6 * k) numbers) (read_lines rest (line + 1))
      opened = ap (λ ls. read_lines ls line (take (6 * k) numbers)) (next-line text from n f.ls f.left h e).1 ∙ lines_cons lent rest line (take (6 * k) numbers)

      module _ (said : Result Bool Fault) (q : said ≡ answer_of (line_of lent)) where
        pub fault-output : (x : Fault) → said ≡ Err x → (Put old 0 (whole text).output out at) × ((whole text).error ≡ fault_line line x)
        fault-output x b = by (line_of lent) refl
          where
            by : (s : Said) → line_of lent ≡ s → (Put old 0 (whole text).output out at) × ((whole text).error ≡ fault_line line x)
            by nothing t = let y : Err x ≡ (Ok false) = sym b ∙ q ∙ ap answer_of t in let z : ◌≡◌ {A = ℕ} 0 1 = cc in absurd (omega arith)
            by (row ns) t = let y : Err x ≡ (Ok true) = sym b ∙ q ∙ ap answer_of t in let z : ◌≡◌ {A = ℕ} 0 1 = cc in absurd (omega arith)
            by (faulty y) t =
                let g : Err x ≡ Err y = sym b ∙ q ∙ ap answer_of t in
                let m : y ≡ x = cc in
                let o : read_lines f.ls line (take (6 * k) numbers) ≡ told (fault_line line y) = opened ∙ ap (λ s. of_line s line (take (6 * k) numbers) (read_lines rest (line + 1))) t in (
                  putting-end old 0 (whole text).output out at (rw (ap (λ s. s.output) o) at f.putting),
                  sym f.error ∙ ap (λ s. s.error) o ∙ ap (fault_line line) m,
                )

        -- it is no fault: its part is put
        module _ (after : List ℤ) (l : length after ≡ length numbers) (new : List ℕ) (r j : ℕ) where
          step : (x : List ℕ) (seen : List ℤ) → (read_lines f.ls line (take (6 * k) numbers)).output ≡ x ++ (read_lines rest (line + 1) seen).output
              → (read_lines f.ls line (take (6 * k) numbers)).error ≡ (read_lines rest (line + 1) seen).error → take (6 * j) after ≡ seen → j ≤ 6
              → Put out at x new r → Reading text old new r after j (line + 1) (from + n + 1)
          step x seen o u g low p =
              let t = putting-turn old 0 (whole text).output out at x (read_lines rest (line + 1) seen).output new r (rw o at f.putting) p in
              record {
                ls = rest;
                left = (next-line text from n f.ls f.left h e).2;
                low = low;
                near = omega (arith, f.near);
                within = omega (arith, reading-within);
                room = l ∙ f.room;
                same = t.same;
                putting = rw g t;
                error = rw g (sym u ∙ f.error);
              }

          pub reading-turn : ((x : Fault) → said ≡ Err x → ⊥) → Stored (line_of lent) (6 * k) numbers after → Put out at (whole_text said k after) new r
              → j ≡ rows_after said k → Reading text old new r after j (line + 1) (from + n + 1)
          reading-turn good st p i = by (line_of lent) refl
            where
              six : (ns : List ℤ) → line_of lent ≡ row ns → (b : Bool) → eqb k 6 ≡ b → Reading text old new r after j (line + 1) (from + n + 1)
              six ns t true b =
                  let v = st.some ns t in
                  let w : k ≡ 6 = eqb-true k 6 b in
                  let m : said ≡ (Ok true) = q ∙ ap answer_of t in
                  let z : j ≡ 0 = i ∙ ap (λ x. rows_after x k) m ∙ rw b in
                  let all : after ≡ take (6 * k) numbers ++ ns = sym (take_all (6 * k + 6) after (omega (arith, f.room))) ∙ v.1 in
                  let c : length (take (6 * k) numbers ++ ns) ≡ 42 = ap length (sym all) ∙ l ∙ f.room in
                  let o = opened ∙ ap (λ s. of_line s line (take (6 * k) numbers) (read_lines rest (line + 1))) t
                  ∙ ap (λ x. cond x (first (table_text (take (6 * k) numbers ++ ns)) (read_lines rest (line + 1) [])) (read_lines rest (line + 1) (take (6 * k) numbers ++ ns))) (eq-eqb _ 42 c) in
                  step (table_text (take (6 * k) numbers ++ ns)) [] (ap (λ s. s.output) o) (ap (λ s. s.error) o) (ap (λ x. take (6 * x) after) z) (omega arith)
                  (put_as _ _ out at new r (ap (λ x. whole_text x k after) m ∙ ap (λ x. cond x (table_text after) []) b ∙ ap table_text all) p)
              six ns t false b =
                  let v = st.some ns t in
                  let w : k ≡ 6 → ⊥ = eqb-false k 6 b in
                  let m : said ≡ (Ok true) = q ∙ ap answer_of t in
                  let z : j ≡ k + 1 = i ∙ ap (λ x. rows_after x k) m ∙ rw b in
                  let y : 6 * j ≡ 6 * k + 6 = omega arith in
                  let c : length (take (6 * k) numbers ++ ns) ≡ 6 * k + 6 = length-append (take (6 * k) numbers) ns
                  ∙ omega (arith, v.0, length-take-le (6 * k) numbers (omega (arith, f.low, f.room))) in
                  let d : length (take (6 * k) numbers ++ ns) ≡ 42 → ⊥ = λ x. w (omega arith) in
                  let o = opened ∙ ap (λ s. of_line s line (take (6 * k) numbers) (read_lines rest (line + 1))) t
                  ∙ ap (λ x. cond x (first (table_text (take (6 * k) numbers ++ ns)) (read_lines rest (line + 1) [])) (read_lines rest (line + 1) (take (6 * k) numbers ++ ns))) (ne_eqb _ 42 d) in
                  step [] (take (6 * k) numbers ++ ns) (ap (λ s. s.output) o) (ap (λ s. s.error) o) (ap (λ x. take x after) y ∙ v.1) (omega (arith, f.low))
                  (put_as _ _ out at new r (ap (λ x. whole_text x k after) m ∙ ap (λ x. cond x (table_text after) []) b) p)

              by : (s : Said) → line_of lent ≡ s → Reading text old new r after j (line + 1) (from + n + 1)
              by nothing t =
                  let m : said ≡ (Ok false) = q ∙ ap answer_of t in
                  let z : j ≡ k = i ∙ ap (λ x. rows_after x k) m in
                  let o = opened ∙ ap (λ s. of_line s line (take (6 * k) numbers) (read_lines rest (line + 1))) t in
                  step [] (take (6 * k) numbers) (ap (λ s. s.output) o) (ap (λ s. s.error) o) (ap (λ x. take (6 * x) after) z ∙ st.none t) (omega (arith, f.low))
                  (put_as _ _ out at new r (ap (λ x. whole_text x k after) m) p)
              by (faulty x) t = absurd (good x (q ∙ ap answer_of t))
              by (row ns) t = six ns t (eqb k 6) refl

-- ---- the whole text

module _ (text : List ℕ) where
  pub long-text : 65536 < length text → printed text ≡ told (letters "the text has more than 65,536 bytes\n")
  unfolding printed
  long-text h = rw (lt-ltb 65536 (length text) h)

  pub short-text : length text ≤ 65536 → printed text ≡ whole text
  unfolding printed
  short-text h = rw (le-ltb 65536 (length text) h)

  -- what was put, where the text is short enough
  pub respond-by : length text ≤ 65536 → (old new : List ℕ) (r : ℕ) → Put old 0 (whole text).output new r → (m : List ℕ) → (whole text).error ≡ m
      → (kept mid end : List ℕ) (q : ℕ) → mid ≡ kept → Put mid 0 m end q
      → (Put old 0 (printed text).output new r) × (Put kept 0 (printed text).error end q)
  respond-by h old new r p m e kept mid end q k w =
      let s = short-text h in
      (put_as _ _ old 0 new r (ap (λ x. x.output) (sym s)) p, rw (← k) (put_as _ _ mid 0 end q (sym (ap (λ x. x.error) s ∙ e)) w))

  pub respond-long : 65536 < length text → (old : List ℕ) (kept end : List ℕ) (q : ℕ) → Put kept 0 (letters "the text has more than 65,536 bytes\n") end q
      → (Put old 0 (printed text).output old 0) × (Put kept 0 (printed text).error end q)
  respond-long h old kept end q w =
      let s = long-text h in
      (put_as _ _ old 0 old 0 (ap (λ x. x.output) (sym s)) (put_nil old 0 (omega arith)), put_as _ _ kept 0 end q (ap (λ x. x.error) (sym s)) w)

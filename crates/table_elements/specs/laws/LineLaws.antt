-- A text read line by line.
use Rattle.std.specs.Prelude.{ℕ, suc, ◌+◌, ◌-◌, ◌≤◌, ◌<◌, ◌≡◌, refl, Bool, true, false, List, [], ◌∷◌, ltb, length, take, drop}
use Rattle.std.proofs.Common.{ap, ◌∙◌, arith, ltb-true, ltb-false, length-drop, drop-drop}
use Rattle.tokens.specs.declared.Class.TheVariants as C
use Rattle.tokens.specs.Text.{is_in, run_of, before}
use Rattle.tokens.specs.laws.TextLaws.{run_in, run_out, run-nil, run-le}
use Rattle.table_elements.specs.Reading.{lines_of}

line_in : (x : ℕ) (s : List ℕ) → is_in C.Line x ≡ true → lines_of (x ∷ s) ≡ before x (lines_of s)
unfolding lines_of
line_in x s e = rw e

line_out : (x : ℕ) (s : List ℕ) → is_in C.Line x ≡ false → lines_of (x ∷ s) ≡ [] ∷ lines_of s
unfolding lines_of
line_out x s e = rw e

lines-nil : lines_of [] ≡ [] ∷ []
unfolding lines_of
lines-nil = refl

-- no newline is left
lines-last : (s : List ℕ) → length s ≤ run_of C.Line s → lines_of s ≡ take (run_of C.Line s) s ∷ []
lines-last [] h = rw (lines-nil, run-nil C.Line)
lines-last (x ∷ s) h = by (is_in C.Line x) refl (lines-last s)
  where
    by : (b : Bool) → is_in C.Line x ≡ b → (length s ≤ run_of C.Line s → lines_of s ≡ take (run_of C.Line s) s ∷ [])
        → lines_of (x ∷ s) ≡ take (run_of C.Line (x ∷ s)) (x ∷ s) ∷ []
    by true e go = rw (line_in x s e, run_in C.Line x s e, go (omega (arith, run_in C.Line x s e)))
    by false e go = absurd (omega (arith, run_out C.Line x s e))

-- the first line, and those after its newline
lines_more : (s : List ℕ) → run_of C.Line s < length s → lines_of s ≡ take (run_of C.Line s) s ∷ lines_of (drop (suc (run_of C.Line s)) s)
lines_more [] h = absurd (omega arith)
lines_more (x ∷ s) h = by (is_in C.Line x) refl (lines_more s)
  where
    by : (b : Bool) → is_in C.Line x ≡ b
        → (run_of C.Line s < length s → lines_of s ≡ take (run_of C.Line s) s ∷ lines_of (drop (suc (run_of C.Line s)) s))
        → lines_of (x ∷ s) ≡ take (run_of C.Line (x ∷ s)) (x ∷ s) ∷ lines_of (drop (suc (run_of C.Line (x ∷ s))) (x ∷ s))
    by true e go = rw (line_in x s e, run_in C.Line x s e, go (omega (arith, run_in C.Line x s e)))
    by false e go = rw (line_out x s e, run_out C.Line x s e)

-- what is left of a text's lines from byte `from` on
pub record Left (text : List ℕ) (from : ℕ) (ls : List (List ℕ)) : Type 0 where
  pub none : length text < from → ls ≡ []
  pub some : from ≤ length text → ls ≡ lines_of (drop from text)

-- the line there, as a loop borrows it, and the lines after it
module _ (text : List ℕ) (from n : ℕ) (ls : List (List ℕ)) (f : Left text from ls) (h : from ≤ length text) (e : n ≡ run_of C.Line (drop from text)) where
  pub line-within : from + n ≤ length text
  line-within = omega (arith, e, run-le C.Line (drop from text), length-drop from text)

  pub next-line : (rest : List (List ℕ)) × (ls ≡ take (from + n - from) (drop from text) ∷ rest) × Left text (from + n + 1) rest
  next-line = by (ltb (from + n) (length text)) refl
    where
      lent : take (run_of C.Line (drop from text)) (drop from text) ≡ take (from + n - from) (drop from text)
      lent = let k : run_of C.Line (drop from text) ≡ from + n - from = omega arith in ap (λ j. take j (drop from text)) k

      by : (b : Bool) → ltb (from + n) (length text) ≡ b
          → (rest : List (List ℕ)) × (ls ≡ take (from + n - from) (drop from text) ∷ rest) × Left text (from + n + 1) rest
      by true b =
          let g = ltb-true (from + n) (length text) b in
          let k : from + suc (run_of C.Line (drop from text)) ≡ from + n + 1 = omega arith in
          let d : drop (suc (run_of C.Line (drop from text))) (drop from text) ≡ drop (from + n + 1) text = drop-drop (suc (run_of C.Line (drop from text))) from text ∙ ap (λ j. drop j text) k in (
            lines_of (drop (from + n + 1) text),
            f.some h ∙ lines_more (drop from text) (omega (arith, length-drop from text)) ∙ ap (λ l. l ∷ lines_of (drop (suc (run_of C.Line (drop from text))) (drop from text))) lent
                ∙ ap (λ l. take (from + n - from) (drop from text) ∷ lines_of l) d,
            record { none = λ x. absurd (omega arith); some = λ x. refl },
          )
      by false b =
          let g = ltb-false (from + n) (length text) b in (
            [],
            f.some h ∙ lines-last (drop from text) (omega (arith, length-drop from text)) ∙ ap (λ l. l ∷ []) lent,
            record { none = λ x. refl; some = λ x. absurd (omega arith) },
          )

-- The lines of a text one after the other, by the byte at which the next one begins.
use Rattle.std.specs.Prelude.{◌≡◌, List, ℕ, ◌+◌, ◌≤◌, ◌<◌, ℤ, pos, length, take, drop, set, replicate, Result, Ok, Err, Option}
use Rattle.std.proofs.Common.{sym, ap, ◌∙◌, arith, length-set}
use Rattle.std.proofs.lemmas.List.{length-replicate}
use Rattle.request_format.specs.declared.fields.Shape.{Shape}
use Rattle.request_format.specs.Fields.{countOf}
use Rattle.tokens.specs.declared.Class.TheVariants as C
use Rattle.tokens.specs.Text.{run_of, lines_of}
use Rattle.tokens.specs.laws.TextLaws.{line_at, line-within, line-next, lines_end}
use Rattle.request_text.specs.declared.Fault.{Fault}
use Rattle.request_text.specs.Lines.{number_in}
use Rattle.request_text.specs.Typing.{noted_of, marks_after, numbers_after, missing, Typing, given, refused, onward, required, read_lines, typing_of, answer_of}
use Rattle.request_text.specs.laws.TypingLaws.{read-end, read-line, untyped-is, Read}

-- the lines before byte `at` were taken, and left these marks and numbers; the next is line i
pub record Walked (shape : Shape) (text : List ℕ) (marks : List ℕ) (ns : List ℤ) (at i : ℕ) : Type 0 where
  pub reading : typing_of shape text ≡ read_lines shape (lines_of (drop at text)) i ns marks
  pub lines : i ≤ at + 1
  pub place : at ≤ length text + 1
  pub marked : length marks ≡ countOf shape
  pub fields : length ns ≡ countOf shape

pub typing_start : (shape : Shape) (text marks : List ℕ) (ns : List ℤ) → marks ≡ replicate (countOf shape) 0 → ns ≡ replicate (countOf shape) (pos 0)
    → Walked shape text marks (set ns (required shape) (pos 16)) 0 1
unfolding typing_of
typing_start shape text marks ns m n =
    record {
      reading = rw (m, n, untyped-is shape);
      lines = omega arith;
      place = omega arith;
      marked = ap length m ∙ length-replicate (countOf shape) 0;
      fields = length-set ns (required shape) (pos 16) ∙ ap length n ∙ length-replicate (countOf shape) (pos 0);
    }

module _ (shape : Shape) (text marks : List ℕ) (ns : List ℤ) (at i : ℕ) (w : Walked shape text marks ns at i) where
  read-fault : (f : Fault) (found : List ℤ) → typing_of shape text ≡ refused i f → Read shape text (Err (i, f)) found
  read-fault f found e = record { answer = ap answer_of (sym e); all = λ q. let z : ◌≡◌ {A = ℕ} 0 1 = cc in absurd (omega arith) }

  at-end : length text ≤ at → typing_of shape text ≡ onward (missing 0 (take (required shape) marks)) i (given ns)
  at-end h = w.reading ∙ ap (λ (l : List (List ℕ)). read_lines shape l i ns marks) (lines_end text at h) ∙ read-end shape i ns marks

  pub end-missing : length text ≤ at → (f : Fault) → missing 0 (take (required shape) marks) ≡ Err f → Read shape text (Err (i, f)) ns
  end-missing h f e = read-fault f ns (at-end h ∙ ap (λ (m : Result Unit Fault). onward m i (given ns)) e)

  pub end-all : length text ≤ at → missing 0 (take (required shape) marks) ≡ Ok tt → Read shape text (Ok tt) ns
  end-all h e = let t = at-end h ∙ ap (λ (m : Result Unit Fault). onward m i (given ns)) e in record { answer = ap answer_of (sym t); all = λ q. t }

  module _ (n : ℕ) (h : at < length text) (e : n ≡ run_of C.Line (drop at text)) where
    -- the line that stands there
    abbrev pub line : List ℕ
    line = line_at text at n h e

    abbrev pub told : Result (Option (ℕ × ℤ)) Fault
    told = number_in shape line

    abbrev rest : Typing
    rest = read_lines shape (lines_of (drop (at + n + 1) text)) (i + 1) (numbers_after told marks ns) (marks_after told marks)

    at-line : typing_of shape text ≡ onward (noted_of told marks) i rest
    at-line = w.reading ∙ ap (λ (l : List (List ℕ)). read_lines shape l i ns marks) (line-next text at n h e)
        ∙ read-line shape line (lines_of (drop (at + n + 1) text)) i ns marks

    pub line_refused : (f : Fault) (found : List ℤ) → noted_of told marks ≡ Err f → Read shape text (Err (i, f)) found
    line_refused f found q = read-fault f found (at-line ∙ ap (λ (m : Result Unit Fault). onward m i rest) q)

    pub line_taken : (new : List ℕ) (after : List ℤ) → noted_of told marks ≡ Ok tt → new ≡ marks_after told marks → after ≡ numbers_after told marks ns
        → length new ≡ countOf shape → length after ≡ countOf shape → Walked shape text new after (at + n + 1) (i + 1)
    line_taken new after q p r lm la =
        record {
          reading = at-line ∙ ap (λ (m : Result Unit Fault). onward m i rest) q ∙ rw (p, r);
          lines = omega (arith, w.lines);
          place = omega (arith, line-within text at n h e);
          marked = lm;
          fields = la;
        }

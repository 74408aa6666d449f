-- The lines of a text one after the other, by the byte at which the next one begins.
use Prim.Native.Nat.{ℕ, ◌+◌, ◌≤◌, ◌<◌}
use Rattle.std.specs.Prelude.{◌≡◌, ℤ, pos, take, drop, set, replicate, Result, Ok, Err}
use Rattle.std.proofs.Math.Path.{refl, ap, subst}
use Rattle.std.proofs.Common.{sym, ◌∙◌, arith, length-set}
use mathlib.Core.List.{List, []}
use Rattle.std.proofs.Math.ListN.{length}
use Rattle.clock_network.specs.declared.stations.Node.{Node}
use Rattle.clock_network.specs.declared.stations.Held.{Held}
use Rattle.clock_network.specs.Held.{empty_of, held_of}
use Rattle.clock_network.specs.laws.HeldLaws.{held-holds}
use Rattle.tokens.specs.declared.Class.TheVariants as C
use Rattle.tokens.specs.Text.{run_of, lines_of}
use Rattle.tokens.specs.laws.TextLaws.{line_at, line-within, line-next, lines_end}
use Rattle.request_text.specs.Typing as typing
use Rattle.network_text.specs.declared.Fault.{Fault}
use Rattle.network_text.specs.declared.Said.{Said}
use Rattle.network_text.specs.Lines.{told_of}
use Rattle.network_text.specs.Typing.{Listed, taken, faulty, listed_by, noted_of, marks_after, numbers_after, nodes_after, Typing, given, refused, onward, read_lines, marks_before, typing_of, held}
use Rattle.network_text.specs.laws.TypingLaws.{heldAfter, held_after, nodes_more, answer_by, read-end, read-line, Read}

-- the lines before byte `at` were taken, and left these marks, numbers and stations; the next is line i
pub record Walked (text : List ℕ) (marks : List ℕ) (ns : List ℤ) (h : Held) (at i : ℕ) : Type 0 where
  pub nodes : List Node
  pub reading : typing_of text ≡ read_lines (lines_of (drop at text)) i ns marks nodes
  pub holding : h ≡ held nodes
  pub few : length nodes < i
  pub lines : i ≤ at + 1
  pub place : at ≤ length text + 1
  pub marked : length marks ≡ 30
  pub fields : length ns ≡ 30

pub walked_start : (text marks : List ℕ) (ns : List ℤ) (h : Held) → marks ≡ marks_before → ns ≡ replicate 30 (pos 0) → h ≡ empty_of 0
    → Walked text marks (set ns 29 (pos 16)) h 0 1
unfolding typing_of held_of
walked_start text marks ns h m n e =
    record {
      nodes = [];
      reading = rw (m, n);
      holding = e;
      few = omega arith;
      lines = omega arith;
      place = omega arith;
      marked = ap length m;
      fields = length-set ns 29 (pos 16) ∙ ap length n;
    }

-- one more can be counted
pub walked_count : (text marks : List ℕ) (ns : List ℤ) (h : Held) (at i : ℕ) → Walked text marks ns h at i → h.count < i
walked_count text marks ns h at i w = omega (arith, w.few, ap (λ (g : Held). g.count) w.holding, (held-holds w.nodes).count)

module _ (text marks : List ℕ) (ns : List ℤ) (h : Held) (at i : ℕ) (w : Walked text marks ns h at i) where
  at-end : length text ≤ at → typing_of text ≡ onward (listed_by (typing.missing 0 (take 29 marks))) i (given ns w.nodes)
  at-end e = w.reading ∙ ap (λ (x : List (List ℕ)). read_lines x i ns marks w.nodes) (lines_end text at e) ∙ read-end i ns marks w.nodes

  -- by what its marks answer
  pub read-end-by : length text ≤ at → (answer : Result Unit (ℕ × Fault)) → answer ≡ answer_by (listed_by (typing.missing 0 (take 29 marks))) i → Read text answer h ns
  read-end-by e answer q = subst (λ (a : Result Unit (ℕ × Fault)). Read text a h ns) (sym q) (by (listed_by (typing.missing 0 (take 29 marks))) (at-end e))
    where
      by : (m : Listed) → typing_of text ≡ onward m i (given ns w.nodes) → Read text (answer_by m i) h ns
      by taken t = record { nodes = w.nodes; holding = w.holding; reading = t }
      by (faulty f) t = t

  module _ (n : ℕ) (b : at < length text) (e : n ≡ run_of C.Line (drop at text)) where
    abbrev pub told : Result Said Fault
    told = told_of (line_at text at n b e)

    abbrev rest : Typing
    rest = read_lines (lines_of (drop (at + n + 1) text)) (i + 1) (numbers_after told marks ns) (marks_after told marks) (nodes_after told w.nodes)

    at-line : typing_of text ≡ onward (noted_of told marks) i rest
    at-line = w.reading ∙ ap (λ (x : List (List ℕ)). read_lines x i ns marks w.nodes) (line-next text at n b e)
        ∙ read-line (line_at text at n b e) (lines_of (drop (at + n + 1) text)) i ns marks w.nodes

    -- by what taking it answers
    pub line_refused : (j : ℕ) (f : Fault) → Err (j, f) ≡ answer_by (noted_of told marks) i → typing_of text ≡ refused j f
    line_refused j f e = at-line ∙ by (noted_of told marks) e
      where
        by : (m : Listed) → Err (j, f) ≡ answer_by m i → onward m i rest ≡ refused j f
        by taken q = let z : ◌≡◌ {A = ℕ} 0 1 = cc in absurd (omega arith)
        by (faulty g) q =
            let p : ◌≡◌ {A = ℕ × Fault} (j, f) (i, g) = cc in
            let k : j ≡ i = ap (λ (x : ℕ × Fault). x.0) p in
            let s : f ≡ g = ap (λ (x : ℕ × Fault). x.1) p in rw (k, s)

    listed : (m : Listed) → (Ok tt) ≡ answer_by m i → m ≡ taken
    listed taken q = refl
    listed (faulty f) q = let z : ◌≡◌ {A = ℕ} 0 1 = cc in absurd (omega arith)

    pub line_taken : (new : List ℕ) (after : List ℤ) (g : Held) → (Ok tt) ≡ answer_by (noted_of told marks) i → g ≡ heldAfter told h
        → new ≡ marks_after told marks → after ≡ numbers_after told marks ns → length new ≡ 30 → length after ≡ 30 → Walked text new after g (at + n + 1) (i + 1)
    line_taken new after g q s p r lm la =
        record {
          nodes = nodes_after told w.nodes;
          reading = at-line ∙ ap (λ (m : Listed). onward m i rest) (listed (noted_of told marks) q) ∙ rw (p, r);
          holding = s ∙ ap (heldAfter told) w.holding ∙ held_after told w.nodes;
          few = omega (arith, w.few, nodes_more told w.nodes);
          lines = omega (arith, w.lines);
          place = omega (arith, line-within text at n b e);
          marked = lm;
          fields = la;
        }

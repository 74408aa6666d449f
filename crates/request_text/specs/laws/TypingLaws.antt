-- Laws of a text's lines, one after the other.
use Rattle.std.specs.Prelude.{◌≡◌, List, [], ◌∷◌, ℕ, ◌+◌, ◌≤◌, ◌<◌, ℤ, pos, length, get_or, take, drop, set, replicate, Result, Ok, None, Err, Some, Option}
use Rattle.std.proofs.Math.Path.{refl}
use Rattle.std.proofs.Common.{sym, ap, ◌∙◌, arith, eq-eqb, ne_eqb, length-set}
use Rattle.std.proofs.lemmas.List.{length-replicate}
use Rattle.request_format.specs.declared.fields.Shape.{Shape}
use Rattle.request_format.specs.declared.fields.Shape.TheVariants as S
use Rattle.request_format.specs.Fields.{countOf}
use Rattle.tokens.specs.Text.{lines_of}
use Rattle.tokens.specs.laws.TextLaws.{from_here, from_end}
use Rattle.request_text.specs.laws.TextLineLaws.{few-lines}
use Rattle.request_text.specs.declared.Fault.{Fault}
use Rattle.request_text.specs.Lines.{number_in}
use Rattle.request_text.specs.Typing.{noted_of, marks_after, numbers_after, missing, Typing, given, refused, onward, required, untyped, read_lines, typing_of, answer_of, numbers_from}

-- ---- the fields given so far

-- what noting a line answers, and the marks and numbers after it
abbrev pub Noting : Result (Option (ℕ × ℤ)) Fault → List ℕ → List ℤ → Result Unit Fault → List ℕ → List ℤ → Type 0
Noting line marks ns r new after = (r ≡ noted_of line marks) × ((new ≡ marks_after line marks) × (after ≡ numbers_after line marks ns))

module _ (line : Result (Option (ℕ × ℤ)) Fault) (marks : List ℕ) (ns : List ℤ) where
  pub note-nothing : line ≡ Ok None → Noting line marks ns (Ok tt) marks ns
  note-nothing e = rw e (refl, (refl, refl))

  pub note-faulty : (f : Fault) → line ≡ Err f → Noting line marks ns (Err f) marks ns
  note-faulty f e = rw e (refl, (refl, refl))

  pub note-twice : (k : ℕ) (z : ℤ) → line ≡ Ok (Some (k, z)) → (get_or marks k 0 ≡ 0 → ⊥) → Noting line marks ns (Err (Fault.Twice k)) marks ns
  note-twice k z e h = rw (e, ne_eqb (get_or marks k 0) 0 h) (refl, (refl, refl))

  pub note-given : (k : ℕ) (z : ℤ) → line ≡ Ok (Some (k, z)) → get_or marks k 0 ≡ 0 → Noting line marks ns (Ok tt) (set marks k 1) (set ns k z)
  note-given k z e h = rw (e, eq-eqb (get_or marks k 0) 0 h) (refl, (refl, refl))

-- ---- no field is missing

missing_here : (k x : ℕ) (marks : List ℕ) → x ≡ 0 → missing k (x ∷ marks) ≡ Err (Fault.Missing k)
unfolding missing
missing_here k x marks e = rw (eq-eqb x 0 e)

missing_not : (k x : ℕ) (marks : List ℕ) → (x ≡ 0 → ⊥) → missing k (x ∷ marks) ≡ missing (k + 1) marks
unfolding missing
missing_not k x marks h = rw (ne_eqb x 0 h)

missing-none : (k : ℕ) → missing k [] ≡ Ok tt
unfolding missing
missing-none k = refl

-- the first k fields are given
abbrev pub Given : List ℕ → ℕ → Type 0
Given marks k = missing 0 marks ≡ missing k (drop k marks)

module _ (marks : List ℕ) (k : ℕ) (g : Given marks k) where
  pub given-not : k < length marks → get_or marks k 0 ≡ 0 → Err (Fault.Missing k) ≡ missing 0 marks
  given-not l e = sym (g ∙ rw (from_here marks k 0 l) (missing_here k (get_or marks k 0) (drop (k + 1) marks) e))

  pub given-more : k < length marks → (get_or marks k 0 ≡ 0 → ⊥) → Given marks (k + 1)
  given-more l h = g ∙ rw (from_here marks k 0 l) (missing_not k (get_or marks k 0) (drop (k + 1) marks) h)

  pub given-all : length marks ≤ k → (Ok tt) ≡ missing 0 marks
  given-all l = sym (g ∙ rw (from_end marks k l) (missing-none k))

-- ---- the lines one after the other

module _ (shape : Shape) where
  pub read-end : (i : ℕ) (ns : List ℤ) (marks : List ℕ) → read_lines shape [] i ns marks ≡ onward (missing 0 (take (required shape) marks)) i (given ns)
  unfolding read_lines
  read-end i ns marks = refl

  pub read-line : (l : List ℕ) (ls : List (List ℕ)) (i : ℕ) (ns : List ℤ) (marks : List ℕ)
      → read_lines shape (l ∷ ls) i ns marks
      ≡ onward (noted_of (number_in shape l) marks) i
      (read_lines shape ls (i + 1) (numbers_after (number_in shape l) marks ns) (marks_after (number_in shape l) marks))
  unfolding read_lines
  read-line l ls i ns marks = refl

-- a request has numbers, and few
pub count_small : (shape : Shape) → (1 ≤ countOf shape) × (countOf shape ≤ 30)
count_small S.Eclipse = (omega arith, omega arith)
count_small S.Star = (omega arith, omega arith)

-- the guard is the last number
pub untyped-is : (shape : Shape) → set (replicate (countOf shape) (pos 0)) (required shape) (pos 16) ≡ untyped shape
untyped-is S.Eclipse = refl
untyped-is S.Star = refl

-- the lines before those that are left were taken, and left these marks and numbers; the next is line i
pub record Walked (shape : Shape) (text : List ℕ) (marks : List ℕ) (ns : List ℤ) (left : List (List ℕ)) (i : ℕ) : Type 0 where
  pub reading : typing_of shape text ≡ read_lines shape left i ns marks
  pub lines : i + length left ≤ length text + 1
  pub marked : length marks ≡ countOf shape
  pub fields : length ns ≡ countOf shape

pub typing_start : (shape : Shape) (text marks : List ℕ) (ns : List ℤ) (left : List (List ℕ)) → marks ≡ replicate (countOf shape) 0
    → ns ≡ replicate (countOf shape) (pos 0) → left ≡ lines_of text → Walked shape text marks (set ns (required shape) (pos 16)) left 1
unfolding typing_of
typing_start shape text marks ns left m n l =
    record {
      reading = rw (m, n, l, untyped-is shape);
      lines = rw l (omega (arith, few-lines text));
      marked = ap length m ∙ length-replicate (countOf shape) 0;
      fields = length-set ns (required shape) (pos 16) ∙ ap length n ∙ length-replicate (countOf shape) (pos 0);
    }

-- an answer, and the same with its line before the fault
pub record Placed (i : ℕ) (r : Result Unit Fault) (m : Result Unit (ℕ × Fault)) : Type 0 where
  pub fault : (f : Fault) → r ≡ Err f → m ≡ Err (i, f)
  pub done : r ≡ Ok tt → m ≡ Ok tt

module _ (i : ℕ) where
  pub placed_done : (r : Result Unit Fault) (m : Result Unit (ℕ × Fault)) → Placed i r m → m ≡ Ok tt → r ≡ Ok tt
  placed_done (Ok tt) m p e = refl
  placed_done (Err f) m p e = let q = p.fault f refl in absurd cc

  pub placed_fault : (r : Result Unit Fault) (m : Result Unit (ℕ × Fault)) (x : ℕ × Fault) → Placed i r m → m ≡ Err x
      → (f : Fault) × (r ≡ Err f) × (x ≡ (i, f))
  placed_fault (Ok tt) m x p e = let q = p.done refl in absurd cc
  placed_fault (Err f) m x p e = let q = p.fault f refl in (f, refl, cc)

-- the answer, and the numbers where there is no fault
pub record Read (shape : Shape) (text : List ℕ) (r : Result Unit (ℕ × Fault)) (found : List ℤ) : Type 0 where
  pub answer : r ≡ answer_of (typing_of shape text)
  pub all : r ≡ Ok tt → typing_of shape text ≡ given found

module _ (shape : Shape) (text marks : List ℕ) (ns : List ℤ) (left : List (List ℕ)) (i : ℕ) (w : Walked shape text marks ns left i) where
  read-fault : (f : Fault) (found : List ℤ) → typing_of shape text ≡ refused i f → Read shape text (Err (i, f)) found
  read-fault f found e = record { answer = ap answer_of (sym e); all = λ q. let z : ◌≡◌ {A = ℕ} 0 1 = cc in absurd (omega arith) }

  at-end : left ≡ [] → typing_of shape text ≡ onward (missing 0 (take (required shape) marks)) i (given ns)
  at-end h = w.reading ∙ ap (λ (l : List (List ℕ)). read_lines shape l i ns marks) h ∙ read-end shape i ns marks

  pub end-missing : left ≡ [] → (f : Fault) → missing 0 (take (required shape) marks) ≡ Err f → Read shape text (Err (i, f)) ns
  end-missing h f e = read-fault f ns (at-end h ∙ ap (λ (m : Result Unit Fault). onward m i (given ns)) e)

  pub end-all : left ≡ [] → missing 0 (take (required shape) marks) ≡ Ok tt → Read shape text (Ok tt) ns
  end-all h e = let t = at-end h ∙ ap (λ (m : Result Unit Fault). onward m i (given ns)) e in record { answer = ap answer_of (sym t); all = λ q. t }

  pub ends : left ≡ [] → (m : Result Unit (ℕ × Fault)) → Placed i (missing 0 (take (required shape) marks)) m → Read shape text m ns
  ends h m p = by (missing 0 (take (required shape) marks)) refl
    where
      by : (r : Result Unit Fault) → missing 0 (take (required shape) marks) ≡ r → Read shape text m ns
      by (Ok tt) e = rw (p.done e) (end-all h e)
      by (Err f) e = rw (p.fault f e) (end-missing h f e)

  -- the line that stands there, and those after it
  module _ (line : List ℕ) (next : List (List ℕ)) (h : left ≡ line ∷ next) where
    abbrev pub told : Result (Option (ℕ × ℤ)) Fault
    told = number_in shape line

    abbrev rest : Typing
    rest = read_lines shape next (i + 1) (numbers_after told marks ns) (marks_after told marks)

    at-line : typing_of shape text ≡ onward (noted_of told marks) i rest
    at-line = w.reading ∙ ap (λ (l : List (List ℕ)). read_lines shape l i ns marks) h ∙ read-line shape line next i ns marks

    pub line_refused : (f : Fault) (found : List ℤ) → noted_of told marks ≡ Err f → Read shape text (Err (i, f)) found
    line_refused f found q = read-fault f found (at-line ∙ ap (λ (m : Result Unit Fault). onward m i rest) q)

    pub line_told : (m : Result Unit (ℕ × Fault)) (x : ℕ × Fault) (found : List ℤ) → Placed i (noted_of told marks) m → m ≡ Err x
        → Read shape text (Err x) found
    line_told m x found p e =
        let q = placed_fault i (noted_of told marks) m x p e in
        rw q.2 (line_refused q.0 found q.1)

    pub line_taken : (new : List ℕ) (after : List ℤ) → noted_of told marks ≡ Ok tt → new ≡ marks_after told marks → after ≡ numbers_after told marks ns
        → length new ≡ countOf shape → length after ≡ countOf shape → Walked shape text new after next (i + 1)
    line_taken new after q p r lm la =
        record {
          reading = at-line ∙ ap (λ (m : Result Unit Fault). onward m i rest) q ∙ rw (p, r);
          lines = omega (arith, w.lines, ap (λ (l : List (List ℕ)). length l) h);
          marked = lm;
          fields = la;
        }

-- ---- what is promised

module _ (shape : Shape) (text : List ℕ) (r : Result Unit (ℕ × Fault)) (found old : List ℤ) (l : Read shape text r found) where
  pub numbers-typed : r ≡ Ok tt → (r ≡ answer_of (typing_of shape text)) × (found ≡ numbers_from (typing_of shape text) old)
  numbers-typed e = (l.answer, rw (l.all e))

  pub numbers-kept : (i : ℕ) (f : Fault) → r ≡ Err (i, f) → (r ≡ answer_of (typing_of shape text)) × (old ≡ numbers_from (typing_of shape text) old)
  numbers-kept i f e = (l.answer, by (typing_of shape text) (sym l.answer ∙ e))
    where
      by : (x : Typing) → answer_of x ≡ Err (i, f) → old ≡ numbers_from x old
      by (given ns) q = let z : ◌≡◌ {A = ℕ} 0 1 = cc in absurd (omega arith)
      by (refused j g) q = refl

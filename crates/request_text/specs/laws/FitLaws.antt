-- The numbers of a typed request fit their bytes.
use Rattle.std.specs.Prelude.{◌≡◌, refl, Bool, true, false, cond, List, [], ◌∷◌, ℕ, ◌+◌, ◌<◌, eqb, ℤ, pos, length, get_or, set, take, replicate, Result, Ok, None, Err, Some, Option}
use Rattle.std.proofs.Common.{sym, subst, ◌∙◌, arith, length-set, get_or-set_same, get_or-set_other}
use Rattle.std.proofs.Math.Decide.{dec_lt}
use Rattle.std.proofs.lemmas.List.{length-replicate, get_or-replicate}
use Rattle.request_text.specs.declared.Fault.{Fault}
use Rattle.request_format.specs.declared.fields.Shape.{Shape}
use Rattle.request_format.specs.declared.fields.Shape.TheVariants as S
use Rattle.request_format.specs.Fields.{holds, countOf}
use Rattle.request_format.specs.Rows.{rows, rowAt, width_of}
use Rattle.request_format.specs.laws.WidthLaws.{held_zero}
use Rattle.tokens.specs.Text.{lines_of}
use Rattle.request_text.specs.Lines.{said, number_in}
use Rattle.request_text.specs.laws.LineLaws.{InFields, number-in}
use Rattle.request_text.specs.Typing.{noted_of, marks_after, numbers_after, missing, Typing, given, onward, required, untyped, read_lines, typing_of}
use Rattle.request_text.specs.laws.TypingLaws.{read-end, read-line, untyped-is}

-- ---- the numbers of a text fit their bytes

-- as many numbers as a request has, each of which its bytes hold
pub record Fit (shape : Shape) (ns : List ℤ) : Type 0 where
  pub all : length ns ≡ countOf shape
  pub each : (k : ℕ) → k < countOf shape → holds (width_of shape k) (get_or ns k (pos 0)) ≡ true

fit_set : (shape : Shape) (ns : List ℤ) (k : ℕ) (z : ℤ) → Fit shape ns → k < countOf shape → holds (width_of shape k) z ≡ true → Fit shape (set ns k z)
fit_set shape ns k z f l b = record { all = length-set ns k z ∙ f.all; each = by }
  where
    by : (j : ℕ) → j < countOf shape → holds (width_of shape j) (get_or (set ns k z) j (pos 0)) ≡ true
    by j h =
        elim (dec_lt j k) [
          | yes s ↦ rw (get_or-set_other ns k j z (pos 0) (λ e. omega arith)) (f.each j h)
          | no s ↦ elim (dec_lt k j) [
            | yes t ↦ rw (get_or-set_other ns k j z (pos 0) (λ e. omega arith)) (f.each j h)
            | no t ↦ let e : j ≡ k = omega arith in rw e (rw (get_or-set_same ns k z (pos 0) (omega (arith, f.all))) b)
          ]
        ]

fit_line : (shape : Shape) (s : List ℕ) (line : Result (Option (ℕ × ℤ)) Fault) (marks : List ℕ) (ns : List ℤ) → InFields shape s line → Fit shape ns → Fit shape (numbers_after line marks ns)
fit_line shape s (Ok None) marks ns i f = f
fit_line shape s (Err x) marks ns i f = f
fit_line shape s (Ok (Some (k, z))) marks ns i f = by (eqb (get_or marks k 0) 0)
  where
    by : (b : Bool) → Fit shape (cond b (set ns k z) ns)
    by true = fit_set shape ns k z f i.0 i.2
    by false = f

-- a reading that gives numbers went on
pub onward-taken : (m : Result Unit Fault) (i : ℕ) (r : Typing) (ns : List ℤ) → onward m i r ≡ given ns → r ≡ given ns
onward-taken (Ok tt) i r ns e = e
onward-taken (Err f) i r ns e = let z : ◌≡◌ {A = ℕ} 0 1 = cc in absurd (omega arith)

same_numbers : (a b : List ℤ) → given a ≡ given b → a ≡ b
same_numbers a b e = cc

lines_fit : (shape : Shape) (ls : List (List ℕ)) (i : ℕ) (ns : List ℤ) (marks : List ℕ) (out : List ℤ) → Fit shape ns → read_lines shape ls i ns marks ≡ given out → Fit shape out
lines_fit shape [] i ns marks out f e =
    subst (Fit shape) (same_numbers ns out (onward-taken (missing 0 (take (required shape) marks)) i (given ns) out (sym (read-end shape i ns marks) ∙ e))) f
lines_fit shape (l ∷ ls) i ns marks out f e =
    let m = number_in shape l in
    lines_fit shape ls (i + 1) (numbers_after m marks ns) (marks_after m marks) out (fit_line shape (said l) m marks ns (number-in shape l) f)
    (onward-taken (noted_of m marks) i (read_lines shape ls (i + 1) (numbers_after m marks ns) (marks_after m marks)) out (sym (read-line shape l ls i ns marks) ∙ e))

-- zeros and the guard that is left out
zeros_fit : (shape : Shape) → Fit shape (replicate (countOf shape) (pos 0))
zeros_fit shape =
    record {
      all = length-replicate (countOf shape) (pos 0);
      each = λ k h. rw (get_or-replicate (countOf shape) k (pos 0) (pos 0) h) (held_zero (width_of shape k));
    }

guard-fits : (shape : Shape) → (required shape < countOf shape) × (holds (width_of shape (required shape)) (pos 16) ≡ true)
unfolding holds rowAt rows
guard-fits S.Eclipse = (omega arith, refl)
guard-fits S.Star = (omega arith, refl)

untyped_fit : (shape : Shape) → Fit shape (untyped shape)
untyped_fit shape =
    subst (Fit shape) (untyped-is shape)
    (fit_set shape (replicate (countOf shape) (pos 0)) (required shape) (pos 16) (zeros_fit shape) (guard-fits shape).0 (guard-fits shape).1)

pub numbers_fit : (shape : Shape) (text : List ℕ) (ns : List ℤ) → typing_of shape text ≡ given ns → Fit shape ns
unfolding typing_of
numbers_fit shape text ns e = lines_fit shape (lines_of text) 1 (untyped shape) (replicate (countOf shape) 0) ns (untyped_fit shape) e

-- No text gives all numbers of an eclipse and is taken for a star's, or the other way round (`shape_is`): an eclipse
-- has no radius, and a star's must be typed.
use Rattle.std.specs.Prelude.{◌≡◌, refl, Bool, true, false, cond, not, ◌&&◌, ◌||◌, List, [], ◌∷◌, ℕ, zero, suc, ◌+◌, ◌<◌, T, eqb, ℤ, length, get_or, set, take, replicate, None, Err, Result, Ok, Some, Option}
use Rattle.std.proofs.Common.{sym, subst, ◌∙◌, arith, eqb-true, ne_eqb, eq-eqb, length-set, get_or-set_other, get_or-take, length-take-le}
use Rattle.std.proofs.lemmas.Bool.{eqb-false}
use Rattle.request_text.specs.declared.Fault.{Fault}
use Rattle.rounding.specs.laws.Tests.{both}
use Rattle.request_format.specs.declared.fields.Shape.{Shape}
use Rattle.request_format.specs.declared.fields.Shape.TheVariants as S
use Rattle.request_format.specs.Fields.{countOf}
use Rattle.request_format.specs.Rows.{letters}
use Rattle.tokens.specs.Text.{lines_of}
use Rattle.request_text.specs.Names.{names, named, find_in}
use Rattle.request_text.specs.laws.NameLaws.{find_none, find_miss, named-length}
use Rattle.request_text.specs.Lines.{said, number_in}
use Rattle.request_text.specs.laws.LineLaws.{InFields, meaning-some, number-in, number-said, field_none}
use Rattle.request_text.specs.Shapes.{shape_in, shape_of}
use Rattle.request_text.specs.laws.ShapeLaws.{shape_none, shape-hit, shape-miss}
use Rattle.request_text.specs.Typing.{noted_of, marks_after, numbers_after, missing, Typing, given, refused, onward, untyped, read_lines, typing_of}
use Rattle.request_text.specs.laws.TypingLaws.{read-end, read-line}
use Rattle.request_text.specs.laws.FitLaws.{onward-taken}

abbrev radius : List ℕ
radius = letters "radius"

-- ---- an eclipse

-- none of these names begins as the radius does
others : List (List ℕ) → Bool
others [] = true
others ([] ∷ ns) = false
others ((c ∷ n) ∷ ns) = not (eqb c 114) && others ns

all_others : T (others (names S.Eclipse))
unfolding others names
all_others = tt

-- so where the radius is said none of them is
nowhere : (ns : List (List ℕ)) (k : ℕ) (s : List ℕ) → T (others ns) → named radius s ≡ true → find_in ns k s ≡ None
unfolding others named
nowhere [] k s t e = find_none k s
nowhere ([] ∷ ns) k s t e = absurd t
nowhere ((c ∷ n) ∷ ns) k [] t e = let z : ◌≡◌ {A = ℕ} 0 1 = cc in absurd (omega arith)
nowhere ((c ∷ n) ∷ ns) k (x ∷ s) t e = by (eqb c 114) refl t (λ u. nowhere ns (k + 1) (x ∷ s) u e)
  where
    x-is : x ≡ 114
    x-is = eqb-true x 114 (both (eqb x 114) (named (letters "adius") s) e).0

    by : (b : Bool) → eqb c 114 ≡ b → T (not b && others ns) → (T (others ns) → find_in ns (k + 1) (x ∷ s) ≡ None)
        → find_in ((c ∷ n) ∷ ns) k (x ∷ s) ≡ None
    by true q u go = absurd u
    by false q u go = find_miss (c ∷ n) ns k (x ∷ s) (rw (ne_eqb x c (λ r. eqb-false c 114 q (sym r ∙ x-is)))) ∙ go u

-- and no instant and no TAI-UTC
pub no_clock : (s : List ℕ) → named (letters "radius") s ≡ true → (named (letters "instant") s || named (letters "tai-utc") s) ≡ false
unfolding named
no_clock [] e = refl
no_clock (x ∷ s) e =
    let r : x ≡ 114 = eqb-true x 114 (both (eqb x 114) (named (letters "adius") s) e).0 in
    rw (ne_eqb x 105 (λ q. omega arith), ne_eqb x 116 (λ q. omega arith))

unknown : (l : List ℕ) → named radius (said l) ≡ true → number_in S.Eclipse l ≡ Err Fault.Unknown
unknown l e =
    sym (field_none S.Eclipse (said l) (nowhere (names S.Eclipse) 0 (said l) all_others e)
    ∙ meaning-some S.Eclipse l (said l) refl (λ q. omega (arith, named-length radius (said l) e))
    ∙ number-said S.Eclipse l (no_clock (said l) e))

eclipse-lines : (ls : List (List ℕ)) (i : ℕ) (ns : List ℤ) (marks : List ℕ) (out : List ℤ) → read_lines S.Eclipse ls i ns marks ≡ given out
    → shape_in ls ≡ S.Eclipse
eclipse-lines [] i ns marks out e = shape_none
eclipse-lines (l ∷ ls) i ns marks out e = by (named radius (said l)) refl (λ q. eclipse-lines ls (i + 1) _ _ out q)
  where
    m : Result (Option (ℕ × ℤ)) Fault
    m = number_in S.Eclipse l

    rest : Typing
    rest = read_lines S.Eclipse ls (i + 1) (numbers_after m marks ns) (marks_after m marks)

    here : onward (noted_of m marks) i rest ≡ given out
    here = sym (read-line S.Eclipse l ls i ns marks) ∙ e

    by : (b : Bool) → named radius (said l) ≡ b → (rest ≡ given out → shape_in ls ≡ S.Eclipse) → shape_in (l ∷ ls) ≡ S.Eclipse
    by true y go =
        let h : refused i Fault.Unknown ≡ given out = subst (λ (x : Result (Option (ℕ × ℤ)) Fault). onward (noted_of x marks) i rest ≡ given out) (unknown l y) here in
        let z : ◌≡◌ {A = ℕ} 0 1 = cc in absurd (omega arith)
    by false y go = shape-miss l ls y ∙ go (onward-taken (noted_of m marks) i rest out here)

-- ---- a star

-- a field that is not marked is missing
missing_at : (marks : List ℕ) (j k : ℕ) → k < length marks → get_or marks k 0 ≡ 0 → missing j marks ≡ Ok tt → ⊥
unfolding missing
missing_at [] j k h e t = omega arith
missing_at (x ∷ marks) j zero h e t = let r : Err (Fault.Missing j) ≡ (Ok tt) = rw (eq-eqb x 0 e) at t in let z : ◌≡◌ {A = ℕ} 0 1 = cc in omega arith
missing_at (x ∷ marks) j (suc k) h e t = by (eqb x 0) t (missing_at marks (j + 1) k (omega arith) e)
  where
    by : (b : Bool) → cond b (Err (Fault.Missing j)) (missing (j + 1) marks) ≡ Ok tt → (missing (j + 1) marks ≡ Ok tt → ⊥) → ⊥
    by true q go = let z : ◌≡◌ {A = ℕ} 0 1 = cc in omega arith
    by false q go = go q

-- the radius is not marked
record Unmarked (marks : List ℕ) : Type 0 where
  all : length marks ≡ countOf S.Star
  none : get_or marks 12 0 ≡ 0

-- by a line that does not name it
unmarked : (line : Result (Option (ℕ × ℤ)) Fault) (s marks : List ℕ) → InFields S.Star s line → named radius s ≡ false → Unmarked marks → Unmarked (marks_after line marks)
unfolding names
unmarked (Ok None) s marks i y u = u
unmarked (Err f) s marks i y u = u
unmarked (Ok (Some (k, z))) s marks i y u = by (eqb (get_or marks k 0) 0)
  where
    other : 12 ≡ k → ⊥
    other e =
        let t : named radius s ≡ true = subst (λ (j : ℕ). named (get_or (names S.Star) j []) s ≡ true) (sym e) i.1 in
        let q : ◌≡◌ {A = ℕ} 0 1 = cc in omega arith

    by : (b : Bool) → Unmarked (cond b (set marks k 1) marks)
    by true = record { all = length-set marks k 1 ∙ u.all; none = get_or-set_other marks k 12 1 0 other ∙ u.none }
    by false = u

star-lines : (ls : List (List ℕ)) (i : ℕ) (ns : List ℤ) (marks : List ℕ) (out : List ℤ) → Unmarked marks → read_lines S.Star ls i ns marks ≡ given out
    → shape_in ls ≡ S.Star
star-lines [] i ns marks out u e = by (missing 0 (take 20 marks)) refl (sym (read-end S.Star i ns marks) ∙ e)
  where
    by : (m : Result Unit Fault) → missing 0 (take 20 marks) ≡ m → onward m i (given ns) ≡ given out → shape_in [] ≡ S.Star
    by (Ok tt) q t =
        absurd (missing_at (take 20 marks) 0 12 (omega (arith, length-take-le 20 marks (omega (arith, u.all)))) (get_or-take 20 marks 12 0 (omega arith) ∙ u.none) q)
    by (Err f) q t = let z : ◌≡◌ {A = ℕ} 0 1 = cc in absurd (omega arith)
star-lines (l ∷ ls) i ns marks out u e = by (named radius (said l)) refl (λ v q. star-lines ls (i + 1) _ _ out v q)
  where
    m : Result (Option (ℕ × ℤ)) Fault
    m = number_in S.Star l

    rest : Typing
    rest = read_lines S.Star ls (i + 1) (numbers_after m marks ns) (marks_after m marks)

    by : (b : Bool) → named radius (said l) ≡ b → (Unmarked (marks_after m marks) → rest ≡ given out → shape_in ls ≡ S.Star) → shape_in (l ∷ ls) ≡ S.Star
    by true y go = shape-hit l ls y
    by false y go =
        shape-miss l ls y
        ∙ go (unmarked m (said l) marks (number-in S.Star l) y u) (onward-taken (noted_of m marks) i rest out (sym (read-line S.Star l ls i ns marks) ∙ e))

-- ---- the theorem

pub shape_is : (shape : Shape) (text : List ℕ) (ns : List ℤ) → typing_of shape text ≡ given ns → shape_of text ≡ shape
unfolding typing_of shape_of
shape_is S.Eclipse text ns e = eclipse-lines (lines_of text) 1 (untyped S.Eclipse) (replicate 30 0) ns e
shape_is S.Star text ns e = star-lines (lines_of text) 1 (untyped S.Star) (replicate 21 0) ns (record { all = refl; none = refl }) e

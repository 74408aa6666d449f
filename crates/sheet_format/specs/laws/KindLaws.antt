-- Laws of the table of kinds.
use Rattle.std.specs.Prelude.{ℕ, ◌+◌, ◌-◌, ◌*◌, ◌/◌, ◌%◌, ◌≤◌, ◌<◌, ◌≡◌, refl, List, [], ◌∷◌, true, false, cond, None, Some}
use Rattle.std.proofs.Common.{sym, ap, ◌∙◌, arith, eq-eqb, ne_eqb}
use Rattle.std.proofs.Math.Decide.{ℕ_discrete}
use Rattle.sheet_types.specs.declared.phases.Phase.{Phase}
use Rattle.sheet_types.specs.declared.phases.Phase.TheVariants.{Penumbra, Central, Star}
use Rattle.sheet_format.specs.declared.kinds.Kind.{Kind}
use Rattle.sheet_format.specs.declared.kinds.Kind.TheVariants as K
use Rattle.sheet_format.specs.declared.kinds.Width.{Width}
use Rattle.sheet_format.specs.declared.kinds.Width.TheVariants.{Absent, Two, Four}
use Rattle.sheet_format.specs.declared.kinds.Entry.{Entry}
use Rattle.rounding.specs.laws.Tests.{both, distinct}
use Rattle.sheet_format.specs.Kinds.{base, code_of, kinds, among, kind_for, widths_of, bytes_in, size_of, is_end, unused, plain}

-- a number that is no phase's kind and none of the others names none
pub no_kind : (x : ℕ) → (x ≡ 0x01 → ⊥) → (x ≡ 0x30 → ⊥) → (x ≡ 0x31 → ⊥) → (x ≡ 0x7f → ⊥) → ((φ : Phase) (y : ℕ) → y < 4 → x ≡ base φ + y → ⊥)
    → kind_for x ≡ None
no_kind x a b c d p =
    rw (
      ne_eqb x 0x01 a,
      ne_eqb x 0x10 (p Penumbra 0 (omega arith)),
      ne_eqb x 0x11 (p Penumbra 1 (omega arith)),
      ne_eqb x 0x12 (p Penumbra 2 (omega arith)),
      ne_eqb x 0x13 (p Penumbra 3 (omega arith)),
      ne_eqb x 0x20 (p Central 0 (omega arith)),
      ne_eqb x 0x21 (p Central 1 (omega arith)),
      ne_eqb x 0x22 (p Central 2 (omega arith)),
      ne_eqb x 0x23 (p Central 3 (omega arith)),
      ne_eqb x 0x30 b,
      ne_eqb x 0x31 c,
      ne_eqb x 0x40 (p Star 0 (omega arith)),
      ne_eqb x 0x41 (p Star 1 (omega arith)),
      ne_eqb x 0x42 (p Star 2 (omega arith)),
      ne_eqb x 0x43 (p Star 3 (omega arith)),
      ne_eqb x 0x7f d,
    )

-- the byte of a kind names it
pub kind_code : (k : Kind) → kind_for (code_of k) ≡ Some k
kind_code K.Head = refl
kind_code (K.Enter Penumbra) = refl
kind_code (K.Enter Central) = refl
kind_code (K.Enter Star) = refl
kind_code (K.Leave Penumbra) = refl
kind_code (K.Leave Central) = refl
kind_code (K.Leave Star) = refl
kind_code (K.Graze Penumbra) = refl
kind_code (K.Graze Central) = refl
kind_code (K.Graze Star) = refl
kind_code (K.Open Penumbra) = refl
kind_code (K.Open Central) = refl
kind_code (K.Open Star) = refl
kind_code K.Closest = refl
kind_code K.Share = refl
kind_code K.End = refl

among_inv : (ks : List Kind) (x : ℕ) (k : Kind) → among x ks ≡ Some k → x ≡ code_of k
among_inv [] x k q = let z : ◌≡◌ {A = ℕ} 0 1 = cc in absurd (omega arith)
among_inv (j ∷ ks) x k q =
    elim (ℕ_discrete x (code_of j)) [
      | yes e ↦ let t : Some j ≡ Some k = sym (ap (λ b. cond b (Some j) (among x ks)) (eq-eqb x (code_of j) e)) ∙ q in
          let u : j ≡ k = cc in e ∙ ap code_of u
      | no n ↦ among_inv ks x k (sym (ap (λ b. cond b (Some j) (among x ks)) (ne_eqb x (code_of j) n)) ∙ q)
    ]

-- a number that names a kind is its byte
pub kind_inv : (x : ℕ) (k : Kind) → kind_for x ≡ Some k → x ≡ code_of k
kind_inv x k q = among_inv kinds x k q

pub width_small : (w : Width) → bytes_in w ≤ 4
width_small Absent = omega arith
width_small Two = omega arith
width_small Four = omega arith

pub size_small : (k : Kind) → (0 < size_of k) × (size_of k ≤ 17)
size_small k =
    let w = widths_of k in
    omega (arith, width_small w.a, width_small w.b, width_small w.c, width_small w.d)

pub size_nine : (k : Kind) → size_of k ≤ 9
size_nine K.Head = omega arith
size_nine (K.Enter φ) = omega arith
size_nine (K.Leave φ) = omega arith
size_nine (K.Graze φ) = omega arith
size_nine (K.Open φ) = omega arith
size_nine K.Closest = omega arith
size_nine K.Share = omega arith
size_nine K.End = omega arith

-- the bytes of a record by its kind's byte: a graze's and an open's have the bit of two and two bytes less; the end
-- has less still, the head more, and the share's does not decide
abbrev pub shortened : ℕ → ℕ
shortened code = 7 - code % 4 / 2 * 2

pub size-end : (k : Kind) → is_end k ≡ true → size_of k ≡ 1
size-end K.Head e = absurd (distinct (sym e))
size-end (K.Enter φ) e = absurd (distinct (sym e))
size-end (K.Leave φ) e = absurd (distinct (sym e))
size-end (K.Graze φ) e = absurd (distinct (sym e))
size-end (K.Open φ) e = absurd (distinct (sym e))
size-end K.Closest e = absurd (distinct (sym e))
size-end K.Share e = absurd (distinct (sym e))
size-end K.End e = refl

pub size_byte : (k : Kind) → is_end k ≡ false → (code_of k ≡ 0x01 → ⊥) → (code_of k ≡ 0x31 → ⊥) → shortened (code_of k) ≡ size_of k
size_byte K.Head e n m = absurd (n refl)
size_byte (K.Enter Penumbra) e n m = refl
size_byte (K.Enter Central) e n m = refl
size_byte (K.Enter Star) e n m = refl
size_byte (K.Leave Penumbra) e n m = refl
size_byte (K.Leave Central) e n m = refl
size_byte (K.Leave Star) e n m = refl
size_byte (K.Graze Penumbra) e n m = refl
size_byte (K.Graze Central) e n m = refl
size_byte (K.Graze Star) e n m = refl
size_byte (K.Open Penumbra) e n m = refl
size_byte (K.Open Central) e n m = refl
size_byte (K.Open Star) e n m = refl
size_byte K.Closest e n m = refl
size_byte K.Share e n m = absurd (m refl)
size_byte K.End e n m = absurd (distinct e)

-- a kind is the only one of its byte
size_of_byte : (k j : Kind) → code_of k ≡ code_of j → size_of k ≡ size_of j
size_of_byte k j e = ap size_of (let h : Some k ≡ Some j = sym (kind_code k) ∙ ap kind_for e ∙ kind_code j in let i : k ≡ j = cc in i)

pub size-head : (k : Kind) → code_of k ≡ 0x01 → size_of k ≡ 9
size-head k e = size_of_byte k K.Head e

pub size-share : (k : Kind) → code_of k ≡ 0x31 → size_of k ≡ 5
size-share k e = size_of_byte k K.Share e

-- what the kind does not use is 0
pub plain_inv : (e : Entry) → plain e ≡ true → let w = widths_of e.kind in
    (unused w.a e.a ≡ true) × (unused w.b e.b ≡ true) × (unused w.c e.c ≡ true) × (unused w.d e.d ≡ true)
unfolding plain
plain_inv e q =
    let x = both _ _ q in
    let y = both _ _ x.0 in
    let z = both _ _ y.0 in
    (z.0, z.1, y.1, x.1)
